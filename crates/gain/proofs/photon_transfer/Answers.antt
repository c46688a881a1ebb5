-- `photon_transfer` is right because a point converts to itself.
use mathlib.Core.List.{List}
use mathlib.Core.Path.{◌≡◌, ap, ◌∙◌}
use Rattle.std.proofs.lemmas.List.{map-id}
use Rattle.gain.specs.Gain.{curve_of, transfer_answer, paper_of}
use Rattle.gain.specs.Walk.{walked_answer}
use Rattle.gain.specs.declared.Point.{Point}
use Rattle.gain.proofs.Walks.{answer_is, paper_of_lem}
use Rattle.gain.proofs.photon_transfer.Goals as goal
use Rattle.gain.proofs.photon_transfer.Goals.{After-transfer}

answered : (c : After-transfer) → c.transfer.result ≡ transfer_answer (curve_of c.args.points.now) c.args.first c.args.last
answered c =
    c.transfer.ensures (λ (p : Point). p) (λ x p e. e)
    ∙ ap (λ (ps : List Point). walked_answer (curve_of ps) c.args.first c.args.last) (map-id c.args.points.now)
    ∙ answer_is (curve_of c.args.points.now) c.args.first c.args.last

pub returns-clause-answer : goal.returns-clause-answer
returns-clause-answer c = answered (goal.at.returns-clause-answer c).After-transfer

pub returns-clause-paper : goal.returns-clause-paper
returns-clause-paper c = ap paper_of (answered (goal.at.returns-clause-paper c).After-transfer) ∙ paper_of_lem (curve_of c.args.points.now) c.args.first c.args.last
