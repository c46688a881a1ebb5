-- `transfer_of_rows` is right because a row converts to its point.
use mathlib.Core.Path.{◌≡◌, ap, ◌∙◌}
use Rattle.gain.specs.Gain.{Curve, curve_of_rows, point_of, transfer_answer, paper_of}
use Rattle.gain.specs.Walk.{walked_answer}
use Rattle.gain.proofs.Walks.{answer_is, rows_curve, paper_of_lem}
use Rattle.gain.proofs.transfer_of_rows.Goals as goal
use Rattle.gain.proofs.transfer_of_rows.Goals.{After-transfer}

answered : (c : After-transfer) → c.transfer.result ≡ transfer_answer (curve_of_rows c.args.rows.now) c.args.first c.args.last
answered c =
    c.transfer.ensures point_of (λ x p e. e)
    ∙ ap (λ (d : Curve). walked_answer d c.args.first c.args.last) (rows_curve c.args.rows.now)
    ∙ answer_is (curve_of_rows c.args.rows.now) c.args.first c.args.last

pub returns-clause-answer : goal.returns-clause-answer
returns-clause-answer c = answered (goal.at.returns-clause-answer c).After-transfer

pub returns-clause-paper : goal.returns-clause-paper
returns-clause-paper c = ap paper_of (answered (goal.at.returns-clause-paper c).After-transfer) ∙ paper_of_lem (curve_of_rows c.args.rows.now) c.args.first c.args.last
