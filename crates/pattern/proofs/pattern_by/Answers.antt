-- `pattern_by` is right because it measures only what nothing refuses, and then every sum is seen.
use mathlib.Core.Path.{sym, ◌∙◌}
use Rattle.pattern.proofs.Judges.{Clean, clean, figures_seen, accepted_is, paper_of_answer}
use Rattle.pattern.proofs.pattern_by.Goals as goal
use Rattle.pattern.proofs.pattern_by.Goals.{In_ok-judge}

passed : (c : In_ok-judge)
    → Clean c.args.lines c.args.width c.args.height c.args.full_scale c.args.frames c.args.mask.now c.args.sums.now
passed c = clean _ _ _ _ _ _ _ (sym c.in_ok-judge.ensures)

pub measure-requires : goal.measure-requires
measure-requires c = let was = passed (goal.at.measure-requires c).In_ok-judge in (was.enough, was.fair)

pub returns : goal.returns
returns c =
    let answer = accepted_is _ _ _ _ _ _ _ _ (sym c.in_ok-judge.ensures) (c.measure.ensures ∙ figures_seen _ _ _ _ _ _ _ (passed (goal.at.returns c).In_ok-judge)) in
    record { answer = answer; paper = paper_of_answer _ _ _ _ _ _ _ answer }
