-- `judge` is right because it asks the definition's tests in its order, and how many marks are needed of legal sides alone.
use Prim.Native.Nat.{ℕ, ◌≤◌}
use mathlib.Core.Path.{◌≡◌, refl, ap, ◌∙◌}
use native.Mathlib.Omega.{arith}
use lib.Dec.{ltb}
use Rattle.std.proofs.lemmas.Result.{err_from_is_err_and}
use Rattle.verdict.specs.Verdict.{refuse_if}
use Rattle.verdict.proofs.Verdicts.{stopped, moved_on}
use Rattle.verdict.specs.declared.Refusal.TheVariants.{TooSmall}
use Rattle.refusals.proofs.Judges.{frame_of}
use Rattle.lines.specs.Marks.{marks_of}
use Rattle.lines.specs.Walk.{lined}
use Rattle.lines.proofs.Marking.{judged}
use Rattle.lines.proofs.judge.Goals as goal
use Rattle.lines.proofs.judge.Goals.{After-judge_frame}

-- so many marks are needed, of no more lines than a plane has
needed : (c : After-judge_frame) → let l = lined c.args.layout.lines c.args.layout.width c.args.layout.height in l.count ≤ 64 → c.saturating_mul.result ≡ marks_of l
needed c few = omega (arith, c.saturating_mul.ensures, c.count-n.ensures)

pub returns-in_err-judge_frame : goal.returns-in_err-judge_frame
returns-in_err-judge_frame c =
    let p = err_from_is_err_and c.from_residual.result c.from_residual.ensures.1 in
    rw (p.1, p.2)
    (stopped _ (frame_of _ _ _ _ _ c.in_err-judge_frame.ensures refl c.refuse_if-lengths.ensures)
    ∙ judged c.args.layout.lines _ _ _ _ _ _ c.saturating_mul.result (needed (goal.at.returns-in_err-judge_frame c).After-judge_frame))

pub returns : goal.returns
returns c =
    c.refuse_if.ensures ∙ ap (λ (k : ℕ). refuse_if TooSmall (ltb k 9)) c.count-n.ensures
    ∙ moved_on _ (frame_of _ _ _ _ _ c.in_ok-judge_frame.ensures refl c.refuse_if-lengths.ensures)
    ∙ judged c.args.layout.lines _ _ _ _ _ _ c.saturating_mul.result (needed (goal.at.returns c).After-judge_frame)
