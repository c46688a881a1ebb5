-- `judge_blinking` is right because it asks the definition's tests in its order, 11 of a whole window.
use mathlib.Core.Bool.{◌||◌}
use mathlib.Core.Path.{◌≡◌, sym, ap, ap₂, ◌∙◌}
use Rattle.std.proofs.lemmas.Result.{err_from_is_err_and}
use Rattle.verdict.specs.Verdict.{refuse_if}
use Rattle.verdict.proofs.Verdicts.{stopped, moved_on}
use Rattle.verdict.specs.declared.Refusal.TheVariants.{Parameter}
use Rattle.window.specs.Shape.{bad_count}
use Rattle.refusals.specs.Judge.{mask_verdict}
use Rattle.refusals.proofs.Judges.{mask_of_lem}
use Rattle.stack.specs.State.{Stack, stack_lengths}
use Rattle.blinking.specs.Blinking.{bad_spread}
use Rattle.blinking.proofs.Blinkings.{judged}
use Rattle.blinking.proofs.judge_blinking.Goals as goal
use Rattle.blinking.proofs.judge_blinking.Goals.{After-judge_mask}

-- 1 to 5, of the spread and the stack's count and lengths
lent : (c : After-judge_mask) → let a = c.args in
    c.judge_mask.result
    ≡ mask_verdict a.width a.height a.full_scale (refuse_if Parameter (bad_spread a.spread || bad_count a.stack.now.frames)) a.mask.now (stack_lengths a.width a.height a.stack.now)
lent c =
    mask_of_lem _ _ _ _ c.judge_mask.ensures
    (c.refuse_if-bad.ensures
    ∙ ap (refuse_if Parameter) (ap₂ ◌||◌ c.bad_spread.ensures c.bad_count.ensures)
    ∙ ap (λ (s : Stack). refuse_if Parameter (bad_spread c.args.spread || bad_count s.frames)) c.stack.view_is)
    c.lengths-lengths.ensures

pub returns-in_err-judge_mask : goal.returns-in_err-judge_mask
returns-in_err-judge_mask c =
    let p = err_from_is_err_and c.from_residual.result c.from_residual.ensures.1 in
    rw (p.1, p.2) (stopped _ (sym c.in_err-judge_mask.was ∙ lent (goal.at.returns-in_err-judge_mask c).After-judge_mask) ∙ judged _ _ _ _ _ _)

pub returns : goal.returns
returns c =
    c.refuse_impossible-impossible.ensures
    ∙ moved_on _ (sym c.in_ok-judge_mask.was ∙ lent (goal.at.returns c).After-judge_mask)
    ∙ judged _ _ _ _ _ _
