-- `judge_variance` is right because it asks the definition's tests in its order, 7 and 11 of a whole window.
use mathlib.Core.Path.{◌≡◌, sym, ap, ◌∙◌}
use Rattle.std.proofs.lemmas.Result.{err_from_is_err_and}
use Rattle.verdict.specs.Verdict.{refuse_if}
use Rattle.verdict.proofs.Verdicts.{stopped, moved_on}
use Rattle.verdict.specs.declared.Refusal.TheVariants.{Parameter, TooFew}
use Rattle.window.specs.Shape.{bad_count}
use Rattle.refusals.specs.Judge.{mask_verdict}
use Rattle.refusals.proofs.Judges.{mask_of_lem}
use Rattle.stack.specs.State.{Stack, stack_lengths}
use Rattle.variance.specs.Variance.{too_few}
use Rattle.variance.proofs.Variances.{judged}
use Rattle.variance.proofs.judge_variance.Goals as goal
use Rattle.variance.proofs.judge_variance.Goals.{After-judge_mask, After-refuse_if}

-- 1 to 5, of the stack's count and lengths
lent : (c : After-judge_mask) → let a = c.args in
    c.judge_mask.result ≡ mask_verdict a.width a.height a.full_scale (refuse_if Parameter (bad_count a.stack.now.frames)) a.mask.now (stack_lengths a.width a.height a.stack.now)
lent c =
    mask_of_lem _ _ _ _ c.judge_mask.ensures
    (c.refuse_if-bad.ensures ∙ ap (refuse_if Parameter) c.bad_count.ensures ∙ ap (λ (s : Stack). refuse_if Parameter (bad_count s.frames)) c.stack.view_is) c.lengths-lengths.ensures

-- and 7
few : (c : After-refuse_if) → c.refuse_if.result ≡ refuse_if TooFew (too_few c.args.count c.args.stack.now.frames)
few c = c.refuse_if.ensures ∙ ap (refuse_if TooFew) c.too_few.ensures ∙ ap (λ (s : Stack). refuse_if TooFew (too_few c.args.count s.frames)) c.stack.view_is

pub returns-in_err-judge_mask : goal.returns-in_err-judge_mask
returns-in_err-judge_mask c =
    let p = err_from_is_err_and c.from_residual.result c.from_residual.ensures.1 in
    let at = (goal.at.returns-in_err-judge_mask c).After-judge_mask in
    rw (p.1, p.2) (stopped _ (sym c.in_err-judge_mask.was ∙ lent at) ∙ judged _ _ _ _ _ _ c.requires)

pub returns-in_err-refuse_if : goal.returns-in_err-refuse_if
returns-in_err-refuse_if c =
    let p = err_from_is_err_and c.from_residual-in_err-refuse_if.result c.from_residual-in_err-refuse_if.ensures.1 in
    let at = goal.at.returns-in_err-refuse_if c in
    rw (p.1, p.2)
    (stopped _ (sym c.in_err-refuse_if.was ∙ few at.After-refuse_if)
    ∙ moved_on _ (sym c.in_ok-judge_mask.was ∙ lent at.After-judge_mask)
    ∙ judged _ _ _ _ _ _ c.requires)

pub returns : goal.returns
returns c =
    let at = goal.at.returns c in
    c.refuse_impossible-impossible.ensures
    ∙ moved_on _ (sym c.in_ok-refuse_if.was ∙ few at.After-refuse_if)
    ∙ moved_on _ (sym c.in_ok-judge_mask.was ∙ lent at.After-judge_mask)
    ∙ judged _ _ _ _ _ _ c.requires
