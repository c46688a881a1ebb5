-- `judge_add` is right because it asks the definition's tests in its order, and 11 of a whole stack.
use mathlib.Core.Path.{◌≡◌, ap, ◌∙◌}
use lib.Dec.{eqb, ltb}
use Rattle.std.proofs.lemmas.Result.{err_from_is_err_and}
use Rattle.verdict.specs.Verdict.{refuse_if}
use Rattle.verdict.specs.declared.Refusal.TheVariants.{Parameter, StackFull}
use Rattle.verdict.proofs.Verdicts.{stopped, moved_on}
use Rattle.refusals.proofs.Judges.{frame_of}
use Rattle.stack.specs.State.{Stack}
use Rattle.adding.proofs.Adds.{judged}
use Rattle.adding.proofs.judge_add.Goals as goal
use Rattle.adding.proofs.judge_add.Goals.{After-judge_frame}

-- the count that 3 asks is the stack's
three : (c : After-judge_frame) → c.refuse_if-count.result ≡ refuse_if Parameter (ltb 100 c.args.stack.now.frames)
three c = c.refuse_if-count.ensures ∙ ap (λ (s : Stack). refuse_if Parameter (ltb 100 s.frames)) c.stack.view_is

pub returns-in_err-judge_frame : goal.returns-in_err-judge_frame
returns-in_err-judge_frame c =
    let p = err_from_is_err_and c.from_residual.result c.from_residual.ensures.1 in
    rw (p.1, p.2) (stopped _ (frame_of _ _ _ _ _ c.in_err-judge_frame.ensures (three (goal.at.returns-in_err-judge_frame c).After-judge_frame) c.lengths-lengths.ensures) ∙ judged _ _ _ _ _ _)

pub returns-in_err-impossible : goal.returns-in_err-impossible
returns-in_err-impossible c =
    let p = err_from_is_err_and c.from_residual-in_err-impossible.result c.from_residual-in_err-impossible.ensures.1 in
    rw (p.1, p.2)
    (stopped _ c.in_err-impossible.ensures
    ∙ moved_on _ (frame_of _ _ _ _ _ c.in_ok-judge_frame.ensures (three (goal.at.returns-in_err-impossible c).After-judge_frame) c.lengths-lengths.ensures)
    ∙ judged _ _ _ _ _ _)

pub returns : goal.returns
returns c =
    c.refuse_if.ensures
    ∙ ap (λ (s : Stack). refuse_if StackFull (eqb s.frames 100)) c.stack.view_is
    ∙ moved_on _ c.in_ok-impossible.ensures
    ∙ moved_on _ (frame_of _ _ _ _ _ c.in_ok-judge_frame.ensures (three (goal.at.returns c).After-judge_frame) c.lengths-lengths.ensures)
    ∙ judged _ _ _ _ _ _
