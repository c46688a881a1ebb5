-- `judge` is right because it asks the definition's tests in its order, and what it asks of buffers of another length comes after 4.
use Prim.Native.Nat.{ℕ, ◌*◌, ◌≤◌}
use mathlib.Core.Path.{◌≡◌, refl, sym, ap, ◌∙◌}
use native.Mathlib.Omega.{arith}
use lib.Dec.{ltb}
use lib.ListN.{length}
use Rattle.std.proofs.lemmas.Result.{err_from_is_err_and}
use Rattle.laws.specs.First.{some_to}
use Rattle.laws.specs.Table.{held}
use Rattle.laws.proofs.Cases.{times_le}
use Rattle.verdict.specs.Verdict.{clear, ◌⨟◌, refuse_if}
use Rattle.verdict.proofs.Verdicts.{stopped, moved_on}
use Rattle.verdict.specs.declared.Refusal.TheVariants.{Parameter, Unsurveyed, TooSmall, Impossible}
use Rattle.window.specs.Shape.{bad_count}
use Rattle.window.specs.View.{code_above, above}
use Rattle.refusals.specs.Judge.{length_of, mask_verdict}
use Rattle.refusals.proofs.Judges.{mask_of_lem}
use Rattle.pattern.specs.Pattern.{pattern_verdict}
use Rattle.pattern.specs.Walk.{lined, line_of}
use Rattle.pattern.proofs.Judges.{in_limits, judged}
use Rattle.pattern.proofs.judge.Goals as goal
use Rattle.pattern.proofs.judge.Goals.{In_ok-judge_mask, In_ok-refuse_if}

-- 1 to 5 refuse nothing
passed : (c : In_ok-judge_mask) → let a = c.args in
    mask_verdict a.width a.height a.full_scale (refuse_if Parameter (bad_count a.frames)) a.mask.now (length_of a.width a.height (length a.sums.now)) ≡ clear
passed c =
    sym (mask_of_lem _ _ _ _ c.in_ok-judge_mask.ensures (c.refuse_if-count.ensures ∙ ap (refuse_if Parameter) c.bad_count.ensures) c.length-lengths.ensures)

-- so what is asked after them is the whole chain's
whole : (c : In_ok-judge_mask) → let a = c.args in
    refuse_if Unsurveyed (some_to (length a.mask.now) (code_above 0 a.mask.now))
    ⨟ refuse_if TooSmall (ltb (line_of a.lines a.height a.width) 12)
    ⨟ refuse_if Impossible (some_to (length a.sums.now) (above (a.frames * a.full_scale) (held a.sums.now)))
    ≡ pattern_verdict (lined a.lines) a.width a.height a.full_scale a.frames a.mask.now a.sums.now
whole c = moved_on _ (sym (passed c)) ∙ judged c.args.lines _ _ _ _ _ _ _ (λ _ _. refl)

-- nor does 8
surveyed : (c : In_ok-refuse_if) → clear ≡ refuse_if Unsurveyed (some_to (length c.args.mask.now) (code_above 0 c.args.mask.now))
surveyed c = c.in_ok-refuse_if.ensures ∙ ap (refuse_if Unsurveyed) c.some_code_above.ensures

pub returns-in_err-refuse_if : goal.returns-in_err-refuse_if
returns-in_err-refuse_if c =
    let p = err_from_is_err_and c.from_residual-in_err-refuse_if.result c.from_residual-in_err-refuse_if.ensures.1 in
    rw (p.1, p.2)
    (stopped _ (c.in_err-refuse_if.ensures ∙ ap (refuse_if Unsurveyed) c.some_code_above.ensures)
    ∙ whole (goal.at.returns-in_err-refuse_if c).In_ok-judge_mask)

pub returns-in_err-refuse_if-2 : goal.returns-in_err-refuse_if-2
returns-in_err-refuse_if-2 c =
    let p = err_from_is_err_and c.from_residual-in_err-refuse_if-2.result c.from_residual-in_err-refuse_if-2.ensures.1 in
    rw (p.1, p.2)
    (stopped _ (c.in_err-refuse_if-2.ensures ∙ ap (λ (lines : ℕ). refuse_if TooSmall (ltb lines 12)) c.line_of.ensures)
    ∙ moved_on _ (surveyed (goal.at.returns-in_err-refuse_if-2 c).In_ok-refuse_if)
    ∙ whole (goal.at.returns-in_err-refuse_if-2 c).In_ok-judge_mask)

-- the most that a sum can be fits 32 bits
few : (c : In_ok-judge_mask) → c.args.frames * c.args.full_scale ≤ 409500
few c =
    let limits = in_limits _ _ _ _ _ _ (passed c) in
    times_le c.args.frames c.args.full_scale 100 4095 limits.1 limits.0

pub overflow_mul-most : goal.overflow_mul-most
overflow_mul-most c = omega (arith, few (goal.at.overflow_mul-most c).In_ok-judge_mask)

pub overflow_cast-most : goal.overflow_cast-most
overflow_cast-most c = omega (arith, few (goal.at.overflow_cast-most c).In_ok-judge_mask)

pub returns : goal.returns
returns c =
    c.refuse_if-3.ensures ∙ ap (refuse_if Impossible) c.some_above.ensures
    ∙ moved_on _ (c.in_ok-refuse_if-2.ensures ∙ ap (λ (lines : ℕ). refuse_if TooSmall (ltb lines 12)) c.line_of.ensures)
    ∙ moved_on _ (surveyed (goal.at.returns c).In_ok-refuse_if)
    ∙ whole (goal.at.returns c).In_ok-judge_mask
