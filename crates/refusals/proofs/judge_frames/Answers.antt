-- `judge_frames` is right because it asks 6 of the first frame before that of the second, with the count of both, after 1 to 5 and 4 of both.
use Prim.Native.Nat.{ℕ, ◌+◌}
use mathlib.Core.List.{List}
use mathlib.Core.Path.{◌≡◌, refl, sym, ap, ap₂, ◌∙◌}
use lib.ListN.{length}
use borrow.Author.Rules.{rules}
use Rattle.std.proofs.lemmas.Result.{err_from_is_err_and}
use Rattle.verdict.specs.Verdict.{Verdict, clear, ◌⨟◌}
use Rattle.verdict.proofs.Verdicts.{and_is, stopped, moved_on}
use Rattle.window.specs.View.{seen}
use Rattle.refusals.specs.Judge.{samples_of, mask_verdict}
use Rattle.refusals.proofs.Judges.{mask_of_lem}
use Rattle.refusals.proofs.Frames.{lengths, counted, frames_asked, both_passed}
use Rattle.refusals.proofs.judge_frames.Goals as goal
use Rattle.refusals.proofs.judge_frames.Goals.{In_ok-judge_mask, After-over-over_second}

passed : (c : In_ok-judge_mask) → let a = c.args in
    mask_verdict a.width a.height a.full_scale clear a.mask.now (lengths a.width a.height a.full_scale a.mask.now a.first.now a.second.now) ≡ clear
passed c =
    sym (mask_of_lem _ _ _ _ c.in_ok-judge_mask.ensures refl
    (c.and.ensures ∙ and_is c.length-of_first.result c.length-of_second.result ∙ ap₂ (λ (u v : Verdict). u ⨟ v) c.length-of_first.ensures c.length-of_second.ensures))

-- what 6 asks, with a count that is known
counted_as : (mask frame : List ℕ) (full : ℕ) {k m : ℕ} → k ≡ m
    → samples_of k (length mask) full (seen mask frame) ≡ samples_of m (length mask) full (seen mask frame)
counted_as mask frame full e = ap (λ (n : ℕ). samples_of n (length mask) full (seen mask frame)) e

-- the count of both frames
both : (c : After-over-over_second) → let a = c.args in
    c.over-over_first.result + c.over-over_second.result
    ≡ counted a.width a.height a.full_scale a.mask.now a.first.now a.second.now a.first.now + counted a.width a.height a.full_scale a.mask.now a.first.now a.second.now a.second.now
both c = ap₂ (λ (x y : ℕ). x + y) c.over-over_first.ensures.0 c.over-over_second.ensures.0

pub invariant_of-of_one : goal.invariant_of-of_one
invariant_of-of_one c = let w = both_passed _ _ _ _ _ _ (passed (goal.at.invariant_of-of_one c).In_ok-judge_mask) in
    record { legal = w.1; masked = w.2; framed = w.3 }

pub invariant_of-of_other : goal.invariant_of-of_other
invariant_of-of_other c = let w = both_passed _ _ _ _ _ _ (passed (goal.at.invariant_of-of_other c).In_ok-judge_mask) in
    record { legal = w.1; masked = w.2; framed = w.4 }

pub over-over_first-requires : goal.over-over_first-requires
over-over_first-requires c = (both_passed _ _ _ _ _ _ (passed (goal.at.over-over_first-requires c).In_ok-judge_mask)).0

pub over-over_second-requires : goal.over-over_second-requires
over-over_second-requires c = (both_passed _ _ _ _ _ _ (passed (goal.at.over-over_second-requires c).In_ok-judge_mask)).0

pub samples-requires : goal.samples-requires
samples-requires c = ((both_passed _ _ _ _ _ _ (passed (goal.at.samples-requires c).In_ok-judge_mask)).0, search rules)

pub samples-requires-2 : goal.samples-requires-2
samples-requires-2 c = ((both_passed _ _ _ _ _ _ (passed (goal.at.samples-requires-2 c).In_ok-judge_mask)).0, search rules)

pub returns-in_err-samples : goal.returns-in_err-samples
returns-in_err-samples c =
    let a = c.args in
    let p = err_from_is_err_and c.from_residual-in_err-samples.result c.from_residual-in_err-samples.ensures.1 in
    rw (p.1, p.2)
    (stopped _ (c.in_err-samples.ensures ∙ counted_as a.mask.now a.first.now a.full_scale (both (goal.at.returns-in_err-samples c).After-over-over_second))
    ∙ frames_asked _ _ _ _ _ _ (passed (goal.at.returns-in_err-samples c).In_ok-judge_mask))

pub returns : goal.returns
returns c =
    let a = c.args in
    let k = both (goal.at.returns c).After-over-over_second in
    c.samples-2.ensures ∙ counted_as a.mask.now a.second.now a.full_scale k
    ∙ moved_on _ (c.in_ok-samples.ensures ∙ counted_as a.mask.now a.first.now a.full_scale k)
    ∙ frames_asked _ _ _ _ _ _ (passed (goal.at.returns c).In_ok-judge_mask)
