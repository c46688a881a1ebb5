-- `judge_frame` is right because it asks 6 of buffers that 1 to 5 let pass.
use Prim.Native.Nat.{ℕ}
use mathlib.Core.Path.{◌≡◌, sym, ap, ◌∙◌}
use lib.ListN.{length}
use Rattle.std.specs.Prelude.{Result, Ok}
use Rattle.verdict.specs.Verdict.{◌⨟◌}
use Rattle.verdict.proofs.Verdicts.{and_is}
use Rattle.window.specs.View.{seen}
use Rattle.refusals.specs.Judge.{told_by, length_by, samples_of, mask_verdict_by}
use Rattle.refusals.proofs.OwnRefusals.{length_told, view_passed, frame_told}
use Rattle.refusals.proofs.judge_frame.Goals as goal
use Rattle.refusals.proofs.judge_frame.Goals.{In_ok-judge_mask}

passed : (g : _) (c : In_ok-judge_mask g) → let a = c.args in let told = g.R.Refusing.told in
    mask_verdict_by told a.width a.height a.full_scale a.parameters a.mask.now (length_by told a.width a.height (length a.frame.now) ⨟ a.lengths) ≡ Ok tt
passed g c =
    let a = c.args in
    let told = g.R.Refusing.told in
    sym (c.in_ok-judge_mask.ensures
    ∙ ap (mask_verdict_by told a.width a.height a.full_scale a.parameters a.mask.now)
    (c.and-framed.ensures ∙ and_is c.told.result a.lengths
    ∙ ap (λ (v : Result (Unit {0}) _). v ⨟ a.lengths) (c.told.ensures ∙ ap (told_by told) c.length.ensures ∙ length_told told _ _ _)))

pub invariant_of-view : goal.invariant_of-view
invariant_of-view g c = let w = view_passed g.R.Refusing.told _ _ _ _ _ _ _ (passed g (goal.at.invariant_of-view g c).In_ok-judge_mask) in
    record { legal = w.1; masked = w.2; framed = w.3 }

pub over-count-requires : goal.over-count-requires
over-count-requires g c = (view_passed g.R.Refusing.told _ _ _ _ _ _ _ (passed g (goal.at.over-count-requires g c).In_ok-judge_mask)).0

pub samples-requires : goal.samples-requires
samples-requires g c = ((view_passed g.R.Refusing.told _ _ _ _ _ _ _ (passed g (goal.at.samples-requires g c).In_ok-judge_mask)).0, c.over-count.ensures.0)

pub returns : goal.returns
returns g c =
    let a = c.args in
    let told = g.R.Refusing.told in
    c.told-2.ensures
    ∙ ap (told_by told)
    (c.samples.ensures
    ∙ ap (λ (k : ℕ). samples_of k (length a.mask.now) a.full_scale (seen a.mask.now a.frame.now)) c.over-count.ensures.0)
    ∙ frame_told told _ _ _ _ _ _ _ (passed g (goal.at.returns g c).In_ok-judge_mask)
