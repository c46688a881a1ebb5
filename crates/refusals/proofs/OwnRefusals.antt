-- What is told in a caller's own refusals: a test with its own refusal, and tests in turn likewise. It is clear just where the table's is.
use Prim.Native.Nat.{ℕ, ◌*◌, ◌≤◌}
use mathlib.Core.Bool.{Bool, true, false}
use mathlib.Core.List.{List, [], ◌∷◌}
use mathlib.Core.Path.{◌≡◌, refl, sym, ap, ap₂, ◌∙◌}
use lib.ListN.{length}
use Rattle.laws.specs.First.{count_to}
use Rattle.std.specs.Prelude.{Result, Ok, Err}
use Rattle.verdict.specs.declared.Refusal.{Refusal}
use Rattle.verdict.specs.declared.Refusal.TheVariants.{Sides, FullScale, Length}
use Rattle.verdict.specs.Verdict.{Verdict, clear, ◌⨟◌, refuse_if}
use Rattle.verdict.proofs.Verdicts.{not_clear, then_clear, clear_then, moved_on}
use Rattle.window.specs.Shape.{bad_sides, bad_scale, sites_of}
use Rattle.window.specs.View.{above, seen}
use Rattle.refusals.specs.Judge.{told_by, shape_by, length_by, codes_by, samples_in_by, mask_verdict_by, frame_verdict_by, shape_of, length_of, codes_of, samples_of, samples_in, range_of, mask_verdict}
use Rattle.refusals.proofs.Chains.{length_clear, codes_whole}
use Rattle.refusals.proofs.Judges.{codes_asked, mask_judged, mask_passed, frame_asked}

module _ {R : Type 0} (told : Refusal → R) where
  pub test_told : (r : Refusal) (applies : Bool) → told_by told (refuse_if r applies) ≡ refuse_if (told r) applies
  test_told r true = refl
  test_told r false = refl

  then_told : (a b : Verdict) → told_by told (a ⨟ b) ≡ told_by told a ⨟ told_by told b
  then_told (Ok u) b = refl
  then_told (Err r) b = refl

  -- nothing is told where nothing is refused, and only there
  pub told_clear : (v : Verdict) → Ok tt ≡ told_by told v → v ≡ clear
  told_clear (Ok u) e = refl
  told_clear (Err r) e = not_clear (sym e)

  pub shape_told : (w h full : ℕ) → told_by told (shape_of w h full) ≡ shape_by told w h full
  unfolding shape_by
  shape_told w h full =
      then_told (refuse_if Sides (bad_sides w h)) (refuse_if FullScale (bad_scale full))
      ∙ ap₂ (λ (a b : Result (Unit {0}) R). a ⨟ b) (test_told Sides (bad_sides w h)) (test_told FullScale (bad_scale full))

  pub length_told : (w h long : ℕ) → told_by told (length_of w h long) ≡ length_by told w h long
  length_told w h long = test_told Length _

  pub codes_told : (n : ℕ) (mask : List ℕ) → told_by told (codes_of n mask) ≡ codes_by told n mask
  codes_told n mask = test_told _ _

  pub samples_told : (over n full : ℕ) (views : List (ℕ → ℕ)) → told_by told (samples_in over n full views) ≡ samples_in_by told over n full views
  unfolding samples_in_by
  samples_told over n full [] = refl
  samples_told over n full (view ∷ views) =
      then_told (samples_of over n full view) (samples_in over n full views)
      ∙ ap₂ (λ (a b : Result (Unit {0}) R). a ⨟ b) (test_told _ _) (samples_told over n full views)

  -- 5, of what 1, 2 and 4 and the caller's own tests let pass
  pub mask_told : (w h full : ℕ) (mask : List ℕ) {parameters lengths : Result (Unit {0}) R}
      → shape_of w h full ≡ clear → parameters ≡ Ok tt → length_of w h (length mask) ≡ clear → lengths ≡ Ok tt
      → told_by told (codes_of (h * w) mask) ≡ mask_verdict_by told w h full parameters mask lengths
  mask_told w h full mask {parameters} {lengths} s p m l =
      ap (told_by told) (codes_asked w h full mask s)
      ∙ codes_told (sites_of w h) mask
      ∙ sym (codes_whole told w h mask (length_clear (sites_of w h) (length mask) m))
      ∙ moved_on _ (sym l)
      ∙ moved_on _ (ap (told_by told) (sym m) ∙ length_told w h (length mask))
      ∙ moved_on _ (sym p)
      ∙ moved_on _ (ap (told_by told) (sym s) ∙ shape_told w h full)
      ∙ mask_judged w h full mask told parameters lengths

module _ {R : Type 0} (told : Refusal → R) (w h full : ℕ) (mask frame : List ℕ) (parameters lengths : Result (Unit {0}) R)
    (passed : mask_verdict_by told w h full parameters mask (length_by told w h (length frame) ⨟ lengths) ≡ Ok tt) where
  -- what 1 to 5 let pass in a caller's refusals they let pass in the table's
  passed_of : mask_verdict w h full clear mask (length_of w h (length frame) ⨟ clear) ≡ clear
  unfolding mask_verdict_by
  passed_of =
      let shape = then_clear _ _ passed in
      let handed = then_clear _ _ shape.1 in
      let masked = then_clear _ _ handed.1 in
      let lent = then_clear _ _ masked.1 in
      clear_then (told_clear told _ (sym shape.0 ∙ sym (shape_told told w h full)))
      (clear_then (told_clear told _ (sym masked.0 ∙ sym (length_told told w h (length mask))))
      (clear_then (clear_then (told_clear told _ (sym (then_clear _ _ lent.0).0 ∙ sym (length_told told w h (length frame)))) refl)
      (told_clear told _ (sym lent.1 ∙ sym (codes_told told (sites_of w h) mask)))))

  pub view_passed : (full ≤ 4095) × (bad_sides w h ≡ false) × (length mask ≡ sites_of w h) × (length frame ≡ sites_of w h)
  view_passed = mask_passed w h full mask frame clear clear passed_of

  -- and so 6 is asked of the whole window
  pub frame_told : told_by told (samples_of (count_to (length mask) (above full (seen mask frame))) (length mask) full (seen mask frame))
      ≡ frame_verdict_by told w h full parameters mask frame lengths
  unfolding frame_verdict_by
  frame_told =
      ap (told_by told) (frame_asked w h full mask frame clear clear passed_of ∙ sym (moved_on (range_of w h full (seen mask frame ∷ [])) (sym passed_of)))
      ∙ samples_told told _ _ _ _
      ∙ moved_on _ (sym passed)
