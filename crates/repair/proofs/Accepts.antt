-- What an accepted repair's inputs are, and that such inputs are accepted.
use Prim.Native.Nat.{ℕ}
use mathlib.Core.List.{List, [], ◌∷◌}
use mathlib.Core.Path.{◌≡◌, refl}
use lib.ListN.{length}
use Rattle.verdict.proofs.Verdicts.{Tabled, Test, test, tabled, tabled_none, tabled_then, then_clear, clear_then}
use Rattle.verdict.specs.Verdict.{clear}
use Rattle.verdict.specs.declared.Refusal.TheVariants.{Sides, FullScale, Length}
use Rattle.window.specs.Shape.{bad_sides, bad_scale, sites_of}
use Rattle.window.specs.View.{seen}
use Rattle.refusals.specs.Judge.{other_than}
use Rattle.refusals.proofs.Chains.{length_clear, clear_length}
use Rattle.refusals.proofs.Ranges.{samples_test}
use Rattle.refusals.proofs.Judges.{codes_test, Framed, frame_clear, clear_frame, frame_tabled}
use Rattle.repair.specs.Repair.{repair_verdict}

-- a repair: the frame and the mask that are written
module _ (w h full : ℕ) (mask frame : List ℕ) (out_frame out_mask : ℕ) where
  -- the tests in the order of document 01
  abbrev pub repair_tests : List Test
  repair_tests =
      test Sides (bad_sides w h)
      ∷ test FullScale (bad_scale full)
      ∷ test Length (other_than (sites_of w h) (length mask))
      ∷ test Length (other_than (sites_of w h) (length frame))
      ∷ test Length (other_than (sites_of w h) out_frame)
      ∷ test Length (other_than (sites_of w h) out_mask)
      ∷ codes_test (sites_of w h) mask
      ∷ samples_test w h full (seen mask frame ∷ []) (seen mask frame)
      ∷ []

  pub repair_table : Tabled (repair_verdict w h full mask frame out_frame out_mask) repair_tests
  unfolding repair_verdict
  repair_table = frame_tabled w h full mask frame tabled_none (tabled_then (tabled _ []) (tabled _ []))

  pub repair_accepted : repair_verdict w h full mask frame out_frame out_mask ≡ clear
      → Framed w h full mask frame × (out_frame ≡ sites_of w h) × (out_mask ≡ sites_of w h)
  unfolding repair_verdict
  repair_accepted e =
      let lent = frame_clear w h full mask frame e in
      let both = then_clear _ _ lent.1 in
      (lent.2, length_clear (sites_of w h) out_frame both.0, length_clear (sites_of w h) out_mask both.1)

  pub repair_clear : Framed w h full mask frame → out_frame ≡ sites_of w h → out_mask ≡ sites_of w h
      → repair_verdict w h full mask frame out_frame out_mask ≡ clear
  unfolding repair_verdict
  repair_clear a long_frame long_mask =
      clear_frame w h full mask frame a refl
      (clear_then (clear_length (sites_of w h) out_frame long_frame) (clear_length (sites_of w h) out_mask long_mask))
