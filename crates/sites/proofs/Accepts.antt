-- What an accepted search's inputs are, and that such inputs are accepted.
use Prim.Native.Nat.{ℕ, ◌≤◌}
use mathlib.Core.List.{List, [], ◌∷◌}
use mathlib.Core.Path.{◌≡◌}
use lib.Dec.{ltb}
use lib.ListN.{length}
use borrow.Author.Tests.{ltb-false, le-ltb}
use Rattle.verdict.proofs.Verdicts.{Tabled, Test, test, tabled, unless, clear_unless}
use Rattle.verdict.specs.Verdict.{clear}
use Rattle.verdict.specs.declared.Refusal.TheVariants.{Sides, FullScale, Parameter, Length}
use Rattle.window.specs.Shape.{bad_sides, bad_scale, sites_of}
use Rattle.window.specs.View.{seen}
use Rattle.refusals.specs.Judge.{other_than}
use Rattle.refusals.proofs.Chains.{length_clear, clear_length}
use Rattle.refusals.proofs.Ranges.{samples_test}
use Rattle.refusals.proofs.Judges.{codes_test, Framed, frame_clear, clear_frame, frame_tabled}
use Rattle.sites.specs.Find.{find_verdict}

-- a search: its threshold, and the mask that is written
module _ (w h full t : ℕ) (mask frame : List ℕ) (out : ℕ) where
  -- the tests in the order of document 01
  abbrev pub find_tests : List Test
  find_tests =
      test Sides (bad_sides w h)
      ∷ test FullScale (bad_scale full)
      ∷ test Parameter (ltb 4095 t)
      ∷ test Length (other_than (sites_of w h) (length mask))
      ∷ test Length (other_than (sites_of w h) (length frame))
      ∷ test Length (other_than (sites_of w h) out)
      ∷ codes_test (sites_of w h) mask
      ∷ samples_test w h full (seen mask frame ∷ []) (seen mask frame)
      ∷ []

  pub find_table : Tabled (find_verdict w h full t mask frame out) find_tests
  unfolding find_verdict
  find_table = frame_tabled w h full mask frame (tabled _ []) (tabled _ [])

  pub find_accepted : find_verdict w h full t mask frame out ≡ clear
      → Framed w h full mask frame × (t ≤ 4095) × (out ≡ sites_of w h)
  unfolding find_verdict
  find_accepted e =
      let lent = frame_clear w h full mask frame e in
      (lent.2, ltb-false 4095 t (unless _ (ltb 4095 t) lent.0), length_clear (sites_of w h) out lent.1)

  pub find_clear : Framed w h full mask frame → t ≤ 4095 → out ≡ sites_of w h → find_verdict w h full t mask frame out ≡ clear
  unfolding find_verdict
  find_clear a few long = clear_frame w h full mask frame a (clear_unless _ (le-ltb 4095 t few)) (clear_length (sites_of w h) out long)
