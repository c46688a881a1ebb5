-- The laws of a run of sites and of runs side by side, as loops sum them: what is at one more site, and one more run.
use Prim.Native.Nat.{ℕ, ◌+◌, ◌≤◌}
use mathlib.Core.List.{List}
use mathlib.Core.Path.{◌≡◌, sym, ap, ap₂, ◌∙◌}
use native.Mathlib.Omega.{arith}
use lib.ListN.{get_or}
use Rattle.laws.proofs.Sums.{in_none, in_more, box_none, box_more, box_ext, box_turned}
use Rattle.window.specs.View.{seen_at, seen, one}
use Rattle.window.proofs.Views.{one_is, seen_is, seen_le}
use Rattle.plane.specs.Plane.{sums}
use Rattle.plane.specs.Walk.{More, Run, Runs}
use Rattle.plane.specs.declared.Sums.{Sums}

-- a site counts at most 1
pub seen_once : (code : ℕ) → seen_at code 1 ≤ 1
seen_once code = seen_le code 1 1 (omega arith)

module _ {mask frame : List ℕ} {place : ℕ → ℕ} {first : ℕ} where
  -- where the loop begins
  pub run_none : Run mask frame place first first (sums 0 0)
  run_none = record { counted = in_none first _; added = in_none first _ }

  -- a turn of it
  pub run_more : {v : ℕ} {run more : Sums} → Run mask frame place first v run → first ≤ v
      → More (get_or mask (place v) 0) (get_or frame (place v) 0) run more
      → Run mask frame place first (v + 1) more
  run_more {v} s in-run m =
      record {
        counted = m.counted ∙ ap₂ (λ (x y : ℕ). x + y) s.counted (sym (one_is _ _)) ∙ in_more first v _ in-run;
        added = m.added ∙ ap₂ (λ (x y : ℕ). x + y) s.added (sym (seen_is _ _ _)) ∙ in_more first v _ in-run;
      }

module _ {mask frame : List ℕ} {place : ℕ → ℕ → ℕ} {first last top : ℕ} where
  pub runs_none : Runs mask frame place first last top top (sums 0 0)
  runs_none = record { counted = box_none top first last _; added = box_none top first last _ }

  pub runs_more : {u : ℕ} {runs run more : Sums} → Runs mask frame place first last top u runs → top ≤ u
      → Run mask frame (place u) first last run
      → (more.count ≡ runs.count + run.count) × (more.total ≡ runs.total + run.total)
      → Runs mask frame place first last top (u + 1) more
  runs_more {u} s in-runs r m =
      record {
        counted = m.0 ∙ ap₂ (λ (x y : ℕ). x + y) s.counted r.counted ∙ box_more top u first last _ in-runs;
        added = m.1 ∙ ap₂ (λ (x y : ℕ). x + y) s.added r.added ∙ box_more top u first last _ in-runs;
      }

-- runs whose sites are found at other places, or by columns in place of rows
module _ {mask frame : List ℕ} {place there : ℕ → ℕ → ℕ} {first last top bottom : ℕ} {runs : Sums} where
  pub runs_placed : ((u v : ℕ) → place u v ≡ there u v) → Runs mask frame place first last top bottom runs → Runs mask frame there first last top bottom runs
  runs_placed at s =
      record {
        counted = s.counted ∙ box_ext _ _ _ _ _ _ (λ u v p q r t. ap (one mask) (at u v));
        added = s.added ∙ box_ext _ _ _ _ _ _ (λ u v p q r t. ap (seen mask frame) (at u v));
      }

  pub runs_turned : ((u v : ℕ) → place v u ≡ there u v) → Runs mask frame place top bottom first last runs → Runs mask frame there first last top bottom runs
  runs_turned at s =
      record {
        counted = s.counted ∙ box_turned first last top bottom _ ∙ box_ext _ _ _ _ _ _ (λ u v p q r t. ap (one mask) (at u v));
        added = s.added ∙ box_turned first last top bottom _ ∙ box_ext _ _ _ _ _ _ (λ u v p q r t. ap (seen mask frame) (at u v));
      }
