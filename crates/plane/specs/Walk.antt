-- What the inner functions promise: the part of a box that lies inside the plane, which has h / 2 rows and w / 2 columns; and the sums of runs of sites.
use Rattle.std.specs.Prelude.{ℕ, ◌+◌, ◌*◌, ◌/◌, ◌≤◌, min, List, ◌≡◌}
use Rattle.laws.specs.Sum.{sum_in, sum_box}
use Rattle.window.specs.View.{seen_at, seen, one}
use Rattle.plane.specs.declared.PlaneBox.{PlaneBox}
use Rattle.plane.specs.declared.Sums.{Sums}

pub record Inner (w h : ℕ) (within part : PlaneBox) : Type 0 where
  pub bottom : part.bottom ≡ min within.bottom (h / 2)
  pub right : part.right ≡ min within.right (w / 2)
  pub top : part.top ≡ min within.top part.bottom
  pub left : part.left ≡ min within.left part.right

-- sums that n sites can have
abbrev pub Few : ℕ → Sums → Type 0
Few n sums = (sums.count ≤ n) × (sums.total ≤ 65535 * n)

-- a run's sums with one site more
pub record More (code sample : ℕ) (run more : Sums) : Type 0 where
  pub counted : more.count ≡ run.count + seen_at code 1
  pub added : more.total ≡ run.total + seen_at code sample
  pub few : more.count ≤ run.count + 1
  pub low : more.total ≤ run.total + 65535

-- the sums of a run: of the sites at place first, .., place (last - 1)
pub record Run (mask frame : List ℕ) (place : ℕ → ℕ) (first last : ℕ) (run : Sums) : Type 0 where
  pub counted : run.count ≡ sum_in first last (λ (v : ℕ). one mask (place v))
  pub added : run.total ≡ sum_in first last (λ (v : ℕ). seen mask frame (place v))

-- and of such runs: those at place top, .., place (bottom - 1)
pub record Runs (mask frame : List ℕ) (place : ℕ → ℕ → ℕ) (first last top bottom : ℕ) (runs : Sums) : Type 0 where
  pub counted : runs.count ≡ sum_box top bottom first last (λ (u v : ℕ). one mask (place u v))
  pub added : runs.total ≡ sum_box top bottom first last (λ (u v : ℕ). seen mask frame (place u v))
