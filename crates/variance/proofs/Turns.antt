-- What one turn of the numerator's walk does, over plain values.
use Prim.Native.Nat.{ℕ, ◌+◌, ◌-◌, ◌*◌, ◌≤◌, ◌<◌}
use mathlib.Core.Bool.{Bool, true, false, cond}
use mathlib.Core.List.{List}
use mathlib.Core.Path.{◌≡◌, refl}
use native.Mathlib.Omega.{arith}
use lib.ListN.{get_or}
use Rattle.laws.proofs.Cases.{times_le}
use Rattle.laws.proofs.Sums.{sum_none, sum_more}
use Rattle.window.specs.View.{surveyed, seen_at, seen}
use Rattle.window.proofs.Views.{seen_le}
use Rattle.variance.specs.Variance.{scatter}

-- what is seen of k × q − s² is that of what is seen
pub scatter_seen : (code k q s : ℕ) → cond (surveyed code) (k * q - s * s) 0 ≡ k * seen_at code q - seen_at code s * seen_at code s
unfolding seen_at
scatter_seen code k q s = by (surveyed code)
  where
    by : (b : Bool) → cond b (k * q - s * s) 0 ≡ k * cond b q 0 - cond b s 0 * cond b s 0
    by true = refl
    by false = omega arith

-- a site adds at most 127 times the largest sum of squares that 32 bits hold
pub scatter_small : (k code q x here : ℕ) → k < 128 → q ≤ 4294967295 → here ≡ k * seen_at code q - x → here ≤ 127 * 4294967295
scatter_small k code q x here most small h = omega (arith, times_le k (seen_at code q) 127 4294967295 (omega arith) (seen_le code q 4294967295 small))

module _ (k : ℕ) (mask sums squares : List ℕ) where
  -- no site is walked yet
  pub scatter_none : 0 ≡ scatter 0 k (seen mask sums) (seen mask squares)
  unfolding scatter
  scatter_none = sum_none _

  -- one site more
  pub scatter_more : (i total here : ℕ) → total ≡ scatter i k (seen mask sums) (seen mask squares)
      → here ≡ k * seen_at (get_or mask i 0) (get_or squares i 0) - seen_at (get_or mask i 0) (get_or sums i 0) * seen_at (get_or mask i 0) (get_or sums i 0)
      → total + here ≡ scatter (i + 1) k (seen mask sums) (seen mask squares)
  unfolding scatter seen
  scatter_more i total here t h = rw (t, h) (sum_more i (λ (j : ℕ). k * seen mask squares j - seen mask sums j * seen mask sums j))
