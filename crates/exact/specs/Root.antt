-- Document 01, "Pair noise": the greatest whole number r with r² ≤ x.
use Rattle.std.specs.Prelude.{ℕ, zero, suc, ◌+◌, ◌*◌, ◌≤◌, ◌<◌, cond, leb}

-- the greatest r up to k with r * r ≤ x
unfoldable pub root_to : ℕ → ℕ → ℕ
root_to zero x = 0
root_to (suc k) x = cond (leb (suc k * suc k) x) (suc k) (root_to k x)

-- the greatest r with r * r ≤ x: none is above x itself
unfoldable pub root : ℕ → ℕ
unfolding root_to
root x = root_to x x

-- r is the greatest whole number with r * r ≤ x
pub record IsRoot (x r : ℕ) : Type 0 where
  pub low : r * r ≤ x
  pub high : x < (r + 1) * (r + 1)
