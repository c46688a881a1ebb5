-- Document 02, e: the least squares slope of m points, x and y being functions of a point's place among them.
use Rattle.std.specs.Prelude.{ℕ, ◌*◌, Bool, not, eqb, ℤ}
use Rattle.laws.specs.First.{some_to}
use Rattle.laws.specs.Signed.{◌⊖◌}
use Rattle.laws.specs.Sum.{sum_to}

-- m × Σxy − Σx × Σy, signed: the slope's numerator, m² times the covariance of x and y. With x for y it is the denominator, m × Σx² − (Σx)²
unfoldable pub joint_spread : ℕ → (ℕ → ℕ) → (ℕ → ℕ) → ℤ
joint_spread m x y = m * sum_to m (λ (k : ℕ). x k * y k) ⊖ sum_to m x * sum_to m y

-- x 0, x 1, .., x (m − 1) are all equal: none is other than the first
unfoldable pub all_equal : ℕ → (ℕ → ℕ) → Bool
all_equal m x = not (some_to m (λ (k : ℕ). not (eqb (x k) (x 0))))
