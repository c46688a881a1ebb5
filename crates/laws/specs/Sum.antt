-- Sums of a function on numbers. A count is a sum of 0 and 1.
use Rattle.std.specs.Prelude.{ℕ, zero, suc, ◌+◌, ◌-◌}

-- f 0 + f 1 + .. + f (n - 1)
unfoldable pub sum_to : ℕ → (ℕ → ℕ) → ℕ
sum_to zero f = 0
sum_to (suc n) f = sum_to n f + f n

-- the sum of f k for a ≤ k < b
unfoldable pub sum_in : ℕ → ℕ → (ℕ → ℕ) → ℕ
unfolding sum_to
sum_in a b f = sum_to (b - a) (λ (k : ℕ). f (a + k))

-- the sum of g u v for a ≤ u < b and l ≤ v < r
unfoldable pub sum_box : ℕ → ℕ → ℕ → ℕ → (ℕ → ℕ → ℕ) → ℕ
unfolding sum_in
sum_box a b l r g = sum_in a b (λ (u : ℕ). sum_in l r (λ (v : ℕ). g u v))
