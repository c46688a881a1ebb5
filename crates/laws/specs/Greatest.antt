-- The lesser and the greater of two whole numbers, the greatest of more, and where it stands first.
use Rattle.std.specs.Prelude.{ℕ, zero, suc, ◌+◌, ◌-◌, cond, eqb, ltb}
use Rattle.laws.specs.First.{first_to}

-- the lesser of two
abbrev pub lesser : ℕ → ℕ → ℕ
lesser x y = cond (ltb y x) y x

-- the greater of two
abbrev pub greater : ℕ → ℕ → ℕ
greater x y = cond (ltb x y) y x

-- the greatest of f 0, f 1, .., f n
unfoldable pub greatest_to : ℕ → (ℕ → ℕ) → ℕ
greatest_to zero f = f 0
greatest_to (suc n) f = greater (greatest_to n f) (f (suc n))

-- the greatest of f k for a ≤ k < b, where a is below b
unfoldable pub greatest_in : ℕ → ℕ → (ℕ → ℕ) → ℕ
unfolding greatest_to
greatest_in a b f = greatest_to (b - a - 1) (λ (k : ℕ). f (a + k))

-- the first of 0 .. n − 1 at which f is the greatest of f 0, .., f (n − 1), where n is above 0
unfoldable pub first_greatest : ℕ → (ℕ → ℕ) → ℕ
first_greatest n f = first_to n (λ (i : ℕ). eqb (f i) (greatest_in 0 n f))
