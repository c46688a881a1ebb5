-- Signed numbers as differences of natural numbers.
use Rattle.std.specs.Prelude.{ℕ, zero, suc, ◌+◌, ◌-◌, ℤ, pos, ◌+ℤ◌, ◌-ℤ◌}

-- a less b, signed
infixl 6 ◌⊖◌
unfoldable pub ◌⊖◌ : ℕ → ℕ → ℤ
a ⊖ b = pos a -ℤ pos b

-- how far apart two numbers are: the size of a less b
abbrev pub apart : ℕ → ℕ → ℕ
apart a b = (a - b) + (b - a)

-- f 0 + f 1 + .. + f (n - 1), signed
unfoldable pub sum_toℤ : ℕ → (ℕ → ℤ) → ℤ
sum_toℤ zero f = pos 0
sum_toℤ (suc n) f = sum_toℤ n f +ℤ f n
