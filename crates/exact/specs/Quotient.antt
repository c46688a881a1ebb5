-- Document 01, "one rounded f64 division" of whole numbers, and document 02, e: of a signed one too.
use Rattle.std.specs.Prelude.{ℕ, ◌^◌, Bool, false, cond, ◌&&◌, leb, ltb, ℤ, pos, nat_abs, Float}
use Rattle.std.specs.Float.{fin, binary64}
use Rattle.std.specs.Float.Ieee.{round}
use Rattle.std.specs.Int.Signed.{lt_z}

-- p / q as a binary64: the exact fraction, rounded once to nearest, ties to even
abbrev pub quotient : ℕ → ℕ → Float
quotient p q = round binary64 false p q

-- z / q of a signed number z, rounded once: the same of its size, with its sign; +0 where z is 0
abbrev pub signed_quotient : ℤ → ℕ → Float
signed_quotient z q = round binary64 (lt_z z (pos 0)) (nat_abs z) q

-- 0.0, all of whose bits are 0
abbrev pub float_zero : Float
float_zero = fin false 0 (pos 0)

-- q is not 0, and both numbers become binary64 without loss
unfoldable pub castable : ℕ → ℕ → Bool
castable p q = ltb 0 q && (leb q (2 ^ 53) && leb p (2 ^ 53))

-- the quotient of such numbers, and 0.0 of any others
unfoldable pub quotient_or_zero : ℕ → ℕ → Float
quotient_or_zero p q = cond (castable p q) (quotient p q) float_zero
