-- Document 01, "What the promises have to settle": how far a float may be from an exact figure. Document 02, h: when a whole number has an exact float;
-- m: when one float is at most another, and that one pattern of bits is read as it; and e: a float that may be negative.
-- A float x is its whole significand times a power of two; num x / den x is its size as a fraction (0 / 1 where x is no such number).
use Rattle.std.specs.Prelude.{ℕ, ◌+◌, ◌-◌, ◌*◌, ◌^◌, ◌≤◌, ◌<◌, Bool, false, not, cond, ◌≡◌, T, Float, ℤ, pos}
use Rattle.std.specs.Float.{nan, inf, fin, binary64}
use Rattle.std.specs.Float.Ieee.{of_int, neg, le, of_bits}
use Rattle.std.specs.Float.Ieee.Positive.{num, den}
use Rattle.std.specs.Int.Signed.{lt_z}
use Rattle.laws.specs.Signed.{apart}

-- x is a number, finite and not negative: its sign is clear, so it is not −0 either
abbrev pub plain : Float → Bool
plain nan = false
plain (inf s) = false
plain (fin s m e) = not s

-- x with the sign of z taken off: turned where z is negative. Where that is a number, finite and not negative, x has the sign of z
abbrev pub without_sign : ℤ → Float → Float
without_sign z x = cond (lt_z z (pos 0)) (neg x) x

-- x is such a number, and off p / q by at most one part in t of it, with denominators cleared
pub record CloseTo (t : ℕ) (x : Float) (p q : ℕ) : Type 0 where
  pub is_plain : T (plain x)
  pub near : apart (num x * q) (p * den x) * t ≤ p * den x

-- a / d is at most 1 from the root of x, by squares on either side: a / d − 1 is at most the root, and the root at most a / d + 1
-- (`a - d` is 0 where a is below d: a / d − 1 is negative there, and below every root)
pub record NearRoot (x a d : ℕ) : Type 0 where
  pub not_above : (a - d) * (a - d) ≤ x * (d * d)
  pub not_below : x * (d * d) ≤ (a + d) * (a + d)

-- n has an exact float: as an f64 it is a number, finite and not negative, and n itself
pub record ExactFloat (n : ℕ) : Type 0 where
  pub is_plain : T (plain (of_int binary64 (pos n)))
  pub same : num (of_int binary64 (pos n)) ≡ n * den (of_int binary64 (pos n))

-- x is a number, finite and not negative, and one pattern of 64 bits is read as it, and no other
pub record OnePattern (x : Float) : Type 0 where
  pub is_plain : T (plain x)
  pub pattern : ℕ
  pub short : pattern < 2 ^ 64
  pub read : of_bits binary64 pattern ≡ x
  pub sole : (b : ℕ) → b < 2 ^ 64 → of_bits binary64 b ≡ x → b ≡ pattern

-- of two numbers that are finite and not negative, x is at most y: by `<=` of IEEE 754, by which a program sorts, and by their values, with denominators cleared
pub record AtMost (x y : Float) : Type 0 where
  pub compared : T (le x y)
  pub valued : num x * den y ≤ num y * den x

-- of two such numbers, `<=` says that the value of x is at most that of y, and nothing else
pub record ByValue (x y : Float) : Type 0 where
  pub to_values : T (le x y) → num x * den y ≤ num y * den x
  pub from_values : num x * den y ≤ num y * den x → T (le x y)
