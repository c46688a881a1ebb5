-- The laws of `quotient` and `signed_quotient`, for numbers up to 2 ^ 53: nothing is then too small for all 53 digits, and nothing overflows.
use Prim.Native.Nat.{ℕ, zero, suc, ◌+◌, ◌*◌, ◌/◌, ◌^◌, ◌≤◌, ◌<◌}
use mathlib.Core.Bool.{Bool, true, false, not, cond, true≢false}
use mathlib.Core.Logic.{⊎_elim}
use mathlib.Core.Path.{◌≡◌, refl, sym, ap, ◌∙◌}
use native.Mathlib.Nat.{le_trans, le_of_eq, lt_of_le_of_lt, one-mul, zero-mul, mul_assoc, mul-le-mul_left, mul-le-mul_right, mul-pos, le-mul_of_pos_right, le_of_mul-le-mul_right, eq-zero-or-pos}
use native.Mathlib.Omega.{arith}
use lib.Dec.{T, ltb, lit≤, lit<}
use lib.IntN.{ℤ, pos, negsuc, nat_abs}
use lib.Pow.{pow_pos}
use lib.Ieee.{Float, nan, inf, fin, Format, binary64, prec, low, emax, size, odd, units, round, neg, le, is_nan, of_bits, to_bits}
use lib.Ieee.Bits.{of_bits-to_bits, to_bits-of_bits, to_bits-lt}
use lib.Ieee.Exact.{HasValue}
use lib.Ieee.Fits.{round-fits}
use lib.Ieee.Order.{round_mono}
use lib.Ieee.Positive.{num, den, den_pos, value→cross}
use lib.Ieee.Scale.{grid, overflow, round_val, round_same, normal_of_fraction}
use borrow.Author.Tests.{lt-ltb, le-ltb, le-leb}
use Rattle.exact.specs.Quotient.{quotient, signed_quotient, float_zero, castable, quotient_or_zero}
use Rattle.exact.specs.Bound.{plain, without_sign, CloseTo, OnePattern}
use Rattle.exact.proofs.Rounding.{Within, within-apart, apart-within, grid_within, within_value}

-- the fractions that are rounded here
pub record Ranged (p q : ℕ) : Type 0 where
  pub top : p ≤ 2 ^ 53
  pub some : 0 < q
  pub bottom : q ≤ 2 ^ 53

-- of these, what `ratio` answers is the quotient
pub ranged-quotient : (p q : ℕ) → Ranged p q → quotient_or_zero p q ≡ quotient p q
unfolding quotient_or_zero castable
ranged-quotient p q r = simp (lt-ltb _ _ r.some, le-leb _ _ r.bottom, le-leb _ _ r.top)

-- ---- zero
pub quotient-zero : (q : ℕ) → 0 < q → quotient 0 q ≡ float_zero
quotient-zero q Q = round_same binary64 false 0 q 0 1 Q (lit≤ tt) (sym (zero-mul q)) ∙ (unfold round in refl)

-- ---- near its fraction
all_digits : (p q : ℕ) → 0 < p → Ranged p q → prec binary64 ≤ size (p * 2 ^ low binary64 / q)
all_digits p q P r =
    normal_of_fraction binary64 p q r.some
    (le_trans (mul-le-mul_left (2 ^ 52) r.bottom)
    (le_trans (lit≤ {m = 2 ^ 105} {n = 2 ^ 1074} tt)
    (le_trans (le_of_eq (sym (one-mul (2 ^ 1074)))) (mul-le-mul_right (2 ^ 1074) P))))

-- what is within one part of n is below m where twice n is
under : (t g c n m : ℕ) → 0 < t → 0 < c → Within t (g * c) n → 2 * n < m → g < m
under t g c n m P C h k =
    let x : n ≤ n * t = le-mul_of_pos_right n P in
    let y : g * c * t ≤ 2 * n * t = le_trans h.0 (omega (arith, mul_assoc 2 n t)) in
    lt_of_le_of_lt (le_trans (le-mul_of_pos_right g C) (le_of_mul-le-mul_right y P)) k

small : (p : ℕ) → p ≤ 2 ^ 53 → 2 * (p * 2 ^ 1074) < overflow binary64
small p h = lt_of_le_of_lt (mul-le-mul_left 2 (mul-le-mul_right (2 ^ 1074) h)) (lit< tt)

pub plain_value : (x : Float) (a c : ℕ) → HasValue x false a c → T (plain x)
plain_value nan a c h = absurd h
plain_value (inf s) a c h = absurd h
plain_value (fin true m e) a c h = true≢false h.0
plain_value (fin false m e) a c h = tt

-- one rounding is off by at most one part in 2 ^ 53
pub quotient_close : (p q : ℕ) → Ranged p q → CloseTo (2 ^ 53) (quotient p q) p q
quotient_close p q r = ⊎_elim none some (eq-zero-or-pos p)
  where
    none : p ≡ 0 → CloseTo (2 ^ 53) (quotient p q) p q
    none e = rw (e, quotient-zero q r.some) (record { is_plain = tt; near = omega (arith, zero-mul q) })

    some : 0 < p → CloseTo (2 ^ 53) (quotient p q) p q
    some P =
        let x = quotient p q in
        let g = grid binary64 p q in
        let w = grid_within binary64 p q r.some (all_digits p q P r) in
        let v = round_val binary64 p q (under (2 ^ 53) g q (p * 2 ^ 1074) (overflow binary64) (lit≤ tt) r.some w (small p r.top)) in
        record {
          is_plain = plain_value x g (2 ^ 1074) v;
          near =
              within-apart (2 ^ 53) (num x * q) (p * den x)
              (within_value (2 ^ 53) g q p (2 ^ 1074) (num x) (den x) (pow_pos 1074) (value→cross x g (2 ^ 1074) v) w);
        }

-- demand 3 asks half as much
pub quotient-near : (p q : ℕ) → Ranged p q → CloseTo (2 ^ 52) (quotient p q) p q
quotient-near p q r =
    let x = quotient_close p q r in
    record { is_plain = x.is_plain; near = omega (arith, x.near) }

-- ---- of a signed number: the same of its size, with the sign set
pub signed_plain : (p q : ℕ) → signed_quotient (pos p) q ≡ quotient p q
signed_plain p q = ap (λ (s : Bool). round binary64 s p q) (le-ltb p 0 (omega arith))

-- a rounding below 0 is the mirror image of one above
odd_neg : (d q k l : ℕ) → odd d true q k l ≡ neg (odd d false q k l)
unfolding odd neg
odd_neg d zero k l = refl
odd_neg d (suc q) k l = refl

units_neg : (f : Format) (q k : ℕ) → units f true q k ≡ neg (units f false q k)
unfolding units neg
units_neg f q k = by (ltb (q * 2 ^ k) (2 ^ (low f + suc (emax f))))
  where
    by : (b : Bool) → cond b (odd (suc (prec f)) true q k (low f)) (inf true) ≡ neg (cond b (odd (suc (prec f)) false q k (low f)) (inf false))
    by true = odd_neg (suc (prec f)) q k (low f)
    by false = refl

round_neg : (f : Format) (p q : ℕ) → round f true p q ≡ neg (round f false p q)
unfolding round
round_neg f p q = units_neg f _ _

twice_neg : (x : Float) → neg (neg x) ≡ x
unfolding neg
twice_neg nan = refl
twice_neg (inf true) = refl
twice_neg (inf false) = refl
twice_neg (fin true m e) = refl
twice_neg (fin false m e) = refl

pub without_sign_lem : (z : ℤ) (q : ℕ) → without_sign z (signed_quotient z q) ≡ quotient (nat_abs z) q
without_sign_lem (pos p) q = rw (le-ltb p 0 (omega arith))
without_sign_lem (negsuc p) q = ap neg (round_neg binary64 (suc p) q) ∙ twice_neg (quotient (suc p) q)

-- ---- zero only where p is
pub zero_only : (p q : ℕ) → Ranged p q → quotient p q ≡ float_zero → p ≡ 0
zero_only p q r e = ⊎_elim (λ z. z) (λ P. absurd (none P)) (eq-zero-or-pos p)
  where
    none : 0 < p → ⊥
    none P =
        let x = apart-within (2 ^ 53) (num (quotient p q) * q) (p * den (quotient p q)) (quotient_close p q r).near in
        let n : num (quotient p q) ≡ 0 = ap num e in
        let z : num (quotient p q) * q ≡ 0 = ap (λ (k : ℕ). k * q) n ∙ zero-mul q in
        omega (arith, mul-pos P (den_pos (quotient p q)))

-- ---- in order, and one float for equal fractions
pub quotient_mono : (p q p' q' : ℕ) → 0 < q → 0 < q' → p * q' ≤ p' * q → T (le (quotient p q) (quotient p' q'))
quotient_mono p q p' q' Q Q' h = round_mono binary64 p q p' q' Q Q' h

pub quotient-same : (p q p' q' : ℕ) → 0 < q → 0 < q' → p * q' ≡ p' * q → quotient p q ≡ quotient p' q'
quotient-same p q p' q' Q Q' e = round_same binary64 false p q p' q' Q Q' e

-- ---- as IEEE 754 reads its 64 bits
plain_not_nan : (x : Float) → T (plain x) → T (not (is_nan x))
unfolding is_nan
plain_not_nan nan h = absurd h
plain_not_nan (inf s) h = absurd h
plain_not_nan (fin s m e) h = tt

pub quotient_not_nan : (p q : ℕ) → Ranged p q → T (not (is_nan (quotient p q)))
quotient_not_nan p q r = plain_not_nan (quotient p q) (quotient_close p q r).is_plain

pub quotient_bits : (p q : ℕ) → of_bits binary64 (to_bits binary64 (quotient p q)) ≡ quotient p q
quotient_bits p q = of_bits-to_bits binary64 (quotient p q) (round-fits binary64 false p q)

pub quotient-pattern : (p q : ℕ) → Ranged p q → OnePattern (quotient p q)
quotient-pattern p q r = record {
  is_plain = (quotient_close p q r).is_plain;
  pattern = to_bits binary64 (quotient p q);
  short = to_bits-lt binary64 (quotient p q) (round-fits binary64 false p q);
  read = quotient_bits p q;
  sole = λ b l e. sym (to_bits-of_bits binary64 b l (rw e (quotient_not_nan p q r))) ∙ ap (to_bits binary64) e;
}

-- 0.0, as the code writes it
pub zero_bits : of_bits binary64 0 ≡ float_zero
unfolding of_bits
zero_bits = refl
