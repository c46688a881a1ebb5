-- The machine's division of two whole numbers that were cast without loss, the first signed or not, is their quotient: both casts keep the value, and a division rounds once.
use Prim.Native.Nat.{ℕ, suc, ◌*◌, ◌^◌, ◌≤◌, ◌<◌}
use mathlib.Core.Bool.{Bool, true, false, cond, true≢false}
use mathlib.Core.Path.{◌≡◌, sym, ap, ◌∙◌, subst}
use native.Mathlib.Nat.{lt_irrefl, mul-one, mul_comm, mul_assoc, mul_left_comm, mul-pos, pos_of_ne-zero, zero-mul}
use native.Mathlib.Omega.{arith}
use lib.Dec.{T, eqb, eqb→eq}
use lib.IntN.{ℤ, pos, negsuc, nat_abs}
use lib.Ieee.{Float, nan, inf, fin, Format, binary64, up, down, round, div, of_int}
use lib.Ieee.Back.{round_whole}
use lib.Ieee.Exact.{HasValue}
use lib.Ieee.Fits.{up_pos, down_pos}
use lib.Ieee.Positive.{num, value→cross}
use lib.Ieee.Scale.{round_same}
use lib.Signed.{lt_z}
use borrow.Author.Tests.{le-ltb}
use Rattle.exact.specs.Quotient.{quotient, signed_quotient}
use Rattle.exact.specs.Bound.{ExactFloat}
use Rattle.exact.proofs.Quotients.{Ranged, plain_value, signed_plain}

not_zero : (n : ℕ) (d : ℤ) (q : ℕ) → 0 < q → n * up d * 1 ≡ q * down d → n ≡ 0 → ⊥
not_zero n d q Q h e =
    let z : n * up d * 1 ≡ 0 = ap (λ (k : ℕ). k * up d * 1) e ∙ ap (λ (k : ℕ). k * 1) (zero-mul (up d)) in
    lt_irrefl 0 (subst (λ (k : ℕ). 0 < k) (sym h ∙ z) (mul-pos Q (down_pos d)))

crossed : (M N de dd p q : ℕ) → M * 1 ≡ p * de → N * 1 ≡ q * dd → M * dd * q ≡ p * (N * de)
crossed M N de dd p q h k =
    let mid : p * de * dd * q ≡ p * (q * dd * de) = simp (mul_assoc, mul_comm, mul_left_comm) in
    ap (λ (z : ℕ). z * dd * q) (sym (mul-one M) ∙ h) ∙ mid ∙ ap (λ (z : ℕ). p * (z * de)) (sym k ∙ mul-one N)

-- a fraction of the sign s, whichever it is
by_sign : (f : Format) (s b : Bool) (m n : ℕ) (e d : ℤ) (p q : ℕ) → 0 < q → m * up e * 1 ≡ p * down e → n * up d * 1 ≡ q * down d → (T b → n ≡ 0)
    → cond b (cond (eqb m 0) nan (inf s)) (round f s (m * up e * down d) (n * up d * down e)) ≡ round f s p q
by_sign f s true m n e d p q Q h k z = absurd (not_zero n d q Q k (z tt))
by_sign f s false m n e d p q Q h k z =
    round_same f s (m * up e * down d) (n * up d * down e) p q
    (mul-pos (mul-pos (pos_of_ne-zero (not_zero n d q Q k)) (up_pos d)) (down_pos e)) Q
    (crossed (m * up e) (n * up d) (down e) (down d) p q h k)

-- a number of the sign s over one that is not negative
div_values : (f : Format) (s : Bool) (x y : Float) (p q : ℕ) → 0 < q → HasValue x s p 1 → HasValue y false q 1 → div f x y ≡ round f s p q
unfolding div
div_values f s nan y p q Q h k = absurd h
div_values f s (inf t) y p q Q h k = absurd h
div_values f s (fin t m e) nan p q Q h k = absurd k
div_values f s (fin t m e) (inf u) p q Q h k = absurd k
div_values f s (fin t m e) (fin true n d) p q Q h k = absurd (true≢false k.0)
div_values f s (fin true m e) (fin false n d) p q Q h k = rw (← h.0) (by_sign f true (eqb n 0) m n e d p q Q h.1 k.1 (eqb→eq n 0))
div_values f s (fin false m e) (fin false n d) p q Q h k = rw (← h.0) (by_sign f false (eqb n 0) m n e d p q Q h.1 k.1 (eqb→eq n 0))

whole : (z : ℤ) → nat_abs z ≤ 2 ^ 53 → HasValue (of_int binary64 z) (lt_z z (pos 0)) (nat_abs z) 1
unfolding of_int
whole (pos n) h = rw (le-ltb n 0 (omega arith)) (round_whole binary64 false n h)
whole (negsuc n) h = round_whole binary64 true (suc n) h

-- so every whole number up to 2 ^ 53 has an exact float
pub exact_float : (n : ℕ) → n ≤ 2 ^ 53 → ExactFloat n
exact_float n h =
    let x = of_int binary64 (pos n) in
    let v : HasValue x false n 1 = rw (le-ltb n 0 (omega arith)) at (whole (pos n) h) in
    record { is_plain = plain_value x n 1 v; same = sym (mul-one (num x)) ∙ value→cross x n 1 v }

pub signed_division : (z : ℤ) (q : ℕ) → Ranged (nat_abs z) q → div binary64 (of_int binary64 z) (of_int binary64 (pos q)) ≡ signed_quotient z q
signed_division z q r =
    div_values binary64 (lt_z z (pos 0)) (of_int binary64 z) (of_int binary64 (pos q)) (nat_abs z) q r.some (whole z r.top)
    (rw (le-ltb q 0 (omega arith)) at (whole (pos q) r.bottom))

pub division : (p q : ℕ) → Ranged p q → div binary64 (of_int binary64 (pos p)) (of_int binary64 (pos q)) ≡ quotient p q
division p q r = signed_division (pos p) q r ∙ signed_plain p q
