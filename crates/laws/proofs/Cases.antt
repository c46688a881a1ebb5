-- Splitting on an order or on a test; bounds on products.
use Prim.Native.Nat.{ℕ, ◌+◌, ◌*◌, ◌≤◌, ◌<◌}
use mathlib.Core.Bool.{Bool, true, false, cond, ◌||◌, ◌&&◌}
use mathlib.Core.Logic.{◌⊎◌, inl, inr, ⊎_elim}
use mathlib.Core.Path.{◌≡◌, refl, sym, ◌∙◌}
use native.Mathlib.Decide.{dec_lt}
use native.Mathlib.Nat.{mul-le-mul, mul-le-mul_right, suc-mul}
use native.Mathlib.Omega.{arith}
use mir.Val.{bool_byte}
use lib.Dec.{eqb, ltb}
use borrow.Author.Tests.{lt-ltb, le-ltb, ltb-false, eqb-false, ne_eqb}

pub lt_or_ge : (a b : ℕ) → (a < b) ⊎ (b ≤ a)
lt_or_ge a b = by (dec_lt a b)
  where
    by : Dec (a < b) → (a < b) ⊎ (b ≤ a)
    by (yes l) = inl l
    by (no f) = inr (omega arith)

pub true_or_false : (b : Bool) → (b ≡ true) ⊎ (b ≡ false)
true_or_false true = inl refl
true_or_false false = inr refl

-- nothing is both
-- the number of a truth: 1 or 0
pub bit_is : (b : Bool) → bool_byte b ≡ cond b 1 0
bit_is true = refl
bit_is false = refl

pub bit_few : (b : Bool) → bool_byte b ≤ 1
bit_few true = omega arith
bit_few false = omega arith

pub not_both : {b : Bool} → b ≡ true → b ≡ false → ⊥
not_both p q = let z : ◌≡◌ {A = ℕ} 0 1 = cc in omega arith

-- where neither of two tests holds
pub neither : (a b : Bool) → (a || b) ≡ false → (a ≡ false) × (b ≡ false)
neither true b e = absurd (not_both refl e)
neither false b e = (refl, e)

-- where one of two does
pub either : (a b : Bool) → (a || b) ≡ true → (a ≡ true) ⊎ (b ≡ true)
either true b e = inl refl
either false b e = inr e

-- two tests are one where neither fails alone
pub both_ways : (a b : Bool) → (a ≡ false → b ≡ false) → (b ≡ false → a ≡ false) → a ≡ b
both_ways true true f g = refl
both_ways true false f g = g refl
both_ways false true f g = sym (f refl)
both_ways false false f g = refl

-- where both do
pub and_true : (a b : Bool) → (a && b) ≡ true → (a ≡ true) × (b ≡ true)
and_true true b e = (refl, e)
and_true false b e = absurd (not_both e refl)

-- a number from 1 to a limit, and the test that refuses any other
pub record Within (most n : ℕ) : Type 0 where
  pub low : 1 ≤ n
  pub high : n ≤ most

pub within_is : (most n : ℕ) → (eqb n 0 || ltb most n) ≡ false → Within most n
within_is most n e =
    let out = neither (eqb n 0) (ltb most n) e in
    let some = eqb-false n 0 out.0 in
    record { low = omega arith; high = ltb-false most n out.1 }

pub is_within : (most n : ℕ) → Within most n → (eqb n 0 || ltb most n) ≡ false
is_within most n w = rw (ne_eqb n 0 (λ e. omega (arith, w.low))) (le-ltb most n w.high)

-- two tests are one where each holds where the other does
pub ltb_iff : (a b c d : ℕ) → (a < b → c < d) → (c < d → a < b) → ltb a b ≡ ltb c d
ltb_iff a b c d f g =
    ⊎_elim
    (λ l. lt-ltb a b l ∙ sym (lt-ltb c d (f l)))
    (λ h. le-ltb a b h ∙ sym (le-ltb c d (back h)))
    (lt_or_ge a b)
  where
    back : b ≤ a → d ≤ c
    back h = ⊎_elim (λ l. let k : a < b = g l in omega arith) (λ k. k) (lt_or_ge c d)

-- a product by bounds on its factors
pub times_le : (a b x y : ℕ) → a ≤ x → b ≤ y → a * b ≤ x * y
times_le a b x y p q = mul-le-mul p q

-- row y of h rows, w wide, ends in them
pub row_end : (y h w : ℕ) → y < h → y * w + w ≤ h * w
row_end y h w l = rw (← suc-mul y w) (mul-le-mul_right w l)
