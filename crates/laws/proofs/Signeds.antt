-- The laws of `a ⊖ b`: what is to be shown of a signed number is arithmetic of the two naturals it is the difference of.
use Prim.Native.Nat.{ℕ, zero, suc, ◌+◌, ◌-◌, ◌*◌, ◌≤◌, ◌<◌}
use mathlib.Core.Bool.{false}
use mathlib.Core.Logic.{◌⊎◌, inl, inr, ⊎_elim}
use mathlib.Core.Path.{◌≡◌, refl, sym, ap, ap₂, ◌∙◌}
use native.Mathlib.Nat.{add-zero, add_comm, add-mul, mul-add}
use native.Mathlib.Omega.{arith}
use lib.Dec.{ltb}
use lib.IntN.{ℤ, pos, negsuc, nat_abs, neg_ℤ, ◌+ℤ◌, ◌-ℤ◌, ◌*ℤ◌, +ℤ_assoc, +ℤ_comm, +ℤ_idl, +ℤ_idr, +ℤ_invr, *ℤ-negsuc, neg_ℤ-+ℤ, neg_ℤ-neg_ℤ}
use lib.Signed.{lt_z}
use borrow.Author.Tests.{lt-ltb, le-ltb, ltb-false}
use Rattle.laws.specs.Sum.{sum_to}
use Rattle.laws.specs.Signed.{◌⊖◌, apart, sum_toℤ}
use Rattle.laws.proofs.Cases.{lt_or_ge, ltb_iff}

swapped : (x y z w : ℤ) → (x +ℤ y) +ℤ (z +ℤ w) ≡ (x +ℤ z) +ℤ (y +ℤ w)
swapped x y z w =
    +ℤ_assoc x y (z +ℤ w)
    ∙ ap (λ (t : ℤ). x +ℤ t) (sym (+ℤ_assoc y z w) ∙ ap (λ (t : ℤ). t +ℤ w) (+ℤ_comm y z) ∙ +ℤ_assoc z y w)
    ∙ sym (+ℤ_assoc x z (y +ℤ w))

pub ⊖-add : (a b c d : ℕ) → (a ⊖ b) +ℤ (c ⊖ d) ≡ (a + c) ⊖ (b + d)
unfolding ◌⊖◌
⊖-add a b c d =
    swapped (pos a) (neg_ℤ (pos b)) (pos c) (neg_ℤ (pos d))
    ∙ ap (λ (t : ℤ). pos (a + c) +ℤ t) (sym (neg_ℤ-+ℤ (pos b) (pos d)))

pub ⊖-neg : (a b : ℕ) → neg_ℤ (a ⊖ b) ≡ b ⊖ a
unfolding ◌⊖◌
⊖-neg a b =
    neg_ℤ-+ℤ (pos a) (neg_ℤ (pos b))
    ∙ ap (λ (t : ℤ). neg_ℤ (pos a) +ℤ t) (neg_ℤ-neg_ℤ (pos b))
    ∙ +ℤ_comm (neg_ℤ (pos a)) (pos b)

pub ⊖-sub : (a b c d : ℕ) → (a ⊖ b) -ℤ (c ⊖ d) ≡ (a + d) ⊖ (b + c)
⊖-sub a b c d = ap (λ (t : ℤ). (a ⊖ b) +ℤ t) (⊖-neg c d) ∙ ⊖-add a b d c

pub ⊖-zero : (a : ℕ) → a ⊖ 0 ≡ pos a
unfolding ◌⊖◌
⊖-zero a = ap pos (add-zero a)

pub ⊖-self : (a : ℕ) → a ⊖ a ≡ pos 0
unfolding ◌⊖◌
⊖-self a = +ℤ_invr (pos a)

shifted : (a b d : ℕ) → (a + d) ⊖ (b + d) ≡ a ⊖ b
shifted a b d = sym (⊖-add a b d d) ∙ ap (λ (t : ℤ). (a ⊖ b) +ℤ t) (⊖-self d) ∙ +ℤ_idr (a ⊖ b)

-- two differences are equal where the crossed sums are
pub ⊖-eq : (a b c d : ℕ) → a + d ≡ c + b → a ⊖ b ≡ c ⊖ d
⊖-eq a b c d e =
    sym (shifted a b d)
    ∙ ap (λ (t : ℕ). t ⊖ (b + d)) e
    ∙ ap (λ (t : ℕ). (c + b) ⊖ t) (add_comm b d)
    ∙ shifted c d b

pub ⊖-ge : (a b : ℕ) → b ≤ a → a ⊖ b ≡ pos (a - b)
⊖-ge a b h = ⊖-eq a b (a - b) 0 (omega arith) ∙ ⊖-zero (a - b)

below_zero : (n : ℕ) → 0 ⊖ suc n ≡ negsuc n
unfolding ◌⊖◌
below_zero n = +ℤ_idl (negsuc n)

pub ⊖-less : (a b : ℕ) → a < b → a ⊖ b ≡ negsuc (b - suc a)
⊖-less a b h = ⊖-eq a b 0 (suc (b - suc a)) (omega arith) ∙ below_zero (b - suc a)

-- a test of two differences is a test of the crossed sums
pub ⊖-ltZ : (a b c d : ℕ) → lt_z (a ⊖ b) (c ⊖ d) ≡ ltb (a + d) (c + b)
⊖-ltZ a b c d =
    ⊎_elim
    (λ l. ⊎_elim
    (λ k. rw (⊖-less a b l, ⊖-less c d k) (ltb_iff (d - suc c) (b - suc a) (a + d) (c + b) (λ h. omega arith) (λ h. omega arith)))
    (λ k. rw (⊖-less a b l, ⊖-ge c d k) (sym (lt-ltb (a + d) (c + b) (omega arith))))
    (lt_or_ge c d))
    (λ l. ⊎_elim
    (λ k. rw (⊖-ge a b l, ⊖-less c d k) (sym (le-ltb (a + d) (c + b) (omega arith))))
    (λ k. rw (⊖-ge a b l, ⊖-ge c d k) (ltb_iff (a - b) (c - d) (a + d) (c + b) (λ h. omega arith) (λ h. omega arith)))
    (lt_or_ge c d))
    (lt_or_ge a b)

-- and only there
pub ⊖-cross : (a b c d : ℕ) → a ⊖ b ≡ c ⊖ d → a + d ≡ c + b
⊖-cross a b c d e =
    let up : c + b ≤ a + d = no_less a b c d e in
    let down : a + d ≤ c + b = no_less c d a b (sym e) in
    omega arith
  where
    no_less : (a b c d : ℕ) → a ⊖ b ≡ c ⊖ d → c + b ≤ a + d
    no_less a b c d e =
        ltb-false (a + d) (c + b)
        (sym (⊖-ltZ a b c d)
        ∙ ap (λ (z : ℤ). lt_z z (c ⊖ d)) e
        ∙ ⊖-ltZ c d c d
        ∙ le-ltb (c + d) (c + d) (omega arith))

pub ⊖-above : (a b : ℕ) → lt_z (pos 0) (a ⊖ b) ≡ ltb b a
⊖-above a b =
    rw (← ⊖-self b) (⊖-ltZ b b a b ∙ ltb_iff (b + b) (a + b) b a (λ h. omega arith) (λ h. omega arith))

pub ⊖-below : (a b : ℕ) → lt_z (a ⊖ b) (pos 0) ≡ ltb a b
⊖-below a b =
    rw (← ⊖-self b) (⊖-ltZ a b b b ∙ ltb_iff (a + b) (b + b) a b (λ h. omega arith) (λ h. omega arith))

-- the square of a difference
pub ⊖-square : (a b : ℕ) → (a ⊖ b) *ℤ (a ⊖ b) ≡ pos (apart a b * apart a b)
⊖-square a b =
    ⊎_elim
    (λ l. let e : suc (b - suc a) ≡ apart a b = omega arith in rw (⊖-less a b l) (ap (λ (k : ℕ). pos (k * k)) e))
    (λ g. let e : a - b ≡ apart a b = omega arith in rw (⊖-ge a b g) (ap (λ (k : ℕ). pos (k * k)) e))
    (lt_or_ge a b)

-- and its size
pub ⊖-size : (a b : ℕ) → nat_abs (a ⊖ b) ≡ apart a b
⊖-size a b =
    ⊎_elim
    (λ l. let e : suc (b - suc a) ≡ apart a b = omega arith in rw (⊖-less a b l) e)
    (λ g. let e : a - b ≡ apart a b = omega arith in rw (⊖-ge a b g) e)
    (lt_or_ge a b)

split : (a b n : ℕ) → b ≤ a → a * n ≡ (a - b) * n + b * n
split a b n h = let e : a ≡ a - b + b = omega arith in ap (λ (k : ℕ). k * n) e ∙ add-mul (a - b) b n

-- a difference times a natural number
pub ⊖-scale : (a b n : ℕ) → (a ⊖ b) *ℤ pos n ≡ a * n ⊖ b * n
⊖-scale a b n =
    ⊎_elim
    (λ l. rw (⊖-less a b l) (below l))
    (λ g. rw (⊖-ge a b g) (sym (⊖-eq (a * n) (b * n) ((a - b) * n) 0 (omega (arith, split a b n g)) ∙ ⊖-zero ((a - b) * n))))
    (lt_or_ge a b)
  where
    below : a < b → neg_ℤ (pos (suc (b - suc a) * n)) ≡ a * n ⊖ b * n
    below l =
        let e : suc (b - suc a) ≡ b - a = omega arith in
        rw e
        (ap neg_ℤ (sym (⊖-zero ((b - a) * n)))
        ∙ ⊖-neg ((b - a) * n) 0
        ∙ ⊖-eq 0 ((b - a) * n) (a * n) (b * n) (omega (arith, split b a n (omega arith))))

-- a product of two differences
pub ⊖-times : (a b c d : ℕ) → (a ⊖ b) *ℤ (c ⊖ d) ≡ a * c + b * d ⊖ (a * d + b * c)
⊖-times a b c d =
    ⊎_elim
    (λ l. rw (⊖-less c d l) (*ℤ-negsuc (a ⊖ b) (d - suc c) ∙ below l))
    (λ g. rw (⊖-ge c d g) (⊖-scale a b (c - d) ∙ ⊖-eq (a * (c - d)) (b * (c - d)) (a * c + b * d) (a * d + b * c) (crossed a b d c g)))
    (lt_or_ge c d)
  where
    crossed : (a b d c : ℕ) → d ≤ c → a * (c - d) + (a * d + b * c) ≡ a * c + b * d + b * (c - d)
    crossed a b d c g =
        let e : d + (c - d) ≡ c = omega arith in
        let of-a : a * c ≡ a * d + a * (c - d) = ap (λ (k : ℕ). a * k) (sym e) ∙ mul-add a d (c - d) in
        let of-b : b * c ≡ b * d + b * (c - d) = ap (λ (k : ℕ). b * k) (sym e) ∙ mul-add b d (c - d) in
        omega arith

    below : c < d → neg_ℤ ((a ⊖ b) *ℤ pos (suc (d - suc c))) ≡ a * c + b * d ⊖ (a * d + b * c)
    below l =
        let e : suc (d - suc c) ≡ d - c = omega arith in
        rw e
        (ap neg_ℤ (⊖-scale a b (d - c))
        ∙ ⊖-neg (a * (d - c)) (b * (d - c))
        ∙ ⊖-eq (b * (d - c)) (a * (d - c)) (a * c + b * d) (a * d + b * c) (omega (arith, crossed b a c d (omega arith))))

-- a sum of differences is the difference of the sums
pub ⊖-sum : (n : ℕ) (a b : ℕ → ℕ) → sum_toℤ n (λ (i : ℕ). a i ⊖ b i) ≡ sum_to n a ⊖ sum_to n b
unfolding sum_toℤ sum_to
⊖-sum zero a b = sym (⊖-zero 0)
⊖-sum (suc n) a b = ap (λ (t : ℤ). t +ℤ (a n ⊖ b n)) (⊖-sum n a b) ∙ ⊖-add (sum_to n a) (sum_to n b) (a n) (b n)

-- and a sum of their squares is a natural number
pub ⊖-squares : (n : ℕ) (a b : ℕ → ℕ)
    → sum_toℤ n (λ (i : ℕ). (a i ⊖ b i) *ℤ (a i ⊖ b i)) ≡ pos (sum_to n (λ (i : ℕ). apart (a i) (b i) * apart (a i) (b i)))
unfolding sum_toℤ sum_to
⊖-squares zero a b = refl
⊖-squares (suc n) a b = ap₂ (λ (x y : ℤ). x +ℤ y) (⊖-squares n a b) (⊖-square (a n) (b n))

-- a difference is how far the two are apart, or that with its sign turned
pub ⊖-either : (a b : ℕ) → (a ⊖ b ≡ pos (apart a b)) ⊎ (a ⊖ b ≡ neg_ℤ (pos (apart a b)))
⊖-either a b =
    ⊎_elim
    (λ l. let e : b - a ≡ apart a b = omega arith in inr (sym (⊖-neg b a) ∙ ap neg_ℤ (⊖-ge b a (omega arith) ∙ ap pos e)))
    (λ g. let e : a - b ≡ apart a b = omega arith in inl (⊖-ge a b g ∙ ap pos e))
    (lt_or_ge a b)

-- one whose size is at most m is not above m, and not below −m
pub ⊖-up-to : (a b m : ℕ) → apart a b ≤ m → lt_z (pos m) (a ⊖ b) ≡ false
⊖-up-to a b m l = rw (← ⊖-zero m) (⊖-ltZ m 0 a b ∙ le-ltb (m + b) (a + 0) (omega arith))

pub ⊖-down-to : (a b m : ℕ) → apart a b ≤ m → lt_z (a ⊖ b) (neg_ℤ (pos m)) ≡ false
⊖-down-to a b m l = ap (lt_z (a ⊖ b)) (ap neg_ℤ (sym (⊖-zero m)) ∙ ⊖-neg m 0) ∙ ⊖-ltZ a b 0 m ∙ le-ltb (a + m) (0 + b) (omega arith)

-- the size of a difference of two numbers that are at most m
pub ⊖-within : (a b m : ℕ) → a ≤ m → b ≤ m → nat_abs (a ⊖ b) ≤ m
⊖-within a b m p q = rw (⊖-size a b) (omega arith)
