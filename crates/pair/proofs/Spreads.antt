-- P of signed differences in natural numbers: the sum of d is the difference of the frames' sums, d² is the square of its size,
-- and by Cauchy and Schwarz nothing is taken off that is not there.
use Prim.Native.Nat.{ℕ, ◌-◌, ◌*◌, ◌^◌, ◌≤◌, ◌<◌}
use mathlib.Core.Bool.{Bool, true, false, cond}
use mathlib.Core.List.{List}
use mathlib.Core.Logic.{inl, inr, ⊎_elim}
use mathlib.Core.Path.{◌≡◌, refl, sym, ap, ap₂, ◌∙◌}
use native.Mathlib.Omega.{arith}
use lib.IntN.{ℤ, pos, nat_abs, ◌-ℤ◌, ◌*ℤ◌}
use lib.Dec.{eqb}
use lib.ListN.{get_or}
use borrow.Author.Tests.{eqb-true, eqb-false}
use Rattle.laws.specs.Sum.{sum_to}
use Rattle.laws.specs.Signed.{◌⊖◌, apart}
use Rattle.laws.proofs.Signeds.{⊖-sum, ⊖-squares, ⊖-square, ⊖-ge}
use Rattle.laws.proofs.Sums.{Shifted}
use Rattle.laws.proofs.Squares.{Counted, AsFar, squares, excess, schwarz, excess_same, none_equal, equal_none}
use Rattle.laws.proofs.Cases.{times_le, true_or_false}
use Rattle.window.specs.View.{surveyed, seen_at, one, seen}
use Rattle.window.proofs.Views.{seen_in, seen_out, seen_is, one_is}
use Rattle.pair.specs.Walk.{totals_of}
use Rattle.pair.specs.Figures.{difference, numerator, spread_of}
use Rattle.pair.specs.declared.Totals.{Totals}

-- a site counts 1, or it counts 0 and 0 is seen there in both frames
pub counted : (mask first second : List ℕ) (i : ℕ) → Counted (one mask i) (seen mask first i) (seen mask second i)
unfolding one seen seen_at
counted mask first second i = by (surveyed (get_or mask i 0))
  where
    by : (t : Bool) → Counted (cond t 1 0) (cond t (get_or first i 0) 0) (cond t (get_or second i 0) 0)
    by true = inl refl
    by false = inr (refl, refl, refl)

module _ (mask first second : List ℕ) (N : ℕ) where
  in_naturals : numerator N (sum_to N (one mask)) (difference (seen mask first) (seen mask second)) ≡ pos (excess (one mask) (seen mask first) (seen mask second) N)
  unfolding numerator ◌⊖◌
  in_naturals =
      let x = seen mask first in
      let y = seen mask second in
      let n = sum_to N (one mask) in
      ap₂ (λ (s d : ℤ). pos n *ℤ s -ℤ d *ℤ d) (⊖-squares N y x) (⊖-sum N y x)
      ∙ ap (λ (z : ℤ). pos (n * sum_to N (squares x y)) -ℤ z) (⊖-square (sum_to N y) (sum_to N x))
      ∙ ⊖-ge (n * sum_to N (squares x y)) (apart (sum_to N y) (sum_to N x) * apart (sum_to N y) (sum_to N x))
      (schwarz (one mask) x y (counted mask first second) N)

  -- P as the code works it out
  pub spread_is : (spread_of N (one mask) (seen mask first) (seen mask second)).p ≡ excess (one mask) (seen mask first) (seen mask second) N
  unfolding spread_of
  spread_is = ap nat_abs in_naturals

  -- P is what document 01 writes, over signed differences: it is never below 0
  pub whole : pos (spread_of N (one mask) (seen mask first) (seen mask second)).p ≡ numerator N (sum_to N (one mask)) (difference (seen mask first) (seen mask second))
  whole = ap pos spread_is ∙ sym in_naturals

-- P is told by how far the differences are from each other, two by two
spread_same : (mask first second first' second' : List ℕ) (N : ℕ)
    → AsFar (one mask) (seen mask first) (seen mask second) (seen mask first') (seen mask second') N
    → (spread_of N (one mask) (seen mask first) (seen mask second)).p ≡ (spread_of N (one mask) (seen mask first') (seen mask second')).p
spread_same mask first second first' second' N far =
    spread_is mask first second N
    ∙ excess_same (one mask) (seen mask first) (seen mask second) (seen mask first') (seen mask second') (counted mask first second) (counted mask first' second') N far
    ∙ sym (spread_is mask first' second' N)

-- so it is the same of the frames exchanged
pub spread_swap : (mask first second : List ℕ) (N : ℕ)
    → (spread_of N (one mask) (seen mask second) (seen mask first)).p ≡ (spread_of N (one mask) (seen mask first) (seen mask second)).p
spread_swap mask first second N = spread_same mask second first first second N (λ i j p q a b. omega arith)

-- and where one constant is added to every sample that is seen of the first
pub spread_shift : (mask first other second : List ℕ) (up down N : ℕ)
    → ((i : ℕ) → i < N → Shifted up down (one mask i) (seen mask first i) (seen mask other i))
    → (spread_of N (one mask) (seen mask other) (seen mask second)).p ≡ (spread_of N (one mask) (seen mask first) (seen mask second)).p
spread_shift mask first other second up down N shift =
    spread_same mask other second first second N (λ i j p q a b. omega (arith, rw a at (shift i p), rw b at (shift j q)))

-- P from the sums t of a walk
module _ (mask first second : List ℕ) (N : ℕ) (t : Totals) (e : t ≡ totals_of N (one mask) (seen mask first) (seen mask second)) where
  -- (sum of d)² is at most n × (sum of d²)
  pub enough : apart t.second t.first * apart t.second t.first ≤ t.n * t.squares
  enough = rw e (schwarz (one mask) (seen mask first) (seen mask second) (counted mask first second) N)

  pub spread_from : (d : ℕ) → d ≡ apart t.second t.first
      → record { n = t.n; p = t.n * t.squares - d * d } ≡ spread_of N (one mask) (seen mask first) (seen mask second)
  unfolding spread_of
  spread_from d h = rw (h, e) (ap (λ (p : ℕ). record { n = sum_to N (one mask); p = p }) (sym (spread_is mask first second N)))

-- the product of the sums of at most 16,384 sites
pub product_fits : (n q : ℕ) → n ≤ 16384 → q ≤ 70366596710400 → n * q < 2 ^ 64
product_fits n q a b = omega (arith, times_le n q 16384 70366596710400 a b)

-- ---- when P is 0
-- d, second minus first, is the same at all surveyed sites below N
abbrev pub SameDifference : List ℕ → List ℕ → List ℕ → ℕ → Type 0
SameDifference mask first second N =
    (i j : ℕ) → i < N → j < N → get_or mask i 0 ≡ 0 → get_or mask j 0 ≡ 0 → get_or second i 0 ⊖ get_or first i 0 ≡ get_or second j 0 ⊖ get_or first j 0

module _ (mask : List ℕ) (i : ℕ) where
  one_at : get_or mask i 0 ≡ 0 → one mask i ≡ 1
  one_at e = one_is mask i ∙ seen_in (get_or mask i 0) 1 e

  at_one : one mask i ≡ 1 → get_or mask i 0 ≡ 0
  at_one e =
      ⊎_elim
      (λ t. eqb-true (get_or mask i 0) 0 t)
      (λ f. absurd (omega (arith, one_is mask i, seen_out (get_or mask i 0) 1 (eqb-false (get_or mask i 0) 0 f))))
      (true_or_false (eqb (get_or mask i 0) 0))

  -- where a site is surveyed, d is of the samples themselves
  same_at : (first second : List ℕ) → get_or mask i 0 ≡ 0 → seen mask second i ⊖ seen mask first i ≡ get_or second i 0 ⊖ get_or first i 0
  same_at first second e =
      let at : (frame : List ℕ) → seen mask frame i ≡ get_or frame i 0 = λ frame. seen_is mask frame i ∙ seen_in (get_or mask i 0) (get_or frame i 0) e in
      ap₂ (λ (a b : ℕ). a ⊖ b) (at second) (at first)

module _ (mask first second : List ℕ) (N : ℕ) where
  pub zero_same : (spread_of N (one mask) (seen mask first) (seen mask second)).p ≡ 0 → SameDifference mask first second N
  zero_same e i j p q a b =
      sym (same_at mask i first second a)
      ∙ none_equal (one mask) (seen mask first) (seen mask second) (counted mask first second) N (sym (spread_is mask first second N) ∙ e) i j p q (one_at mask i a) (one_at mask j b)
      ∙ same_at mask j first second b

  pub same-zero : SameDifference mask first second N → (spread_of N (one mask) (seen mask first) (seen mask second)).p ≡ 0
  same-zero h =
      spread_is mask first second N
      ∙ equal_none (one mask) (seen mask first) (seen mask second) (counted mask first second) N
      (λ i j p q a b. same_at mask i first second (at_one mask i a) ∙ h i j p q (at_one mask i a) (at_one mask j b) ∙ sym (same_at mask j first second (at_one mask j b)))
