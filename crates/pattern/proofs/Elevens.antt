-- Neighbours among the totals: sums of runs of a list as std adds them, and the line in the middle of eleven.
use Prim.Native.Nat.{ℕ, zero, suc, ◌+◌, ◌-◌, ◌*◌, ◌<◌, ◌≤◌, max}
use mathlib.Core.List.{List}
use mathlib.Core.Path.{◌≡◌, refl, ap, ap₂, ◌∙◌}
use native.Mathlib.Nat.{zero-add}
use native.Mathlib.Omega.{arith}
use lib.ListN.{length, length-drop, take, drop}
use lib.Seq.{get_or-drop}
use Rattle.std.specs.List.{sum}
use Rattle.std.proofs.lemmas.List.Sums.{sum_by_more}
use Rattle.laws.specs.Sum.{sum_to, sum_in}
use Rattle.laws.specs.Greatest.{greatest_in}
use Rattle.laws.specs.Table.{held}
use Rattle.laws.proofs.Sums.{sum_ext, sum-le}
use Rattle.laws.proofs.Greatests.{greatest_one, greatest_more, max_greater}
use Rattle.pattern.specs.Figures.{ten_around, stands_out, deviation}
use Rattle.pattern.specs.Walk.{Possible}

-- ---- sums of runs
sum_front : (xs : List ℕ) (n : ℕ) → n ≤ length xs → sum (take n xs) ≡ sum_to n (held xs)
unfolding sum_to
sum_front xs zero l = refl
sum_front xs (suc n) l =
    let e : suc n ≡ n + 1 = omega arith in
    ap (λ (k : ℕ). sum (take k xs)) e ∙ sum_by_more (λ (x : ℕ). x) xs n 0 (omega arith) ∙ ap (λ (s : ℕ). s + held xs n) (sum_front xs n (omega arith))

module _ (xs : List ℕ) (a n : ℕ) (inside : a + n ≤ length xs) where
  pub sum_run : sum (take n (drop a xs)) ≡ sum_in a (a + n) (held xs)
  unfolding sum_in
  sum_run =
      let e : a + n - a ≡ n = omega arith in
      rw e
      (sum_front (drop a xs) n (omega (arith, length-drop a xs))
      ∙ sum_ext n (held (drop a xs)) (λ (k : ℕ). held xs (a + k)) (λ k l. get_or-drop a xs k 0))

  pub sum_run-le : Possible xs → sum (take n (drop a xs)) ≤ n * 52416000
  sum_run-le possible =
      rw (sum_front (drop a xs) n (omega (arith, length-drop a xs)))
      (sum-le n 52416000 (held (drop a xs)) (λ k l. rw (get_or-drop a xs k 0) (possible (a + k) (omega arith))))

-- ---- eleven totals from line j on: what stands in their middle is line j + 5
module _ (C D : ℕ → ℕ) (j : ℕ) (same : (k : ℕ) → k < 11 → C k ≡ D (j + k)) where
  five_before : sum_in 0 5 C ≡ sum_in (j + 5 - 5) (j + 5) D
  unfolding sum_in
  five_before =
      let e : j + 5 - 5 ≡ j = omega arith in
      let f : j + 5 - j ≡ 5 = omega arith in
      rw (e, f) (sum_ext 5 (λ (k : ℕ). C (0 + k)) (λ (k : ℕ). D (j + k)) (λ k l. rw (zero-add k) (same k (omega arith))))

  five_after : sum_in 6 11 C ≡ sum_in (j + 5 + 1) (j + 5 + 6) D
  unfolding sum_in
  five_after =
      let e : j + 5 + 6 - (j + 5 + 1) ≡ 5 = omega arith in
      rw e
      (sum_ext 5 (λ (k : ℕ). C (6 + k)) (λ (k : ℕ). D (j + 5 + 1 + k)) (λ k l.
      let f : j + (6 + k) ≡ j + 5 + 1 + k = omega arith in
      same (6 + k) (omega arith) ∙ ap D f))

  pub middle : deviation C 5 ≡ deviation D (j + 5)
  unfolding deviation ten_around
  middle =
      ap₂ (λ (c t : ℕ). stands_out (10 * c) t) (same 5 (omega arith)) (ap₂ (λ (x y : ℕ). x + y) five_before five_after)

-- a turn of the search for the greatest: nothing was found before the first
pub max_turn : (C : ℕ → ℕ) (j greatest here : ℕ) → (j ≡ 0 → greatest ≡ 0) → (0 < j → greatest ≡ greatest_in 5 (j + 5) (deviation C)) → here ≡ deviation C (j + 5)
    → max greatest here ≡ greatest_in 5 (j + 1 + 5) (deviation C)
max_turn C zero greatest here none some e =
    let z : max greatest here ≡ here = omega (arith, none refl) in
    z ∙ e ∙ greatest_one 5 (deviation C)
max_turn C (suc j) greatest here none some e =
    let n : suc j + 5 + 1 ≡ suc j + 1 + 5 = omega arith in
    max_greater greatest here ∙ rw (some (omega arith), e) (rw n at (greatest_more 5 (deviation C) (suc j + 5) (omega arith)))
