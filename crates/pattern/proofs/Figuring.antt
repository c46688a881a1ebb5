-- The laws of the figures, over the totals as a function of the line.
use Prim.Native.Nat.{ℕ, ◌+◌, ◌-◌, ◌*◌, ◌<◌, ◌≤◌}
use mathlib.Core.Path.{◌≡◌, sym, ap, ap₂, ◌∙◌}
use native.Mathlib.Nat.{add-zero, zero-add, sub_self}
use native.Mathlib.Omega.{arith}
use Rattle.laws.specs.Sum.{sum_to, sum_in}
use Rattle.laws.specs.Signed.{apart}
use Rattle.laws.proofs.Greatests.{greatest_of, greatest_ext}
use Rattle.laws.proofs.Cases.{times_le}
use Rattle.laws.proofs.Sums.{sum_more, sum_ext, sum-le, sum-zero, in_ext, in_same, in_shift}
use Rattle.pattern.specs.Figures.{step_of, level_of, ten_around, stands_out, deviation, max_of, figures_of}

-- the square of the step between two totals fits
pub step_le : (a b : ℕ) → a ≤ 52416000 → b ≤ 52416000 → apart a b * apart a b ≤ 2747437056000000
step_le a b p q = times_le (apart a b) (apart a b) 52416000 52416000 (omega arith) (omega arith)

module _ (C : ℕ → ℕ) where
  -- five totals, one after the other
  pub five_is : (a : ℕ) → C a + C (a + 1) + C (a + 2) + C (a + 3) + C (a + 4) ≡ sum_in a (a + 5) C
  unfolding sum_in sum_to
  five_is a =
      let e : a + 5 - a ≡ 5 = omega arith in
      rw (e, add-zero a, zero-add (C a))

  -- the ten around a line are the five before it and the five after it
  ten_by : (i before after : ℕ) → 5 ≤ i → before ≡ sum_in (i - 5) (i - 5 + 5) C → after ≡ sum_in (i + 1) (i + 1 + 5) C → before + after ≡ ten_around C i
  unfolding ten_around
  ten_by i before after l p q =
      let e : i - 5 + 5 ≡ i = omega arith in
      let f : i + 1 + 5 ≡ i + 6 = omega arith in
      ap₂ (λ (x y : ℕ). x + y) (p ∙ ap (λ (n : ℕ). sum_in (i - 5) n C) e) (q ∙ ap (λ (n : ℕ). sum_in (i + 1) n C) f)

  pub deviation_is : (i before after : ℕ) → 5 ≤ i → before ≡ sum_in (i - 5) (i - 5 + 5) C → after ≡ sum_in (i + 1) (i + 1 + 5) C
      → stands_out (10 * C i) (before + after) ≡ deviation C i
  unfolding deviation
  deviation_is i before after l p q = ap (stands_out (10 * C i)) (ten_by i before after l p q)

  -- one by one
  pub ten_is : (i : ℕ) → 5 ≤ i
      → ten_around C i
      ≡ C (i - 5) + C (i - 4) + C (i - 3) + C (i - 2) + C (i - 1) + (C (i + 1) + C (i + 2) + C (i + 3) + C (i + 4) + C (i + 5))
  ten_is i l =
      let down : (a b : ℕ) → a + b ≡ 5 → i - a ≡ i - 5 + b = λ a b e. omega arith in
      let up : (b : ℕ) → i + (1 + b) ≡ i + 1 + b = λ b. omega arith in
      rw (down 4 1 (omega arith), down 3 2 (omega arith), down 2 3 (omega arith), down 1 4 (omega arith), up 1, up 2, up 3, up 4)
      (sym (ten_by i _ _ l (five_is (i - 5)) (five_is (i + 1))))

  -- a turn of the sum of squared steps
  pub level_more : (i sum square : ℕ) → sum ≡ sum_to i (step_of C) → square ≡ apart (C i) (C (i + 1)) * apart (C i) (C (i + 1))
      → sum + square ≡ sum_to (i + 1) (step_of C)
  unfolding step_of
  level_more i sum square p q = ap₂ (λ (x y : ℕ). x + y) p q ∙ sum_more i (step_of C)

-- totals that add up to `unit` line by line do so ten times around a line
module _ (n unit : ℕ) (C D : ℕ → ℕ) (both : (i : ℕ) → i < n → C i + D i ≡ unit) where
  five_both : (a b : ℕ) → b - a ≡ 5 → b ≤ n → sum_in a b C + sum_in a b D ≡ 5 * unit
  five_both a b e l =
      let made = in_shift a b 0 1 D (λ (k : ℕ). unit) C (λ k p q. omega (arith, both k (omega arith))) in
      let same = rw e at (in_same a b unit (λ (k : ℕ). unit) (λ k p q. omega arith)) in
      omega (arith, made, same)

  pub ten_both : (i : ℕ) → 5 ≤ i → i + 6 ≤ n → ten_around C i + ten_around D i ≡ 10 * unit
  unfolding ten_around
  ten_both i p q = omega (arith, five_both (i - 5) i (omega arith) (omega arith), five_both (i + 1) (i + 6) (omega arith) (omega arith))

-- what holds of each deviation holds of Max
pub max_of_lem : (n : ℕ) (C : ℕ → ℕ) → 12 ≤ n → (P : ℕ → Type 0) → ((i : ℕ) → 5 ≤ i → i + 6 ≤ n → P (deviation C i)) → P (max_of n C)
max_of_lem n C low P h = greatest_of 5 (n - 5) (omega arith) (deviation C) P (λ i p q. h i p (omega arith))

-- equal steps and equal deviations make equal figures
pub figures-same : (n unit : ℕ) (C D : ℕ → ℕ) → 12 ≤ n → ((i : ℕ) → i < n - 1 → step_of C i ≡ step_of D i)
    → ((i : ℕ) → 5 ≤ i → i + 6 ≤ n → deviation C i ≡ deviation D i) → figures_of n unit C ≡ figures_of n unit D
unfolding figures_of
figures-same n unit C D low steps deviations =
    let level = sum_ext (n - 1) (step_of C) (step_of D) steps in
    let max = greatest_ext 5 (n - 5) (omega arith) (deviation C) (deviation D) (λ i p q. deviations i p (omega arith)) in
    rw (level, max)

-- so the figures look at no total but the n lines'
module _ (n : ℕ) (C D : ℕ → ℕ) (low : 12 ≤ n) (same : (i : ℕ) → i < n → C i ≡ D i) where
  step_ext : (i : ℕ) → i < n - 1 → step_of C i ≡ step_of D i
  unfolding step_of
  step_ext i l = rw (same i (omega arith), same (i + 1) (omega arith))

  deviation_ext : (i : ℕ) → 5 ≤ i → i + 6 ≤ n → deviation C i ≡ deviation D i
  unfolding deviation
  deviation_ext i p q =
      let before = in_ext (i - 5) i C D (λ k l m. same k (omega arith)) in
      let after = in_ext (i + 1) (i + 6) C D (λ k l m. same k (omega arith)) in
      rw (same i (omega arith), before, after)

  pub figures_ext : (unit : ℕ) → figures_of n unit C ≡ figures_of n unit D
  figures_ext unit = figures-same n unit C D low step_ext deviation_ext

-- totals of at most `unit` have figures of at most 1
module _ (n unit : ℕ) (C : ℕ → ℕ) (low : 12 ≤ n) (small : (i : ℕ) → i < n → C i ≤ unit) where
  step_small : (i : ℕ) → i < n - 1 → step_of C i ≤ unit * unit
  unfolding step_of
  step_small i l =
      let d : apart (C i) (C (i + 1)) ≤ unit = omega (arith, small i (omega arith), small (i + 1) (omega arith)) in
      times_le (apart (C i) (C (i + 1))) (apart (C i) (C (i + 1))) unit unit d d

  pub level-le : level_of n C ≤ (n - 1) * (unit * unit)
  level-le = sum-le (n - 1) (unit * unit) (step_of C) step_small

  deviation_small : (i : ℕ) → 5 ≤ i → i + 6 ≤ n → deviation C i ≤ 10 * unit
  unfolding deviation
  deviation_small i p q =
      omega (arith, small i (omega arith), ten_both n unit C (λ (k : ℕ). unit - C k) (λ k l. omega (arith, small k l)) i p q)

  pub max-le : max_of n C ≤ 10 * unit
  max-le = max_of_lem n C low (λ (m : ℕ). m ≤ 10 * unit) deviation_small

-- equal totals have none
module _ (n c : ℕ) (C : ℕ → ℕ) (low : 12 ≤ n) (same : (i : ℕ) → i < n → C i ≡ c) where
  step_flat : (i : ℕ) → i < n - 1 → step_of C i ≡ 0
  unfolding step_of
  step_flat i l = rw (same i (omega arith), same (i + 1) (omega arith), sub_self c)

  pub level_flat : level_of n C ≡ 0
  level_flat = sum-zero (n - 1) (step_of C) step_flat

  deviation_flat : (i : ℕ) → 5 ≤ i → i + 6 ≤ n → deviation C i ≡ 0
  unfolding deviation
  deviation_flat i p q = omega (arith, same i (omega arith), ten_both n (2 * c) C C (λ k l. omega (arith, same k l)) i p q)

  pub max_flat : max_of n C ≡ 0
  max_flat = max_of_lem n C low (λ (m : ℕ). m ≡ 0) deviation_flat
