-- The laws of `first_to` and `count_to`.
use Prim.Native.Nat.{ℕ, zero, suc, ◌+◌, ◌*◌, ◌≤◌, ◌<◌}
use mathlib.Core.Bool.{Bool, true, false, cond, ◌||◌}
use mathlib.Core.Logic.{⊎_elim}
use mathlib.Core.Path.{◌≡◌, refl, sym, ◌∙◌}
use native.Mathlib.Nat.{le_refl, le_of_suc-le-suc, eq-or-lt_of_le}
use native.Mathlib.Numerals.{add-one}
use native.Mathlib.Omega.{arith}
use lib.Dec.{ltb}
use borrow.Author.Tests.{lt-ltb, le-ltb, ltb-false}
use Rattle.laws.specs.First.{first_to, some_to, count_to}
use Rattle.laws.proofs.Cases.{lt_or_ge, true_or_false, not_both}
use Rattle.laws.proofs.Sums.{sum-le, sum_ext, sum_scaled, sum-zero, zero_terms}

module _ (test : ℕ → Bool) where
  -- where a search begins
  pub first_none : first_to 0 test ≡ 0
  unfolding first_to
  first_none = refl

  -- a turn of it: nothing before i, nor at i
  pub first_past : (i : ℕ) → first_to i test ≡ i → test i ≡ false → first_to (i + 1) test ≡ i + 1
  unfolding first_to
  first_past i e f = rw (add-one i, le-ltb (first_to i test) i (omega arith), f)

  -- its end: nothing before i, and the test holds at i
  pub first_here : (n i : ℕ) → i < n → first_to i test ≡ i → test i ≡ true → first_to n test ≡ i
  unfolding first_to
  first_here zero i l e t = absurd (omega arith)
  first_here (suc n) i l e t =
      ⊎_elim
      (λ q. rw (← q, le-ltb (first_to i test) i (omega arith), t))
      (λ k. rw (first_here n i k e t, lt-ltb i n k))
      (eq-or-lt_of_le (le_of_suc-le-suc l))

  -- the test holds nowhere before what is found
  pub first_before : (n i : ℕ) → i < first_to n test → test i ≡ false
  unfolding first_to
  first_before zero i l = absurd (omega arith)
  first_before (suc n) i l =
      ⊎_elim
      (λ k. first_before n i (rw (lt-ltb (first_to n test) n k) at l))
      (λ g. by (test n) refl (λ k. first_before n i (omega arith)) (rw (le-ltb (first_to n test) n g) at l))
      (lt_or_ge (first_to n test) n)
    where
      by : (b : Bool) → test n ≡ b → (i < n → test i ≡ false) → i < cond b n (suc n) → test i ≡ false
      by true t before k = before k
      by false t before k = ⊎_elim (λ e. rw e t) before (eq-or-lt_of_le (le_of_suc-le-suc k))

  -- nothing is found past the end
  pub first_most : (n : ℕ) → first_to n test ≤ n
  unfolding first_to
  first_most zero = omega arith
  first_most (suc n) =
      ⊎_elim
      (λ k. rw (lt-ltb (first_to n test) n k) (omega arith))
      (λ g. rw (le-ltb (first_to n test) n g) (by (test n)))
      (lt_or_ge (first_to n test) n)
    where
      by : (b : Bool) → cond b n (suc n) ≤ suc n
      by true = omega arith
      by false = omega arith

  -- and it holds there, where something is found
  pub first_holds : (n : ℕ) → first_to n test < n → test (first_to n test) ≡ true
  unfolding first_to
  first_holds zero l = absurd (omega arith)
  first_holds (suc n) l =
      ⊎_elim
      (λ k. rw (lt-ltb (first_to n test) n k) (first_holds n k))
      (λ g. rw (le-ltb (first_to n test) n g) (by (test n) refl (rw (le-ltb (first_to n test) n g) at l)))
      (lt_or_ge (first_to n test) n)
    where
      by : (b : Bool) → test n ≡ b → cond b n (suc n) < suc n → test (cond b n (suc n)) ≡ true
      by true t k = t
      by false t k = absurd (omega arith)

  -- where nothing is found, the test holds nowhere
  pub first_nowhere : (n : ℕ) → ltb (first_to n test) n ≡ false → (i : ℕ) → i < n → test i ≡ false
  first_nowhere n e i l = first_before n i (omega (arith, ltb-false (first_to n test) n e))

  -- and where it holds nowhere, nothing is found
  pub nowhere_first : (n : ℕ) → ((i : ℕ) → i < n → test i ≡ false) → ltb (first_to n test) n ≡ false
  nowhere_first n none =
      ⊎_elim
      (λ l. absurd (not_both (first_holds n l) (none (first_to n test) l)))
      (λ g. le-ltb (first_to n test) n g)
      (lt_or_ge (first_to n test) n)

  -- what is found is then the end
  pub first_end : (n : ℕ) → ((i : ℕ) → i < n → test i ≡ false) → first_to n test ≡ n
  first_end zero none = first_none
  first_end (suc n) none = rw (add-one n) at (first_past n (first_end n (λ i l. none i (omega arith))) (none n (le_refl (suc n))))

  -- a walk past every index, that is not left at the first hit: where it begins
  pub some_none : some_to 0 test ≡ false
  unfolding first_to
  some_none = refl

  -- and a turn of it
  pub some_more : (n : ℕ) → (some_to n test || test n) ≡ some_to (n + 1) test
  unfolding first_to
  some_more n =
      ⊎_elim
      (λ l. rw (add-one n, lt-ltb (first_to n test) n l) (sym (lt-ltb (first_to n test) (suc n) (omega arith))))
      (λ g. rw (add-one n, le-ltb (first_to n test) n g) (by (test n)))
      (lt_or_ge (first_to n test) n)
    where
      by : (b : Bool) → b ≡ ltb (cond b n (suc n)) (suc n)
      by true = sym (lt-ltb n (suc n) (omega arith))
      by false = sym (le-ltb (suc n) (suc n) (omega arith))

  -- a count is at most n
  pub count_most : (n : ℕ) → count_to n test ≤ n
  count_most n = omega (arith, sum-le n 1 (λ (i : ℕ). cond (test i) 1 0) (λ i l. by (test i)))
    where
      by : (b : Bool) → cond b 1 0 ≤ 1
      by true = omega arith
      by false = omega arith

  -- it is 0 exactly where the test holds nowhere, so at least 1 exactly where something is found
  pub none_counted : (n : ℕ) → count_to n test ≡ 0 → some_to n test ≡ false
  none_counted n e = nowhere_first n (λ i l. by (test i) (zero_terms n (λ (i : ℕ). cond (test i) 1 0) e i l))
    where
      by : (b : Bool) → ◌≡◌ {A = ℕ} (cond b 1 0) 0 → b ≡ false
      by true z = absurd (omega arith)
      by false z = refl

  pub some_counted : (n : ℕ) → some_to n test ≡ true → 1 ≤ count_to n test
  some_counted n e = ⊎_elim (λ l. absurd (not_both e (none_counted n (omega arith)))) (λ g. g) (lt_or_ge (count_to n test) 1)

  pub nowhere_counted : (n : ℕ) → some_to n test ≡ false → count_to n test ≡ 0
  nowhere_counted n e = sum-zero n (λ (i : ℕ). cond (test i) 1 0) (λ i l. rw (first_nowhere n e i l))

  pub counted_some : (n : ℕ) → (count_to n test ≡ 0 → ⊥) → some_to n test ≡ true
  counted_some n f = ⊎_elim (λ t. t) (λ e. absurd (f (nowhere_counted n e))) (true_or_false (some_to n test))

-- two tests that agree below n find the same
pub first_ext : (n : ℕ) (f g : ℕ → Bool) → ((k : ℕ) → k < n → f k ≡ g k) → first_to n f ≡ first_to n g
unfolding first_to
first_ext zero f g h = refl
first_ext (suc n) f g h = rw (first_ext n f g (λ k l. h k (omega arith)), h n (le_refl (suc n)))

-- a test that holds wherever another does counts no fewer
pub count-le : (n : ℕ) (f g : ℕ → Bool) → ((i : ℕ) → i < n → f i ≡ true → g i ≡ true) → count_to n f ≤ count_to n g
count-le n f g h =
    omega (arith, sum_scaled n 1 (λ (i : ℕ). cond (g i) 1 0) (λ (i : ℕ). cond (f i) 1 0) (λ i l. by (f i) (g i) (h i l)))
  where
    by : (a b : Bool) → (a ≡ true → b ≡ true) → cond a 1 0 ≤ 1 * cond b 1 0
    by true b e = rw (e refl) (omega arith)
    by false b e = omega arith

-- tests that agree count alike
pub count_ext : (n : ℕ) (f g : ℕ → Bool) → ((i : ℕ) → i < n → f i ≡ g i) → count_to n f ≡ count_to n g
count_ext n f g h = sum_ext n (λ (i : ℕ). cond (f i) 1 0) (λ (i : ℕ). cond (g i) 1 0) (λ i l. rw (h i l))

-- where a test holds nowhere below m, one that each index carries to it holds nowhere below n
pub nowhere_from : (n m : ℕ) (f g : ℕ → Bool) (to : ℕ → ℕ) → ((i : ℕ) → i < n → (to i < m) × (f i ≡ g (to i)))
    → some_to m g ≡ false → some_to n f ≡ false
nowhere_from n m f g to carried e =
    ⊎_elim
    (λ l. absurd (not_both (first_holds f n l)
    ((carried (first_to n f) l).1 ∙ first_nowhere g m e (to (first_to n f)) (carried (first_to n f) l).0)))
    (λ h. le-ltb (first_to n f) n h)
    (lt_or_ge (first_to n f) n)
