-- The laws of `joint_spread`, over any two functions: what it is of x with itself, when that is 0, and what changes neither.
use Prim.Native.Nat.{ℕ, ◌+◌, ◌-◌, ◌*◌, ◌≤◌, ◌<◌}
use mathlib.Core.Bool.{true, not}
use mathlib.Core.Logic.{inl, ⊎_elim}
use mathlib.Core.Path.{◌≡◌, refl, sym, ap, ap₂, ◌∙◌}
use native.Mathlib.Nat.{mul-one, mul_comm, mul_assoc, mul_left_comm, mul-add, add-mul, mul-le-mul_left, mul-le-mul_right}
use native.Mathlib.Omega.{arith}
use lib.Dec.{eqb}
use lib.IntN.{pos, nat_abs, ◌*ℤ◌}
use borrow.Author.Tests.{eq-eqb, eqb-true, not-true, not-false}
use Rattle.laws.specs.Signed.{◌⊖◌, apart}
use Rattle.laws.specs.Sum.{sum_to}
use Rattle.laws.proofs.Cases.{both_ways, not_both, true_or_false, times_le}
use Rattle.laws.proofs.Firsts.{nowhere_first, first_nowhere}
use Rattle.laws.proofs.Signeds.{⊖-eq, ⊖-ge, ⊖-cross, ⊖-self, ⊖-size, ⊖-times, ⊖-within}
use Rattle.laws.proofs.Squares.{square, squares, four_times, Counted, excess, schwarz, none_equal, equal_none}
use Rattle.laws.proofs.Sums.{Shifted, shift_cross, sum_ext, sum-le, sum_scaled, sum-zero, sum_same, sum_times, sum_shift}
use Rattle.gain.specs.Slope.{joint_spread, all_equal}

-- every place counts
abbrev ones : ℕ → ℕ
ones i = 1

abbrev zeros : ℕ → ℕ
zeros i = 0

-- ---- of x with itself
module _ (m : ℕ) (x : ℕ → ℕ) where
  counted : (i : ℕ) → Counted (ones i) (zeros i) (x i)
  counted i = inl refl

  all : sum_to m ones ≡ m
  all = sum_same m 1 ones (λ k l. refl) ∙ mul-one m

  none : sum_to m zeros ≡ 0
  none = sum-zero m zeros (λ k l. refl)

  from_zero : (a : ℕ) → apart a 0 ≡ a
  from_zero a = omega arith

  squared : sum_to m (squares zeros x) ≡ sum_to m (λ (k : ℕ). x k * x k)
  squared = sum_ext m (squares zeros x) (λ (k : ℕ). x k * x k) (λ k l. ap square (from_zero (x k)))

  total : square (apart (sum_to m x) (sum_to m zeros)) ≡ sum_to m x * sum_to m x
  total = rw none (ap square (from_zero (sum_to m x)))

  -- (Σx)² ≤ m × Σx²
  least : sum_to m x * sum_to m x ≤ m * sum_to m (λ (k : ℕ). x k * x k)
  least = rw (total, all, squared) at (schwarz ones zeros x counted m)

  -- it is the excess of m × Σx² over (Σx)²
  excess_is : excess ones zeros x m ≡ nat_abs (joint_spread m x x)
  unfolding joint_spread
  excess_is =
      let size = ⊖-size (m * sum_to m (λ (k : ℕ). x k * x k)) (sum_to m x * sum_to m x) in
      rw (total, all, squared) (omega (arith, size, least))

  -- so it is never below 0
  pub never_negative : joint_spread m x x ≡ pos (nat_abs (joint_spread m x x))
  unfolding joint_spread
  never_negative =
      let a = m * sum_to m (λ (k : ℕ). x k * x k) in
      let b = sum_to m x * sum_to m x in
      let size : nat_abs (a ⊖ b) ≡ a - b = omega (arith, ⊖-size a b, least) in
      ⊖-ge a b least ∙ ap pos (sym size)

  -- four times it is at most (m × b)² where no x is above b; it is just that where half of them are 0 and half b
  pub spread_quarter : (b : ℕ) → ((k : ℕ) → k < m → x k ≤ b) → 4 * nat_abs (joint_spread m x x) ≤ square (m * b)
  unfolding joint_spread
  spread_quarter b h =
      let S = sum_to m x in
      let Q = sum_to m (λ (k : ℕ). x k * x k) in
      let size = ⊖-size (m * Q) (S * S) in
      let most : S ≤ m * b = sum-le m b x h in
      let rest : S + (m * b - S) ≡ m * b = omega arith in
      let squares : m * Q ≤ m * (b * S) = mul-le-mul_left m (sum_scaled m b x (λ (k : ℕ). x k * x k) (λ k l. mul-le-mul_right (x k) (h k l))) in
      let parted : m * (b * S) ≡ S * S + S * (m * b - S) = sym (mul_assoc m b S) ∙ mul_comm (m * b) S ∙ ap (λ (k : ℕ). S * k) (sym rest) ∙ mul-add S S (m * b - S) in
      omega (arith, size, least, squares, parted, four_times S (m * b - S), ap square rest)

  -- it is 0 exactly where all x are equal
  pub zero_equal : nat_abs (joint_spread m x x) ≡ 0 → (i j : ℕ) → i < m → j < m → x i ≡ x j
  zero_equal e i j p q =
      omega (arith, ⊖-cross (x i) 0 (x j) 0 (none_equal ones zeros x counted m (excess_is ∙ e) i j p q refl refl))

  pub equal_zero : ((i j : ℕ) → i < m → j < m → x i ≡ x j) → nat_abs (joint_spread m x x) ≡ 0
  equal_zero h = sym excess_is ∙ equal_none ones zeros x counted m (λ i j p q a b. ap (λ (v : ℕ). v ⊖ 0) (h i j p q))

  -- `all_equal` says so
  all_equal_lem : all_equal m x ≡ true → (i j : ℕ) → i < m → j < m → x i ≡ x j
  unfolding all_equal
  all_equal_lem e i j p q = to_first i p ∙ sym (to_first j q)
    where
      to_first : (k : ℕ) → k < m → x k ≡ x 0
      to_first k l = eqb-true (x k) (x 0) (not-false _ (first_nowhere (λ (k : ℕ). not (eqb (x k) (x 0))) m (not-true _ e) k l))

  equal_all : ((i j : ℕ) → i < m → j < m → x i ≡ x j) → all_equal m x ≡ true
  unfolding all_equal
  equal_all h = rw (nowhere_first (λ (k : ℕ). not (eqb (x k) (x 0))) m (λ k l. rw (eq-eqb (x k) (x 0) (h k 0 l (omega arith)))))

  pub zero_is_equal : eqb (nat_abs (joint_spread m x x)) 0 ≡ all_equal m x
  zero_is_equal =
      both_ways (eqb (nat_abs (joint_spread m x x)) 0) (all_equal m x)
      (λ e. ⊎_elim (λ t. absurd (not_both (eq-eqb _ 0 (equal_zero (all_equal_lem t))) e)) (λ f. f) (true_or_false (all_equal m x)))
      (λ e. ⊎_elim (λ t. absurd (not_both (equal_all (zero_equal (eqb-true _ 0 t))) e)) (λ f. f) (true_or_false (eqb (nat_abs (joint_spread m x x)) 0)))

-- ---- of x and y
-- it is told by what x and y are at the m places
pub spread_ext : (m : ℕ) (x y x' y' : ℕ → ℕ) → ((k : ℕ) → k < m → x k ≡ x' k) → ((k : ℕ) → k < m → y k ≡ y' k) → joint_spread m x y ≡ joint_spread m x' y'
unfolding joint_spread
spread_ext m x y x' y' p q =
    rw (
      sum_ext m x x' p,
      sum_ext m y y' q,
      sum_ext m (λ (k : ℕ). x k * y k) (λ (k : ℕ). x' k * y' k) (λ k l. ap₂ (λ (a b : ℕ). a * b) (p k l) (q k l)),
    )

-- its size is at most (m × a) × (m × b) where no x is above a and no y above b
pub spread_most : (m a b : ℕ) (x y : ℕ → ℕ) → ((k : ℕ) → k < m → x k ≤ a) → ((k : ℕ) → k < m → y k ≤ b) → nat_abs (joint_spread m x y) ≤ m * a * (m * b)
unfolding joint_spread
spread_most m a b x y p q =
    let products = sum-le m (a * b) (λ (k : ℕ). x k * y k) (λ k l. times_le (x k) (y k) a b (p k l) (q k l)) in
    let same : m * (m * (a * b)) ≡ m * a * (m * b) = simp (mul_assoc, mul_left_comm) in
    ⊖-within _ _ (m * a * (m * b))
    (omega (arith, mul-le-mul_left m products, same))
    (times_le (sum_to m x) (sum_to m y) (m * a) (m * b) (sum-le m a x p) (sum-le m b y q))

-- which is which does not matter
spread_swap : (m : ℕ) (x y : ℕ → ℕ) → joint_spread m x y ≡ joint_spread m y x
unfolding joint_spread
spread_swap m x y =
    rw (sum_ext m (λ (k : ℕ). x k * y k) (λ (k : ℕ). y k * x k) (λ k l. mul_comm (x k) (y k)), mul_comm (sum_to m x) (sum_to m y))

-- x' is x with one constant, up less down, added at each of the m places
abbrev pub Moved : ℕ → ℕ → ℕ → (ℕ → ℕ) → (ℕ → ℕ) → Type 0
Moved m up down x x' = (k : ℕ) → k < m → x' k + down ≡ x k + up

module _ (m up down : ℕ) (x x' : ℕ → ℕ) (moved : Moved m up down x x') where
  -- that changes nothing, with any y
  pub spread_moved : (y : ℕ → ℕ) → joint_spread m x' y ≡ joint_spread m x y
  unfolding joint_spread
  spread_moved y =
      let sums = sum_shift m up down ones x x' (λ k l. omega (arith, moved k l)) in
      let products = sum_shift m up down y (λ (k : ℕ). x k * y k) (λ (k : ℕ). x' k * y k) (λ k l. term k (y k) (moved k l)) in
      let cross = shift_cross up down m (sum_to m x) (sum_to m x') (sum_to m y) _ _ (rw (all m x) at sums) products in
      ⊖-eq _ _ _ _ (omega (arith, cross, mul_comm m (sum_to m (λ (k : ℕ). x k * y k)), mul_comm m (sum_to m (λ (k : ℕ). x' k * y k))))
    where
      term : (k v : ℕ) → x' k + down ≡ x k + up → Shifted up down v (x k * v) (x' k * v)
      term k v e = omega (arith, add-mul (x' k) down v, add-mul (x k) up v, ap (λ (t : ℕ). t * v) e)

  -- nor with itself
  pub moved_both : joint_spread m x' x' ≡ joint_spread m x x
  moved_both = spread_moved x' ∙ spread_swap m x x' ∙ spread_moved x

-- where all y are equal it is 0
pub spread_level : (m v : ℕ) (x y : ℕ → ℕ) → ((k : ℕ) → k < m → y k ≡ v) → joint_spread m x y ≡ pos 0
unfolding joint_spread
spread_level m v x y h =
    let products : sum_to m (λ (k : ℕ). x k * y k) ≡ v * sum_to m x =
    sum_ext m (λ (k : ℕ). x k * y k) (λ (k : ℕ). v * x k) (λ k l. rw (h k l) (mul_comm (x k) v)) ∙ sum_times m v x in
    let same : sum_to m x * (m * v) ≡ m * (v * sum_to m x) = simp (mul_assoc, mul_comm) in
    rw (products, sum_same m v y h, same) (⊖-self (m * (v * sum_to m x)))

-- of two points it is what the x differ by times what the y do
pub spread_two : (x y : ℕ → ℕ) → joint_spread 2 x y ≡ (x 1 ⊖ x 0) *ℤ (y 1 ⊖ y 0)
unfolding joint_spread sum_to
spread_two x y = ⊖-eq _ _ _ _ (by (x 0) (x 1) (y 0) (y 1)) ∙ sym (⊖-times (x 1) (x 0) (y 1) (y 0))
  where
    by : (a b c d : ℕ) → 2 * (0 + a * c + b * d) + (b * c + a * d) ≡ b * d + a * c + (0 + a + b) * (0 + c + d)
    by a b c d = omega (arith, add-mul a b (c + d), mul-add a c d, mul-add b c d)

-- so, times what the x differ by, it is what the y differ by times that of x with itself
pub two_slope : (x y : ℕ → ℕ) → joint_spread 2 x y *ℤ (x 1 ⊖ x 0) ≡ (y 1 ⊖ y 0) *ℤ joint_spread 2 x x
two_slope x y =
    rw (two x y, two x x)
    (⊖-times _ _ (x 1) (x 0) ∙ ⊖-eq _ _ _ _ (by (x 0) (x 1) (y 0) (y 1)) ∙ sym (⊖-times (y 1) (y 0) _ _))
  where
    two : (x y : ℕ → ℕ) → joint_spread 2 x y ≡ x 1 * y 1 + x 0 * y 0 ⊖ (x 1 * y 0 + x 0 * y 1)
    two x y = spread_two x y ∙ ⊖-times (x 1) (x 0) (y 1) (y 0)

    by : (a b c d : ℕ)
        → (b * d + a * c) * b + (b * c + a * d) * a + (d * (b * a + a * b) + c * (b * b + a * a))
        ≡ d * (b * b + a * a) + c * (b * a + a * b) + ((b * d + a * c) * a + (b * c + a * d) * b)
    by a b c d = simp (mul-add, add-mul, mul_assoc, mul_comm, mul_left_comm) (omega arith)
