-- The laws of sums.
use Prim.Native.Nat.{ℕ, zero, suc, ◌+◌, ◌-◌, ◌*◌, ◌<◌, ◌≤◌, zero-le, min}
use mathlib.Core.Bool.{cond}
use mathlib.Core.Logic.{⊎_elim}
use mathlib.Core.Path.{◌≡◌, refl, sym, ap, ap₂, ◌∙◌}
use native.Mathlib.Nat.{le_refl, le_trans, le_of_eq, sub_self, add-zero, zero-add, add-suc, suc-mul, add-le-add, add-mul, mul-add, mul_right_comm, mul-zero, zero-mul, le_of_suc-le-suc, eq-or-lt_of_le, add_comm}
use native.Mathlib.Numerals.{add-one}
use native.Mathlib.Omega.{arith}
use lib.Dec.{eqb}
use borrow.Author.Tests.{eq-eqb, ne_eqb}
use Rattle.laws.specs.Sum.{sum_to, sum_in, sum_box}
use Rattle.laws.proofs.Cases.{lt_or_ge}

-- where a loop that adds begins
pub sum_none : (f : ℕ → ℕ) → 0 ≡ sum_to 0 f
unfolding sum_to
sum_none f = refl

-- a turn of it
pub sum_more : (i : ℕ) (f : ℕ → ℕ) → sum_to i f + f i ≡ sum_to (i + 1) f
unfolding sum_to
sum_more i f = rw (add-one i)

-- sums of functions that agree below n
pub sum_ext : (n : ℕ) (f g : ℕ → ℕ) → ((k : ℕ) → k < n → f k ≡ g k) → sum_to n f ≡ sum_to n g
unfolding sum_to
sum_ext zero f g h = refl
sum_ext (suc n) f g h = ap₂ (λ (x y : ℕ). x + y) (sum_ext n f g (λ k l. h k (omega arith))) (h n (le_refl (suc n)))

-- a sum by a bound on its terms
pub sum-le : (n b : ℕ) (f : ℕ → ℕ) → ((k : ℕ) → k < n → f k ≤ b) → sum_to n f ≤ n * b
unfolding sum_to
sum-le zero b f h = zero-le
sum-le (suc n) b f h = rw (suc-mul n b) (add-le-add (sum-le n b f (λ k l. h k (omega arith))) (h n (le_refl (suc n))))

-- a sum that is term by term at most B times another
pub sum_scaled : (n B : ℕ) (f g : ℕ → ℕ) → ((k : ℕ) → k < n → g k ≤ B * f k) → sum_to n g ≤ B * sum_to n f
unfolding sum_to
sum_scaled zero B f g h = zero-le
sum_scaled (suc n) B f g h =
    le_trans
    (add-le-add (sum_scaled n B f g (λ k l. h k (omega arith))) (h n (le_refl (suc n))))
    (le_of_eq (sym (mul-add B (sum_to n f) (f n))))

-- and one that is at least B times another
pub sum-above : (n B : ℕ) (f g : ℕ → ℕ) → ((k : ℕ) → k < n → B * f k ≤ g k) → B * sum_to n f ≤ sum_to n g
unfolding sum_to
sum-above zero B f g h = le_of_eq (mul-zero B)
sum-above (suc n) B f g h =
    le_trans
    (le_of_eq (mul-add B (sum_to n f) (f n)))
    (add-le-add (sum-above n B f g (λ k l. h k (omega arith))) (h n (le_refl (suc n))))

-- a sum of nothing but 0
pub sum-zero : (n : ℕ) (f : ℕ → ℕ) → ((k : ℕ) → k < n → f k ≡ 0) → sum_to n f ≡ 0
unfolding sum_to
sum-zero zero f h = refl
sum-zero (suc n) f h = omega (arith, sum-zero n f (λ k l. h k (omega arith)), h n (le_refl (suc n)))

-- n times the same
pub sum_same : (n c : ℕ) (f : ℕ → ℕ) → ((k : ℕ) → k < n → f k ≡ c) → sum_to n f ≡ n * c
unfolding sum_to
sum_same zero c f h = sym (zero-mul c)
sum_same (suc n) c f h = omega (arith, sum_same n c f (λ k l. h k (omega arith)), h n (le_refl (suc n)), suc-mul n c)

-- a sum of which only the term at k counts
pub sum_only : (n k : ℕ) (f : ℕ → ℕ) → k < n → sum_to n (λ (j : ℕ). cond (eqb j k) (f j) 0) ≡ f k
unfolding sum_to
sum_only zero k f l = absurd (omega arith)
sum_only (suc n) k f l =
    ⊎_elim
    (λ e. let before = sum-zero n (λ (j : ℕ). cond (eqb j k) (f j) 0) (λ j m. rw (ne_eqb j k (λ p. omega arith))) in
    rw (before, eq-eqb n k (sym e)) (zero-add (f n) ∙ ap f (sym e)))
    (λ m. rw (sum_only n k f m, ne_eqb n k (λ p. omega arith)) (add-zero (f k)))
    (eq-or-lt_of_le (le_of_suc-le-suc l))

-- a sum that is 0 adds nothing else
pub zero_terms : (n : ℕ) (f : ℕ → ℕ) → sum_to n f ≡ 0 → (k : ℕ) → k < n → f k ≡ 0
unfolding sum_to
zero_terms zero f e k l = absurd (omega arith)
zero_terms (suc n) f e k l =
    ⊎_elim
    (λ q. rw q (omega arith))
    (λ m. zero_terms n f (omega arith) k m)
    (eq-or-lt_of_le (le_of_suc-le-suc l))

-- a sum of which one term is changed, by y less x, is changed by as much
pub sum_changed : (n at x y : ℕ) (f g : ℕ → ℕ) → at < n → ((k : ℕ) → k < n → (k ≡ at → ⊥) → f k ≡ g k) → g at + x ≡ f at + y
    → sum_to n g + x ≡ sum_to n f + y
unfolding sum_to
sum_changed zero at x y f g l same there = absurd (omega arith)
sum_changed (suc n) at x y f g l same there =
    ⊎_elim
    (λ e. let before = sum_ext n f g (λ k m. same k (omega arith) (λ p. omega arith)) in
    let last : g n + x ≡ f n + y = rw e at there in
    omega arith)
    (λ m. omega (arith, sum_changed n at x y f g m (λ k b. same k (omega arith)) there, same n (le_refl (suc n)) (λ p. omega arith)))
    (eq-or-lt_of_le (le_of_suc-le-suc l))

-- the sum of a sum
pub sum-add : (n : ℕ) (f g : ℕ → ℕ) → sum_to n (λ (k : ℕ). f k + g k) ≡ sum_to n f + sum_to n g
unfolding sum_to
sum-add zero f g = refl
sum-add (suc n) f g = omega (arith, sum-add n f g)

-- a sum times a number
pub sum_times : (n c : ℕ) (f : ℕ → ℕ) → sum_to n (λ (k : ℕ). c * f k) ≡ c * sum_to n f
unfolding sum_to
sum_times zero c f = sym (mul-zero c)
sum_times (suc n) c f = omega (arith, sum_times n c f, mul-add c (sum_to n f) (f n))

-- t is s with one constant, up less down, added c times
abbrev pub Shifted : ℕ → ℕ → ℕ → ℕ → ℕ → Type 0
Shifted up down c s t = t + down * c ≡ s + up * c

-- sums are so where their terms are
pub sum_shift : (n up down : ℕ) (c f g : ℕ → ℕ) → ((k : ℕ) → k < n → Shifted up down (c k) (f k) (g k))
    → Shifted up down (sum_to n c) (sum_to n f) (sum_to n g)
unfolding sum_to
sum_shift zero up down c f g h = omega (arith, mul-zero up, mul-zero down)
sum_shift (suc n) up down c f g h =
    omega (
      arith,
      sum_shift n up down c f g (λ k l. h k (omega arith)),
      h n (le_refl (suc n)),
      mul-add down (sum_to n c) (c n),
      mul-add up (sum_to n c) (c n),
    )

-- two that are shifted by one constant, each times how often it was added to the other, grow alike
pub shift_cross : (up down c s t C S T : ℕ) → Shifted up down c s t → Shifted up down C S T → s * C + T * c ≡ t * C + S * c
shift_cross up down c s t C S T p q =
    let one : t * C + down * c * C ≡ s * C + up * c * C = sym (add-mul t (down * c) C) ∙ ap (λ (x : ℕ). x * C) p ∙ add-mul s (up * c) C in
    let other : T * c + down * C * c ≡ S * c + up * C * c = sym (add-mul T (down * C) c) ∙ ap (λ (x : ℕ). x * c) q ∙ add-mul S (up * C) c in
    omega (arith, mul_right_comm down C c, mul_right_comm up C c)

-- rows before columns, or columns before rows
pub sum_swap : (n m : ℕ) (g : ℕ → ℕ → ℕ) → sum_to n (λ (i : ℕ). sum_to m (λ (j : ℕ). g i j)) ≡ sum_to m (λ (j : ℕ). sum_to n (λ (i : ℕ). g i j))
unfolding sum_to
sum_swap zero m g = sym (sum-zero m (λ (j : ℕ). 0) (λ k l. refl))
sum_swap (suc n) m g =
    ap (λ (x : ℕ). x + sum_to m (λ (j : ℕ). g n j)) (sum_swap n m g) ∙ sym (sum-add m (λ (j : ℕ). sum_to n (λ (i : ℕ). g i j)) (λ (j : ℕ). g n j))

-- two parts, end to end
pub sum_split : (a n : ℕ) (f : ℕ → ℕ) → sum_to (a + n) f ≡ sum_to a f + sum_to n (λ (k : ℕ). f (a + k))
unfolding sum_to
sum_split a zero f = rw (add-zero a) (sym (add-zero (sum_to a f)))
sum_split a (suc n) f = rw (add-suc a n) (omega (arith, sum_split a n f))

-- row by row
pub sum_rows : (h w : ℕ) (f : ℕ → ℕ) → sum_to (h * w) f ≡ sum_to h (λ (y : ℕ). sum_to w (λ (x : ℕ). f (y * w + x)))
unfolding sum_to
sum_rows zero w f = ap (λ (n : ℕ). sum_to n f) (zero-mul w)
sum_rows (suc h) w f =
    ap (λ (n : ℕ). sum_to n f) (suc-mul h w)
    ∙ sum_split (h * w) w f
    ∙ ap (λ (s : ℕ). s + sum_to w (λ (x : ℕ). f (h * w + x))) (sum_rows h w f)

-- the first term apart
pub sum_front : (n : ℕ) (f : ℕ → ℕ) → sum_to (suc n) f ≡ f 0 + sum_to n (λ (k : ℕ). f (suc k))
unfolding sum_to
sum_front zero f = omega arith
sum_front (suc n) f = omega (arith, sum_front n f)

-- from the other end
pub sum_back : (n : ℕ) (f : ℕ → ℕ) → sum_to n (λ (k : ℕ). f (n - suc k)) ≡ sum_to n f
sum_back zero f = sym (sum_none (λ (k : ℕ). f (0 - suc k))) ∙ sum_none f
sum_back (suc n) f =
    let last : suc n - suc 0 ≡ n = omega arith in
    sum_front n (λ (k : ℕ). f (suc n - suc k))
    ∙ ap₂ (λ (x y : ℕ). x + y) (ap f last)
    (sum_ext n (λ (k : ℕ). f (suc n - suc (suc k))) (λ (k : ℕ). f (n - suc k)) (λ k l. let e : suc n - suc (suc k) ≡ n - suc k = omega arith in ap f e) ∙ sum_back n f)
    ∙ add_comm (f n) (sum_to n f)
    ∙ sum_more n f
    ∙ ap (λ (m : ℕ). sum_to m f) (add-one n)

-- a range, as what two sums from the start differ by
pub range : (a b : ℕ) (f : ℕ → ℕ) → a ≤ b → sum_to a f + sum_in a b f ≡ sum_to b f
unfolding sum_in
range a b f h =
    let e : a + (b - a) ≡ b = omega arith in
    sym (sum_split a (b - a) f) ∙ ap (λ (n : ℕ). sum_to n f) e

pub in_none : (a : ℕ) (f : ℕ → ℕ) → 0 ≡ sum_in a a f
unfolding sum_in sum_to
in_none a f = rw (sub_self a)

pub in_more : (a i : ℕ) (f : ℕ → ℕ) → a ≤ i → sum_in a i f + f i ≡ sum_in a (i + 1) f
in_more a i f h =
    let p = range a i f h in
    let q = range a (i + 1) f (omega arith) in
    let s = sum_more i f in
    omega arith

-- a range that begins past its end is empty, wherever it begins
pub in_cut : (a b : ℕ) (f : ℕ → ℕ) → sum_in (min a b) b f ≡ sum_in a b f
unfolding sum_in sum_to
in_cut a b f =
    ⊎_elim
    (λ l. let e : min a b ≡ a = omega arith in rw e)
    (λ g. let e : b - min a b ≡ 0 = omega arith in
    let n : b - a ≡ 0 = omega arith in
    rw (e, n))
    (lt_or_ge a b)

-- a range of n numbers, from the other end
pub in_back : (n a b : ℕ) (f : ℕ → ℕ) → b ≤ n → sum_in a b (λ (k : ℕ). f (n - suc k)) ≡ sum_in (n - b) (n - a) f
unfolding sum_in
in_back n a b f h =
    let m : (n - a) - (n - b) ≡ b - a = omega arith in
    sym (sum_back (b - a) (λ (k : ℕ). f (n - suc (a + k))))
    ∙ sum_ext (b - a) (λ (k : ℕ). f (n - suc (a + (b - a - suc k)))) (λ (k : ℕ). f ((n - b) + k))
    (λ k l. let e : n - suc (a + (b - a - suc k)) ≡ (n - b) + k = omega arith in ap f e)
    ∙ ap (λ (c : ℕ). sum_to c (λ (k : ℕ). f ((n - b) + k))) (sym m)

module _ (a b : ℕ) where
  pub in_ext : (f g : ℕ → ℕ) → ((k : ℕ) → a ≤ k → k < b → f k ≡ g k) → sum_in a b f ≡ sum_in a b g
  unfolding sum_in
  in_ext f g h = sum_ext (b - a) (λ (k : ℕ). f (a + k)) (λ (k : ℕ). g (a + k)) (λ k l. h (a + k) (omega arith) (omega arith))

  pub in_le : (B : ℕ) (f : ℕ → ℕ) → ((k : ℕ) → a ≤ k → k < b → f k ≤ B) → sum_in a b f ≤ (b - a) * B
  unfolding sum_in
  in_le B f h = sum-le (b - a) B (λ (k : ℕ). f (a + k)) (λ k l. h (a + k) (omega arith) (omega arith))

  pub in_same : (c : ℕ) (f : ℕ → ℕ) → ((k : ℕ) → a ≤ k → k < b → f k ≡ c) → sum_in a b f ≡ (b - a) * c
  unfolding sum_in
  in_same c f h = sum_same (b - a) c (λ (k : ℕ). f (a + k)) (λ k l. h (a + k) (omega arith) (omega arith))

  pub in_scaled : (B : ℕ) (f g : ℕ → ℕ) → ((k : ℕ) → a ≤ k → k < b → g k ≤ B * f k) → sum_in a b g ≤ B * sum_in a b f
  unfolding sum_in
  in_scaled B f g h =
      sum_scaled (b - a) B (λ (k : ℕ). f (a + k)) (λ (k : ℕ). g (a + k)) (λ k l. h (a + k) (omega arith) (omega arith))

  pub in_shift : (up down : ℕ) (c f g : ℕ → ℕ) → ((k : ℕ) → a ≤ k → k < b → Shifted up down (c k) (f k) (g k))
      → Shifted up down (sum_in a b c) (sum_in a b f) (sum_in a b g)
  unfolding sum_in
  in_shift up down c f g h =
      sum_shift (b - a) up down (λ (k : ℕ). c (a + k)) (λ (k : ℕ). f (a + k)) (λ (k : ℕ). g (a + k)) (λ k l. h (a + k) (omega arith) (omega arith))

  pub in_above : (B : ℕ) (f g : ℕ → ℕ) → ((k : ℕ) → a ≤ k → k < b → B * f k ≤ g k) → B * sum_in a b f ≤ sum_in a b g
  unfolding sum_in
  in_above B f g h =
      sum-above (b - a) B (λ (k : ℕ). f (a + k)) (λ (k : ℕ). g (a + k)) (λ k l. h (a + k) (omega arith) (omega arith))

  pub in_changed : (at x y : ℕ) (f g : ℕ → ℕ) → a ≤ at → at < b → ((k : ℕ) → a ≤ k → k < b → (k ≡ at → ⊥) → f k ≡ g k) → g at + x ≡ f at + y
      → sum_in a b g + x ≡ sum_in a b f + y
  unfolding sum_in
  in_changed at x y f g low high same there =
      let e : a + (at - a) ≡ at = omega arith in
      sum_changed (b - a) (at - a) x y (λ (k : ℕ). f (a + k)) (λ (k : ℕ). g (a + k)) (omega arith)
      (λ k l other. same (a + k) (omega arith) (omega arith) (λ p. other (omega arith)))
      (rw e there)

module _ (a b l r : ℕ) (f g : ℕ → ℕ → ℕ) where
  pub box_ext : ((u v : ℕ) → a ≤ u → u < b → l ≤ v → v < r → f u v ≡ g u v) → sum_box a b l r f ≡ sum_box a b l r g
  unfolding sum_box
  box_ext h =
      in_ext a b (λ (u : ℕ). sum_in l r (λ (v : ℕ). f u v)) (λ (u : ℕ). sum_in l r (λ (v : ℕ). g u v))
      (λ u p q. in_ext l r (λ (v : ℕ). f u v) (λ (v : ℕ). g u v) (λ v s t. h u v p q s t))

  pub box_scaled : (B : ℕ) → ((u v : ℕ) → a ≤ u → u < b → l ≤ v → v < r → g u v ≤ B * f u v) → sum_box a b l r g ≤ B * sum_box a b l r f
  unfolding sum_box
  box_scaled B h =
      in_scaled a b B (λ (u : ℕ). sum_in l r (λ (v : ℕ). f u v)) (λ (u : ℕ). sum_in l r (λ (v : ℕ). g u v))
      (λ u p q. in_scaled l r B (λ (v : ℕ). f u v) (λ (v : ℕ). g u v) (λ v s t. h u v p q s t))

  pub box_shift : (up down : ℕ) (c : ℕ → ℕ → ℕ)
      → ((u v : ℕ) → a ≤ u → u < b → l ≤ v → v < r → Shifted up down (c u v) (f u v) (g u v))
      → Shifted up down (sum_box a b l r c) (sum_box a b l r f) (sum_box a b l r g)
  unfolding sum_box
  box_shift up down c h =
      in_shift a b up down (λ (u : ℕ). sum_in l r (λ (v : ℕ). c u v)) (λ (u : ℕ). sum_in l r (λ (v : ℕ). f u v)) (λ (u : ℕ). sum_in l r (λ (v : ℕ). g u v))
      (λ u p q. in_shift l r up down (λ (v : ℕ). c u v) (λ (v : ℕ). f u v) (λ (v : ℕ). g u v) (λ v s t. h u v p q s t))

  pub box_above : (B : ℕ) → ((u v : ℕ) → a ≤ u → u < b → l ≤ v → v < r → B * f u v ≤ g u v) → B * sum_box a b l r f ≤ sum_box a b l r g
  unfolding sum_box
  box_above B h =
      in_above a b B (λ (u : ℕ). sum_in l r (λ (v : ℕ). f u v)) (λ (u : ℕ). sum_in l r (λ (v : ℕ). g u v))
      (λ u p q. in_above l r B (λ (v : ℕ). f u v) (λ (v : ℕ). g u v) (λ v s t. h u v p q s t))

  -- a box of which the term at row p and column q is changed
  pub box_changed : (p q x y : ℕ) → a ≤ p → p < b → l ≤ q → q < r
      → ((u v : ℕ) → a ≤ u → u < b → l ≤ v → v < r → (u ≡ p → v ≡ q → ⊥) → f u v ≡ g u v) → g p q + x ≡ f p q + y
      → sum_box a b l r g + x ≡ sum_box a b l r f + y
  unfolding sum_box
  box_changed p q x y top bottom left right same there =
      in_changed a b p x y (λ (u : ℕ). sum_in l r (λ (v : ℕ). f u v)) (λ (u : ℕ). sum_in l r (λ (v : ℕ). g u v)) top bottom
      (λ u i j other. in_ext l r (λ (v : ℕ). f u v) (λ (v : ℕ). g u v) (λ v s t. same u v i j s t (λ e _. other e)))
      (in_changed l r q x y (λ (v : ℕ). f p v) (λ (v : ℕ). g p v) left right (λ v s t other. same p v top bottom s t (λ _ e. other e)) there)

-- a box by its columns
pub box_turned : (a b l r : ℕ) (g : ℕ → ℕ → ℕ) → sum_box a b l r g ≡ sum_box l r a b (λ (v u : ℕ). g u v)
unfolding sum_box sum_in
box_turned a b l r g = sum_swap (b - a) (r - l) (λ (u v : ℕ). g (a + u) (l + v))

-- running totals, the sums from the start: what two differ by is the sum over the range between
pub in_totals : (a b : ℕ) (f : ℕ → ℕ) → a ≤ b → sum_to b f - sum_to a f ≡ sum_in a b f
in_totals a b f h = omega (arith, range a b f h)

-- they never fall
pub totals_grow : (a b : ℕ) (f : ℕ → ℕ) → a ≤ b → sum_to a f ≤ sum_to b f
totals_grow a b f h = omega (arith, range a b f h)

-- a box: along a row, running totals of what totals down its columns differ by
pub box_totals : (a b l r : ℕ) (g : ℕ → ℕ → ℕ) → a ≤ b → l ≤ r
    → (sum_to r (λ (v : ℕ). sum_to b (λ (u : ℕ). g u v) - sum_to a (λ (u : ℕ). g u v))
    - sum_to l (λ (v : ℕ). sum_to b (λ (u : ℕ). g u v) - sum_to a (λ (u : ℕ). g u v)))
    ≡ sum_box a b l r g
unfolding sum_box
box_totals a b l r g high wide =
    in_totals l r _ wide
    ∙ in_ext l r _ (λ (v : ℕ). sum_in a b (λ (u : ℕ). g u v)) (λ v _ _. in_totals a b (λ (u : ℕ). g u v) high)
    ∙ sym (box_turned a b l r g)

module _ (a b l r : ℕ) where
  pub box_le : (B : ℕ) (f : ℕ → ℕ → ℕ) → ((u v : ℕ) → a ≤ u → u < b → l ≤ v → v < r → f u v ≤ B) → sum_box a b l r f ≤ (b - a) * ((r - l) * B)
  unfolding sum_box
  box_le B f h =
      in_le a b ((r - l) * B) (λ (u : ℕ). sum_in l r (λ (v : ℕ). f u v)) (λ u p q. in_le l r B (λ (v : ℕ). f u v) (λ v s t. h u v p q s t))

-- where a loop that adds row by row begins, and a turn of it
pub box_none : (a l r : ℕ) (g : ℕ → ℕ → ℕ) → 0 ≡ sum_box a a l r g
unfolding sum_box
box_none a l r g = in_none a (λ (u : ℕ). sum_in l r (λ (v : ℕ). g u v))

pub box_more : (a i l r : ℕ) (g : ℕ → ℕ → ℕ) → a ≤ i → sum_box a i l r g + sum_in l r (λ (v : ℕ). g i v) ≡ sum_box a (i + 1) l r g
unfolding sum_box
box_more a i l r g h = in_more a i (λ (u : ℕ). sum_in l r (λ (v : ℕ). g u v)) h

-- a box that begins past its end is empty, wherever it begins
pub box_cut : (a b l r : ℕ) (g : ℕ → ℕ → ℕ) → sum_box (min a b) b (min l r) r g ≡ sum_box a b l r g
unfolding sum_box
box_cut a b l r g =
    in_cut a b (λ (u : ℕ). sum_in (min l r) r (λ (v : ℕ). g u v))
    ∙ in_ext a b (λ (u : ℕ). sum_in (min l r) r (λ (v : ℕ). g u v)) (λ (u : ℕ). sum_in l r (λ (v : ℕ). g u v)) (λ u p q. in_cut l r (λ (v : ℕ). g u v))
