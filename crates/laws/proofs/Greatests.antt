-- The laws of the lesser and the greater of two numbers, of the greatest of more, and of where it stands first.
use Prim.Native.Nat.{ℕ, zero, suc, ◌+◌, ◌-◌, ◌<◌, ◌≤◌, min, max}
use mathlib.Core.Bool.{Bool, true, false, cond}
use mathlib.Core.Logic.{◌⊎◌, inl, inr, ⊎_elim}
use mathlib.Core.Path.{◌≡◌, refl, sym, subst, ap₂, ◌∙◌}
use native.Mathlib.Nat.{add-zero, eq-or-lt_of_le, le_of_suc-le-suc}
use native.Mathlib.Omega.{arith}
use lib.Dec.{eqb, ltb}
use borrow.Author.Tests.{lt-ltb, le-ltb, ltb-true, ltb-false, eq-eqb, ne_eqb}
use Rattle.laws.specs.Greatest.{lesser, greater, greatest_to, greatest_in, first_greatest}
use Rattle.laws.proofs.Cases.{lt_or_ge, true_or_false}
use Rattle.laws.proofs.Firsts.{first_end, first_here, first_ext}

-- what the lesser and the greater of two have in common: the one chosen is one of the two, and stands before both, in an order that is upwards for the
-- lesser and downwards for the greater
pub record Choice (choose : ℕ → ℕ → ℕ) (Before : ℕ → ℕ → Type 0) : Type 0 where
  pub one : (x y : ℕ) → (choose x y ≡ x) ⊎ (choose x y ≡ y)
  pub left : (x y : ℕ) → Before (choose x y) x
  pub right : (x y : ℕ) → Before (choose x y) y
  pub self : (x : ℕ) → Before x x
  pub far : (x y z : ℕ) → Before x y → Before y z → Before x z
  pub same : (x y : ℕ) → Before x y → Before y x → x ≡ y

module _ {choose : ℕ → ℕ → ℕ} {Before : ℕ → ℕ → Type 0} (c : Choice choose Before) where
  -- what holds of both holds of the one chosen
  pub choice_of : (P : ℕ → Type 0) (x y : ℕ) → P x → P y → P (choose x y)
  choice_of P x y p q = ⊎_elim (λ e. rw e p) (λ e. rw e q) (c.one x y)

  -- the order of two does not matter
  pub choice_comm : (x y : ℕ) → choose x y ≡ choose y x
  choice_comm x y =
      c.same (choose x y) (choose y x)
      (choice_of (Before (choose x y)) y x (c.right x y) (c.left x y))
      (choice_of (Before (choose y x)) x y (c.right y x) (c.left y x))

  -- nor does that of the last two of three
  first_of_three : (x y z : ℕ) → Before (choose (choose x y) z) x
  first_of_three x y z = c.far _ (choose x y) x (c.left (choose x y) z) (c.left x y)

  second_of_three : (x y z : ℕ) → Before (choose (choose x y) z) y
  second_of_three x y z = c.far _ (choose x y) y (c.left (choose x y) z) (c.right x y)

  three_before : (x y z : ℕ) → Before (choose (choose x y) z) (choose (choose x z) y)
  three_before x y z =
      choice_of (Before (choose (choose x y) z)) (choose x z) y
      (choice_of (Before (choose (choose x y) z)) x z (first_of_three x y z) (c.right (choose x y) z))
      (second_of_three x y z)

  pub choice_swap : (x y z : ℕ) → choose (choose x y) z ≡ choose (choose x z) y
  choice_swap x y z = c.same _ _ (three_before x y z) (three_before x z y)

-- neither of two is above the greater
left_le : (x y : ℕ) → x ≤ greater x y
left_le x y = ⊎_elim (λ t. rw t (omega (arith, ltb-true x y t))) (λ f. rw f (omega arith)) (true_or_false (ltb x y))

right_le : (x y : ℕ) → y ≤ greater x y
right_le x y = ⊎_elim (λ t. rw t (omega arith)) (λ f. rw f (omega (arith, ltb-false x y f))) (true_or_false (ltb x y))

pub greater_choice : Choice greater (λ (x y : ℕ). y ≤ x)
greater_choice = record {
  one = λ x y. ⊎_elim (λ t. inr (rw t)) (λ f. inl (rw f)) (true_or_false (ltb x y));
  left = left_le;
  right = right_le;
  self = λ x. omega arith;
  far = λ x y z a b. omega arith;
  same = λ x y a b. omega arith;
}

pub lesser_choice : Choice lesser (λ (x y : ℕ). x ≤ y)
lesser_choice = record {
  one = λ x y. ⊎_elim (λ t. inr (rw t)) (λ f. inl (rw f)) (true_or_false (ltb y x));
  left = λ x y. ⊎_elim (λ t. rw t (omega (arith, ltb-true y x t))) (λ f. rw f (omega arith)) (true_or_false (ltb y x));
  right = λ x y. ⊎_elim (λ t. rw t (omega arith)) (λ f. rw f (omega (arith, ltb-false y x f))) (true_or_false (ltb y x));
  self = λ x. omega arith;
  far = λ x y z a b. omega arith;
  same = λ x y a b. omega arith;
}

-- ---- of f 0 to f n
to_of : (f : ℕ → ℕ) (P : ℕ → Type 0) (n : ℕ) → ((k : ℕ) → k ≤ n → P (f k)) → P (greatest_to n f)
unfolding greatest_to
to_of f P zero h = h 0 (omega arith)
to_of f P (suc n) h = choice_of greater_choice P (greatest_to n f) (f (suc n)) (to_of f P n (λ k l. h k (omega arith))) (h (suc n) (omega arith))

to_le : (f : ℕ → ℕ) (n k : ℕ) → k ≤ n → f k ≤ greatest_to n f
unfolding greatest_to
to_le f zero k l = let e : k ≡ 0 = omega arith in rw e (omega arith)
to_le f (suc n) k l =
    ⊎_elim
    (λ before. omega (arith, to_le f n k (omega arith), left_le (greatest_to n f) (f (suc n))))
    (λ after. let e : k ≡ suc n = omega arith in rw e (right_le (greatest_to n f) (f (suc n))))
    (lt_or_ge k (suc n))

to_ext : (n : ℕ) (f g : ℕ → ℕ) → ((k : ℕ) → k ≤ n → f k ≡ g k) → greatest_to n f ≡ greatest_to n g
unfolding greatest_to
to_ext zero f g h = h 0 (omega arith)
to_ext (suc n) f g h = ap₂ greater (to_ext n f g (λ k l. h k (omega arith))) (h (suc n) (omega arith))

-- ---- of f k for a ≤ k < b
module _ (a : ℕ) (f : ℕ → ℕ) where
  -- where a search for the greatest begins
  pub greatest_one : f a ≡ greatest_in a (a + 1) f
  unfolding greatest_in
  greatest_one = let e : a + 1 - a - 1 ≡ 0 = omega arith in rw (e, add-zero a)

  -- a turn of it
  pub greatest_more : (i : ℕ) → a < i → greater (greatest_in a i f) (f i) ≡ greatest_in a (i + 1) f
  unfolding greatest_in
  greatest_more i l =
      let e : i + 1 - a - 1 ≡ suc (i - a - 1) = omega arith in
      let last : a + suc (i - a - 1) ≡ i = omega arith in
      rw (e, last)

module _ (a b : ℕ) (some : a < b) where
  -- what holds of each holds of the greatest
  pub greatest_of : (f : ℕ → ℕ) (P : ℕ → Type 0) → ((k : ℕ) → a ≤ k → k < b → P (f k)) → P (greatest_in a b f)
  unfolding greatest_in
  greatest_of f P h = to_of (λ (k : ℕ). f (a + k)) P (b - a - 1) (λ k l. h (a + k) (omega arith) (omega arith))

  -- of functions that agree there
  pub greatest_ext : (f g : ℕ → ℕ) → ((k : ℕ) → a ≤ k → k < b → f k ≡ g k) → greatest_in a b f ≡ greatest_in a b g
  unfolding greatest_in
  greatest_ext f g h = to_ext (b - a - 1) (λ (k : ℕ). f (a + k)) (λ (k : ℕ). g (a + k)) (λ k l. h (a + k) (omega arith) (omega arith))

-- none of them is above it
pub greatest-le : (a b : ℕ) (f : ℕ → ℕ) (k : ℕ) → a ≤ k → k < b → f k ≤ greatest_in a b f
unfolding greatest_in
greatest-le a b f k p q =
    let e : a + (k - a) ≡ k = omega arith in
    rw e at (to_le (λ (k : ℕ). f (a + k)) (b - a - 1) (k - a) (omega arith))

-- ---- where the greatest stands first
module _ (f : ℕ → ℕ) where
  -- k is a place below n, f is nowhere greater, and before k it is less
  pub record LeadsAt (n k : ℕ) : Type 0 where
    pub inside : k < n
    pub most : (i : ℕ) → i < n → f i ≤ f k
    pub first : (i : ℕ) → i < k → f i < f k

  -- where a search for it begins
  pub leads_one : LeadsAt 1 0
  leads_one = record {
    inside = omega arith;
    most = λ i l. let e : i ≡ 0 = omega arith in rw e (omega arith);
    first = λ i l. absurd (omega arith);
  }

  -- a turn of it: only a greater one leads from here on
  pub leads_more : (n k : ℕ) → LeadsAt n k → LeadsAt (suc n) (cond (ltb (f k) (f n)) n k)
  leads_more n k p = by (ltb (f k) (f n)) (ltb-true (f k) (f n)) (ltb-false (f k) (f n))
    where
      by : (b : Bool) → (b ≡ true → f k < f n) → (b ≡ false → f n ≤ f k) → LeadsAt (suc n) (cond b n k)
      by true up down = record {
        inside = omega arith;
        most = λ i l. ⊎_elim (λ e. rw e (omega arith)) (λ h. omega (arith, p.most i h, up refl)) (eq-or-lt_of_le (le_of_suc-le-suc l));
        first = λ i l. omega (arith, p.most i l, up refl);
      }
      by false up down = record {
        inside = omega (arith, p.inside);
        most = λ i l. ⊎_elim (λ e. rw e (down refl)) (λ h. p.most i h) (eq-or-lt_of_le (le_of_suc-le-suc l));
        first = p.first;
      }

  -- that place is `first_greatest`, and there is no second
  pub leads_is : (n k : ℕ) → LeadsAt n k → first_greatest n f ≡ k
  unfolding first_greatest
  leads_is n k p = first_here test n k p.inside (first_end test k (λ i l. ne_eqb (f i) (greatest_in 0 n f) (λ e. omega (arith, p.first i l, top)))) (eq-eqb (f k) (greatest_in 0 n f) (sym top))
    where
      test : ℕ → Bool
      test i = eqb (f i) (greatest_in 0 n f)

      top : greatest_in 0 n f ≡ f k
      top =
          let low : f k ≤ greatest_in 0 n f = greatest-le 0 n f k (omega arith) p.inside in
          let high : greatest_in 0 n f ≤ f k = greatest_of 0 n (omega (arith, p.inside)) f (λ (v : ℕ). v ≤ f k) (λ i z l. p.most i l) in
          omega arith

  -- of one number or more there is such a place
  pub first_greatest_is : (n : ℕ) → 0 < n → LeadsAt n (first_greatest n f)
  first_greatest_is zero some = absurd (omega arith)
  first_greatest_is (suc zero) some = rw (leads_is 1 0 leads_one) leads_one
  first_greatest_is (suc (suc n)) some =
      let next = leads_more (suc n) (first_greatest (suc n) f) (first_greatest_is (suc n) (omega arith)) in
      subst (LeadsAt (suc (suc n))) (sym (leads_is (suc (suc n)) _ next)) next

-- and it is told by what f is at the n places
pub first_greatest_ext : (n : ℕ) (f g : ℕ → ℕ) → ((k : ℕ) → k < n → f k ≡ g k) → first_greatest n f ≡ first_greatest n g
unfolding first_greatest
first_greatest_ext n f g h =
    first_ext n _ _ (λ k l. ap₂ eqb (h k l) (greatest_ext 0 n (omega arith) f g (λ i _ p. h i p)))

-- std's lesser and greater of two are these
pub min_lesser : (a b : ℕ) → min a b ≡ lesser a b
min_lesser a b =
    ⊎_elim
    (λ (l : b < a). let e : min a b ≡ b = omega arith in e ∙ rw (lt-ltb b a l) refl)
    (λ (g : a ≤ b). let e : min a b ≡ a = omega arith in e ∙ rw (le-ltb b a g) refl)
    (lt_or_ge b a)

pub max_greater : (a b : ℕ) → max a b ≡ greater a b
max_greater a b =
    ⊎_elim
    (λ (l : a < b). let e : max a b ≡ b = omega arith in e ∙ rw (lt-ltb a b l) refl)
    (λ (g : b ≤ a). let e : max a b ≡ a = omega arith in e ∙ rw (le-ltb a b g) refl)
    (lt_or_ge a b)
