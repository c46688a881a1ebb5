-- Squares of differences. One equation, `apart_square`, carries all but the bound `excess_most`: a product by a square (`four_times`), Cauchy and Schwarz when one
-- number is added (`schwarz_more`), and that n times a sum of squares exceeds the square of the sum by the squares of what the terms differ by (`spread`).
use Prim.Native.Nat.{ℕ, zero, suc, ◌+◌, ◌-◌, ◌*◌, ◌≤◌, ◌<◌}
use mathlib.Core.Logic.{◌⊎◌, inl, inr, ⊎_elim}
use mathlib.Core.Path.{◌≡◌, refl, sym, ap, ◌∙◌}
use native.Mathlib.Nat.{mul-add, add-mul, mul_comm, mul_assoc, mul_left_comm, zero-mul, mul-zero, add-zero, mul-pos, mul-le-mul, mul-le-mul_left, le_of_mul-le-mul_left, eq-zero-or-pos, eq-or-lt_of_le}
use native.Mathlib.Omega.{arith}
use Rattle.laws.specs.Signed.{◌⊖◌, apart}
use Rattle.laws.specs.Sum.{sum_to}
use Rattle.laws.proofs.Cases.{lt_or_ge}
use Rattle.laws.proofs.Signeds.{⊖-eq, ⊖-cross}
use Rattle.laws.proofs.Sums.{sum_ext, sum-zero, sum_scaled, zero_terms}

abbrev pub square : ℕ → ℕ
square k = k * k

square_none : (a : ℕ) → square a ≡ 0 → a ≡ 0
square_none a e = ⊎_elim (λ z. z) (λ l. absurd (omega (arith, mul-pos l l))) (eq-zero-or-pos a)

-- (a + b)² = a² + 2ab + b²
square_sum : (a b : ℕ) → square (a + b) ≡ square a + 2 * (a * b) + square b
square_sum a b = simp (mul-add, add-mul) (omega (arith, mul_comm a b))

-- (a − b)² + 2ab = a² + b²
apart_square : (a b : ℕ) → square (apart a b) + 2 * (a * b) ≡ square a + square b
apart_square a b =
    ⊎_elim
    (λ (l : a < b). let d : apart a b ≡ b - a = omega arith in rw d (ordered a b (omega arith)))
    (λ (g : b ≤ a). let d : apart a b ≡ a - b = omega arith in rw d (omega (arith, ordered b a g, mul_comm a b)))
    (lt_or_ge a b)
  where
    up : (a k : ℕ) → square k + 2 * (a * (a + k)) ≡ square a + square (a + k)
    up a k = omega (arith, square_sum a k, mul-add a a k)

    ordered : (a b : ℕ) → a ≤ b → square (b - a) + 2 * (a * b) ≡ square a + square b
    ordered a b h = let e : a + (b - a) ≡ b = omega arith in rw e at (up a (b - a))

-- (2a)² = 4a²
pub square_twice : (a : ℕ) → square (2 * a) ≡ 4 * square a
square_twice a = simp (mul_assoc, mul_left_comm) (omega arith)

-- 4ab ≤ (a + b)²
pub four_times : (a b : ℕ) → 4 * (a * b) ≤ square (a + b)
four_times a b = omega (arith, square_sum a b, apart_square a b)

-- Where s is a sum of k numbers and q of their squares, s² ≤ kq; it stays so when v is added.
pub schwarz_more : (k q s v : ℕ) → square s ≤ k * q → square (s + v) ≤ (k + 1) * (q + square v)
schwarz_more k q s v h =
    omega (arith, cross (eq-zero-or-pos k), square_sum s v, add-mul k 1 (q + square v), mul-add k q (square v))
  where
    -- 2sv ≤ q + kv²: for k times both sides it is 2ab ≤ a² + b² of s and kv
    cross : (k ≡ 0) ⊎ (0 < k) → 2 * (s * v) ≤ q + k * square v
    cross (inl z) =
        let none : s ≡ 0 = square_none s (omega (arith, ap (λ (t : ℕ). t * q) z ∙ zero-mul q)) in
        rw none (omega (arith, zero-mul v))
    cross (inr l) =
        let e : k * (2 * (s * v)) ≡ 2 * (s * (k * v)) = simp (mul_left_comm) in
        let f : square (k * v) ≡ k * (k * square v) = simp (mul_left_comm, mul_comm) in
        le_of_mul-le-mul_left (omega (arith, apart_square s (k * v), mul-add k q (k * square v))) l

-- (d − e)² for two differences d = y − x and e = v − u
abbrev pub between : ℕ → ℕ → ℕ → ℕ → ℕ
between x y u v = square (apart (y + u) (x + v))

-- (d − e)² + 2de = d² + e²
between_square : (x y u v : ℕ)
    → between x y u v + 2 * (y * v + x * u) ≡ square (apart y x) + square (apart v u) + 2 * (y * u + x * v)
between_square x y u v =
    omega (
      arith,
      apart_square (y + u) (x + v),
      square_sum y u,
      square_sum x v,
      apart_square y x,
      apart_square v u,
      add-mul y u (x + v),
      mul-add y x v,
      mul-add u x v,
      mul_comm u x,
      mul_comm v u,
    )

-- a place counts 1, or it counts 0 and holds 0 and 0
abbrev pub Counted : ℕ → ℕ → ℕ → Type 0
Counted o x y = (o ≡ 1) ⊎ ((o ≡ 0) × (x ≡ 0) × (y ≡ 0))

-- Sums over some places: n counts them, X and Y are the sums of x and y, S of (y − x)². One place more, of x and y.
module _ (n X Y S o x y : ℕ) (k : Counted o x y) where
  -- R is the sum of the squares of what their differences have from v − u
  around_more : (u v R : ℕ)
      → R + 2 * (Y * v + X * u) ≡ S + n * square (apart v u) + 2 * (Y * u + X * v)
      → R + o * between x y u v + 2 * ((Y + y) * v + (X + x) * u)
      ≡ S + square (apart y x) + (n + o) * square (apart v u) + 2 * ((Y + y) * u + (X + x) * v)
  around_more u v R h =
      ⊎_elim
      (λ i. rw i (omega (arith, between_square x y u v, add-mul Y y v, add-mul X x u, add-mul Y y u, add-mul X x v, add-mul n 1 (square (apart v u)))))
      (λ i. rw (i.0, i.1, i.2) (simp (add-zero) (omega (arith, zero-mul (between 0 0 u v)))))
      k

  -- and L of what they have from each other
  spread_more : (L R : ℕ)
      → n * S ≡ square (apart Y X) + L
      → R + 2 * (Y * y + X * x) ≡ S + n * square (apart y x) + 2 * (Y * x + X * y)
      → (n + o) * (S + square (apart y x)) ≡ square (apart (Y + y) (X + x)) + (L + o * R)
  spread_more L R g h =
      let e : apart x y ≡ apart y x = omega arith in
      ⊎_elim
      (λ i. rw i (omega (arith, between_square X Y y x, ap square e, add-mul n 1 (S + square (apart y x)), mul-add n S (square (apart y x)))))
      (λ i. rw (i.0, i.1, i.2) (simp (add-zero) (omega (arith, zero-mul R))))
      k

-- d² at a place, d being y − x there
abbrev pub squares : (ℕ → ℕ) → (ℕ → ℕ) → ℕ → ℕ
squares x y i = square (apart (y i) (x i))

-- Two functions x and y, and what `one` counts of the places below N.
module _ (one x y : ℕ → ℕ) where
  -- n × (sum of d²) − (sum of d)²
  abbrev pub excess : ℕ → ℕ
  excess N = sum_to N one * sum_to N (squares x y) - square (apart (sum_to N y) (sum_to N x))

  -- d is the same at all the places
  abbrev pub AllEqual : ℕ → Type 0
  AllEqual N = (i j : ℕ) → i < N → j < N → one i ≡ 1 → one j ≡ 1 → y i ⊖ x i ≡ y j ⊖ x j

  -- at any two of the places, d differs between them by as much as that of x' and y' does
  abbrev pub AsFar : (ℕ → ℕ) → (ℕ → ℕ) → ℕ → Type 0
  AsFar x' y' N = (i j : ℕ) → i < N → j < N → one i ≡ 1 → one j ≡ 1 → apart (y j + x i) (x j + y i) ≡ apart (y' j + x' i) (x' j + y' i)

  -- the squares of what d at i is from the d of each place before it
  abbrev pub crossing : ℕ → ℕ → ℕ
  crossing i j = one j * between (x j) (y j) (x i) (y i)

  abbrev pub crossings : ℕ → ℕ
  crossings i = one i * sum_to i (crossing i)

module _ (one x y : ℕ → ℕ) (counted : (i : ℕ) → Counted (one i) (x i) (y i)) where
  around : (u v N : ℕ)
      → sum_to N (λ (j : ℕ). one j * between (x j) (y j) u v) + 2 * (sum_to N y * v + sum_to N x * u)
      ≡ sum_to N (squares x y) + sum_to N one * square (apart v u) + 2 * (sum_to N y * u + sum_to N x * v)
  unfolding sum_to
  around u v zero = omega (arith, zero-mul v, zero-mul u, zero-mul (square (apart v u)))
  around u v (suc N) = around_more _ _ _ _ _ _ _ (counted N) u v _ (around u v N)

  -- n × (sum of d²) is (sum of d)², and the squares of what each two of the differences are from each other
  pub spread : (N : ℕ)
      → sum_to N one * sum_to N (squares x y) ≡ square (apart (sum_to N y) (sum_to N x)) + sum_to N (crossings one x y)
  unfolding sum_to
  spread zero = refl
  spread (suc N) = spread_more _ _ _ _ _ _ _ (counted N) _ _ (spread N) (around (x N) (y N) N)

  -- (sum of d)² ≤ n × (sum of d²)
  pub schwarz : (N : ℕ) → square (apart (sum_to N y) (sum_to N x)) ≤ sum_to N one * sum_to N (squares x y)
  schwarz N = omega (arith, spread N)

  -- the excess is the sum of those squares
  excess_is : (N : ℕ) → excess one x y N ≡ sum_to N (crossings one x y)
  excess_is N = omega (arith, spread N)

  -- where no difference is above b, the excess is at most (n × b)²
  pub excess_most : (N b : ℕ) → ((i : ℕ) → i < N → apart (y i) (x i) ≤ b) → excess one x y N ≤ square (sum_to N one * b)
  excess_most N b h =
      let n = sum_to N one in
      let total = sum_scaled N (square b) one (squares x y) (λ i l. term i (h i l)) in
      let same : n * (square b * n) ≡ square (n * b) = simp (mul_assoc, mul_comm, mul_left_comm) in
      omega (arith, mul-le-mul_left n total, same)
    where
      term : (i : ℕ) → apart (y i) (x i) ≤ b → squares x y i ≤ square b * one i
      term i l =
          ⊎_elim
          (λ (a : one i ≡ 1). rw a (omega (arith, mul-le-mul l l)))
          (λ k. rw (k.0, k.1, k.2) (omega (arith, mul-zero (square b))))
          (counted i)

  -- the excess is 0 only where all differences are equal
  pub none_equal : (N : ℕ) → excess one x y N ≡ 0 → AllEqual one x y N
  none_equal N e i j p q a b =
      ⊎_elim
      (λ (l : i < j). earlier j i q l b a)
      (λ (g : j ≤ i). ⊎_elim (λ k. rw k) (λ l. sym (earlier i j p l a b)) (eq-or-lt_of_le g))
      (lt_or_ge i j)
    where
      rest : sum_to N (crossings one x y) ≡ 0
      rest = sym (excess_is N) ∙ e

      earlier : (i j : ℕ) → i < N → j < i → one i ≡ 1 → one j ≡ 1 → y j ⊖ x j ≡ y i ⊖ x i
      earlier i j p l a b =
          let outer : sum_to i (crossing one x y i) ≡ 0 = omega (arith, rw a at (zero_terms N (crossings one x y) rest i p)) in
          let inner : between (x j) (y j) (x i) (y i) ≡ 0 = omega (arith, rw b at (zero_terms i (crossing one x y i) outer j l)) in
          let met : apart (y j + x i) (x j + y i) ≡ 0 = square_none _ inner in
          ⊖-eq (y j) (x j) (y i) (x i) (omega arith)

-- the excess is told by how far d differs between each two of the places
pub excess_same : (one x y x' y' : ℕ → ℕ) → ((i : ℕ) → Counted (one i) (x i) (y i)) → ((i : ℕ) → Counted (one i) (x' i) (y' i))
    → (N : ℕ) → AsFar one x y x' y' N → excess one x y N ≡ excess one x' y' N
excess_same one x y x' y' counted counted' N h =
    excess_is one x y counted N ∙ sum_ext N (crossings one x y) (crossings one x' y') row ∙ sym (excess_is one x' y' counted' N)
  where
    -- what does not count may differ
    where_counted : (i u v : ℕ) → (one i ≡ 1 → u ≡ v) → one i * u ≡ one i * v
    where_counted i u v f = ⊎_elim (λ a. ap (λ (s : ℕ). one i * s) (f a)) (λ k. rw k.0 (zero-mul u ∙ sym (zero-mul v))) (counted i)

    row : (i : ℕ) → i < N → crossings one x y i ≡ crossings one x' y' i
    row i p =
        where_counted i _ _ (λ a. sum_ext i (crossing one x y i) (crossing one x' y' i)
        (λ j l. where_counted j _ _ (λ b. ap square (h i j p (omega arith) a b))))

-- so it is 0 where all differences are equal, as it is of x and y that are 0
pub equal_none : (one x y : ℕ → ℕ) → ((i : ℕ) → Counted (one i) (x i) (y i)) → (N : ℕ) → AllEqual one x y N → excess one x y N ≡ 0
equal_none one x y counted N h =
    let zero : ℕ → ℕ = λ (i : ℕ). 0 in
    let none : sum_to N one * sum_to N (squares zero zero) ≡ 0 = ap (λ (s : ℕ). sum_to N one * s) (sum-zero N (squares zero zero) (λ k l. refl)) ∙ mul-zero (sum_to N one) in
    excess_same one x y zero zero counted (λ i. ⊎_elim (λ a. inl a) (λ k. inr (k.0, refl, refl)) (counted i)) N met ∙ omega (arith, none)
  where
    met : (i j : ℕ) → i < N → j < N → one i ≡ 1 → one j ≡ 1 → apart (y j + x i) (x j + y i) ≡ 0
    met i j p q a b = let c = ⊖-cross (y j) (x j) (y i) (x i) (h j i q p b a) in omega (arith, c)
