-- How far one rounding is from its fraction: half a unit in the last place, which is at most one part in 2 ^ prec where all digits are kept.
use Prim.Native.Nat.{ℕ, ◌+◌, ◌-◌, ◌*◌, ◌/◌, ◌%◌, ◌^◌, ◌≤◌, ◌<◌, compare, Ordering}
use mathlib.Core.Bool.{not}
use mathlib.Core.Path.{◌≡◌, ap, subst}
use native.Mathlib.Nat.{le_trans, le_of_eq, add-mul, suc-mul, mul_comm, mul_assoc, mul_left_comm, mul_right_comm, mul-le-mul_right, mul-pos, mul-sub, le_of_mul-le-mul_right, div-add-mod', mod-lt, le-div_iff_mul-le}
use native.Mathlib.Omega.{arith}
use lib.Arith.{lt_of_le-ne}
use lib.Dec.{T, is_le, compare_is_eq, leb→le, nleb→lt, eqb, eqb→eq, eqb_refl}
use lib.Pow.{pow-add, pow_pos}
use lib.Ieee.{Format, prec, low, size, nearest}
use lib.Ieee.Digits.{size_reaches}
use lib.Ieee.Fits.{two, two-le_pos}
use lib.Ieee.Nearest.{closest}
use lib.Ieee.Order.{drop}
use lib.Ieee.Scale.{grid}
use Rattle.laws.specs.Signed.{apart}

-- a is within one part in t of b
abbrev pub Within : ℕ → ℕ → ℕ → Type 0
Within t a b = (a * t ≤ b * t + b) × (b * t ≤ a * t + b)

-- as a distance, and back
module _ (t a b : ℕ) where
  parted : apart a b * t ≡ (t * a - t * b) + (t * b - t * a)
  parted = rw (add-mul (a - b) (b - a) t, mul_comm (a - b) t, mul_comm (b - a) t, mul-sub t a b, mul-sub t b a)

  pub within-apart : Within t a b → apart a b * t ≤ b
  within-apart h = omega (arith, parted, mul_comm t a, mul_comm t b)

  pub apart-within : apart a b * t ≤ b → Within t a b
  apart-within h = omega (arith, parted, mul_comm t a, mul_comm t b)

-- what a comparison says of its two numbers
abbrev Compared : Ordering → ℕ → ℕ → Type 0
Compared Ordering.lt a b = a < b
Compared Ordering.eq a b = a ≡ b
Compared Ordering.gt a b = b < a

compared : (a b : ℕ) → Compared (compare a b) a b
compared a b = by (compare a b) (leb→le a b) (nleb→lt a b) (eqb→eq a b) (λ (e : a ≡ b). subst (λ (x : ℕ). T (eqb a x)) e (eqb_refl a))
  where
    by : (o : Ordering) → (T (is_le o) → a ≤ b) → (T (not (is_le o)) → b < a) → (T (compare_is_eq o) → a ≡ b) → (a ≡ b → T (compare_is_eq o)) → Compared o a b
    by Ordering.lt h k e n = lt_of_le-ne (h tt) n
    by Ordering.eq h k e n = e tt
    by Ordering.gt h k e n = k tt

-- a and b are at most half of u apart
abbrev Half : ℕ → ℕ → ℕ → Type 0
Half u a b = (a * 2 ≤ b * 2 + u) × (b * 2 ≤ a * 2 + u)

nearest_half : (o : Ordering) (w r u : ℕ) → Compared o (r * 2) u → r < u → Half u (nearest w o * u) (w * u + r)
nearest_half Ordering.lt w r u c h = omega arith
nearest_half Ordering.eq w r u c h =
    let d : w % 2 * u ≤ 1 * u = mul-le-mul_right u (omega arith) in
    omega (arith, add-mul w (w % 2) u)
nearest_half Ordering.gt w r u c h = omega (arith, suc-mul w u)

closest_half : (n u : ℕ) → 0 < u → Half u (closest n u * u) n
closest_half n u U =
    subst (λ (m : ℕ). Half u (closest n u * u) m) (div-add-mod' n u)
    (nearest_half (compare (n % u * 2) u) (n / u) (n % u) u (compared (n % u * 2) u) (mod-lt n U))

-- half of u, where u is at most one part in h of n
half_within : (a n u h : ℕ) → Half u a n → u * h ≤ n → Within (2 * h) a n
half_within a n u h p k =
    let x : a * 2 * h ≤ (n * 2 + u) * h = mul-le-mul_right h p.0 in
    let y : n * 2 * h ≤ (a * 2 + u) * h = mul-le-mul_right h p.1 in
    omega (arith, add-mul (n * 2) u h, add-mul (a * 2) u h, mul_assoc a 2 h, mul_assoc n 2 h)

kept_digits : (p z : ℕ) → 0 < p → p ≤ z → p - 1 + (z - p) < z
kept_digits p z P h = omega arith

-- a / c in units of the least number, rounded: where it has as many digits as are kept, or more
pub grid_within : (f : Format) (a c : ℕ) → 0 < c → prec f ≤ size (a * 2 ^ low f / c) → Within (2 * 2 ^ (prec f - 1)) (grid f a c * c) (a * 2 ^ low f)
grid_within f a c C N =
    let n = a * 2 ^ low f in
    let p = prec f in
    let k = drop p n c in
    let u = c * 2 ^ k in
    let reach : 2 ^ (p - 1 + k) * c ≤ n = (le-div_iff_mul-le C).0 (size_reaches (n / c) (p - 1 + k) (kept_digits p (size (n / c)) (two-le_pos p (two f)) N)) in
    let small : u * 2 ^ (p - 1) ≤ n = le_trans (le_of_eq (simp (mul_assoc, mul_comm, mul_left_comm, pow-add))) reach in
    let same : closest n u * u ≡ grid f a c * c = simp (mul_assoc, mul_comm, mul_left_comm) in
    subst (λ (g : ℕ). Within (2 * 2 ^ (p - 1)) g n) same
    (half_within (closest n u * u) n u (2 ^ (p - 1)) (closest_half n u (mul-pos C (pow_pos k))) small)

-- the same of F / D, which equals g / L
pub within_value : (t g c a L F D : ℕ) → 0 < L → F * L ≡ g * D → Within t (g * c) (a * L) → Within t (F * c) (a * D)
within_value t g c a L F D P e h =
    let fl : F * c * t * L ≡ g * c * t * D = simp (mul_assoc, mul_comm, mul_left_comm) (simp (mul_assoc, mul_comm, mul_left_comm) at (ap (λ (z : ℕ). z * (c * t)) e)) in
    let al : a * D * t * L ≡ a * L * t * D = simp (mul_assoc, mul_comm, mul_left_comm) in
    let bl : a * D * L ≡ a * L * D = mul_right_comm a D L in
    let x : g * c * t * D ≤ (a * L * t + a * L) * D = mul-le-mul_right D h.0 in
    let y : a * L * t * D ≤ (g * c * t + a * L) * D = mul-le-mul_right D h.1 in (
      le_of_mul-le-mul_right {k = L} (omega (arith, add-mul (a * D * t) (a * D) L, add-mul (a * L * t) (a * L) D)) P,
      le_of_mul-le-mul_right {k = L} (omega (arith, add-mul (F * c * t) (a * D) L, add-mul (g * c * t) (a * L) D)) P,
    )
