-- Newton's steps to the root of x: from any r above 0, half of r + x / r is at the root or above it, and it is below r for as long as r is above the root.
use Prim.Native.Nat.{ℕ, suc, ◌+◌, ◌-◌, ◌*◌, ◌/◌, ◌%◌, ◌^◌, ◌≤◌, ◌<◌}
use mathlib.Core.Path.{◌≡◌, refl, sym, subst}
use native.Mathlib.Nat.{le_trans, le_of_eq, lt_of_lt_of_le, mul-le-mul, div-lt_iff_lt-mul, le-div_iff_mul-le}
use native.Mathlib.Omega.{arith}
use lib.Pow.{pow_mono, pow-add, pow-lt, pow_pos}
use lib.Count.{count_leading_zeros, leading_length}
use Rattle.laws.proofs.Squares.{four_times, square_twice}
use Rattle.exact.specs.Root.{IsRoot}

step_above : (x r : ℕ) → 0 < r → x < ((r + x / r) / 2 + 1) * ((r + x / r) / 2 + 1)
step_above x r R =
    let q = x / r in
    let m = (r + q) / 2 + 1 in
    let b : x < suc q * r = (div-lt_iff_lt-mul R).0 (omega arith) in
    let s : suc q + r ≤ 2 * m = omega arith in
    let w : (suc q + r) * (suc q + r) ≤ 2 * m * (2 * m) = mul-le-mul s s in
    omega (arith, four_times (suc q) r, square_twice m)

-- the first guess is 2 ^ guess x: half of x's digits, rounded up
abbrev pub guess : ℕ → ℕ
guess x = (65 - count_leading_zeros 64 x) / 2

half_length : (x z m : ℕ) → z + m ≡ 64 → x < 2 ^ m → (x < 2 ^ ((65 - z) / 2) * 2 ^ ((65 - z) / 2)) × ((65 - z) / 2 ≤ 32)
half_length x z m e h =
    let s = (65 - z) / 2 in
    let t : m ≤ s + s = omega arith in
    (lt_of_lt_of_le h (le_trans (pow_mono t) (le_of_eq (pow-add 2 s s))), omega arith)

pub guess_above : (x : ℕ) → x < 2 ^ 64 → (x < 2 ^ guess x * 2 ^ guess x) × (guess x ≤ 32)
guess_above x h = let l = leading_length 64 x h in half_length x (count_leading_zeros 64 x) l.0 l.1 l.2

guess_shift : (s : ℕ) → s ≤ 32 → (1 * 2 ^ s) % 2 ^ 64 ≡ 2 ^ s
guess_shift s h = grind (arith, pow-lt {i = s} {j = 64} (omega arith))

-- the loop: r is at the root or above it, and q is x / r
pub record Stage (x r q : ℕ) : Type 0 where
  pub quot : q ≡ x / r
  pub some : 0 < r
  pub above : x < (r + 1) * (r + 1)
  pub small : r ≤ 2 ^ 32

at_least_one : (x r : ℕ) → 0 < x → x < (r + 1) * (r + 1) → 0 < r
at_least_one x r X h = grind arith

pub stage_first : (x : ℕ) → 0 < x → x < 2 ^ 64 → Stage x ((1 * 2 ^ guess x) % 2 ^ 64) (x / ((1 * 2 ^ guess x) % 2 ^ 64))
stage_first x X h =
    let g = guess_above x h in
    let r = 2 ^ guess x in
    let wider : r ≤ r + 1 = omega arith in
    subst (λ (r : ℕ). Stage x r (x / r)) (sym (guess_shift (guess x) g.1))
    (record { quot = refl; some = pow_pos (guess x); above = lt_of_lt_of_le g.0 (mul-le-mul wider wider); small = pow_mono g.1 })

pub stage_next : (x r q : ℕ) → 0 < x → Stage x r q → q ≤ r → Stage x ((r + q) / 2) (x / ((r + q) / 2))
stage_next x r q X s h =
    let a : x < ((r + q) / 2 + 1) * ((r + q) / 2 + 1) = rw s.quot (step_above x r s.some) in
    record { quot = refl; some = at_least_one x ((r + q) / 2) X a; above = a; small = omega (arith, s.small) }

pub stage_done : (x r q : ℕ) → Stage x r q → r ≤ q → IsRoot x r
stage_done x r q s h = record { low = (le-div_iff_mul-le s.some).0 (le_trans h (le_of_eq s.quot)); high = s.above }
