-- Demand 3's bounds, over P and n. The noise is near because r is at most 1 below the root of 2048P, and one rounding moves r / 64n
-- by far less than another 1 / 64n.
use Prim.Native.Nat.{ℕ, ◌+◌, ◌-◌, ◌*◌, ◌^◌, ◌≤◌, ◌<◌}
use mathlib.Core.Logic.{⊎_elim}
use mathlib.Core.Path.{◌≡◌, ap, ◌∙◌}
use native.Mathlib.Nat.{le_of_lt, mul_comm, mul_assoc, mul-mul-mul_comm, mul-le-mul, mul-le-mul_right, mul-pos, add-mul}
use native.Mathlib.Omega.{arith}
use lib.Dec.{T}
use lib.Ieee.{Float, le}
use lib.Ieee.Positive.{num, den}
use Rattle.laws.proofs.Cases.{lt_or_ge}
use Rattle.laws.proofs.Squares.{square_twice}
use Rattle.exact.specs.Root.{root, IsRoot}
use Rattle.exact.specs.Quotient.{quotient, float_zero}
use Rattle.exact.specs.Bound.{plain, CloseTo, NearRoot}
use Rattle.exact.proofs.Roots.{root_is, root_under, root-zero, root_mono}
use Rattle.exact.proofs.Rounding.{Within, apart-within}
use Rattle.exact.proofs.Quotients.{Ranged, quotient_close, quotient-near, quotient-zero, quotient_mono}

-- P / 2n²
abbrev pub variance : ℕ → ℕ → Float
variance P n = quotient P (2 * (n * n))

-- r / 64n, r the root of 2048P
abbrev pub noise : ℕ → ℕ → Float
noise P n = quotient (root (2048 * P)) (64 * n)

-- the pairs that are measured: P has an exact float, and n counts some sites, of which there are not too many
pub record Measured (P n : ℕ) : Type 0 where
  pub exact : P < 2 ^ 53
  pub some : 0 < n
  pub few : n ≤ 2 ^ 26

pub variance-ranged : (P n : ℕ) → Measured P n → Ranged P (2 * (n * n))
variance-ranged P n m =
    record { top = omega (arith, m.exact); some = omega (arith, mul-pos m.some m.some); bottom = omega (arith, mul-le-mul m.few m.few) }

pub variance-near : (P n : ℕ) → Measured P n → CloseTo (2 ^ 52) (variance P n) P (2 * (n * n))
variance-near P n m = quotient-near P (2 * (n * n)) (variance-ranged P n m)

pub variance-plain : (P n : ℕ) → Measured P n → T (plain (variance P n))
variance-plain P n m = (variance-near P n m).is_plain

root_small : (P : ℕ) → P < 2 ^ 53 → root (2048 * P) < 2 ^ 32
root_small P h = root_under (2048 * P) (2 ^ 32) (omega arith)

pub noise_ranged : (P n : ℕ) → Measured P n → Ranged (root (2048 * P)) (64 * n)
noise_ranged P n m =
    record { top = omega (arith, root_small P m.exact); some = omega (arith, m.some); bottom = omega (arith, m.few) }

-- on whole numbers: g / d, which is 2a / d, is within one part of r
near-root : (P r a d g : ℕ) → IsRoot (2048 * P) r → r < 2 ^ 32 → g ≡ 2 * a → Within (2 ^ 53) g (r * d) → NearRoot (512 * P) a d
near-root P r a d g i s e w =
    let y = r * d in
    let yd : y ≤ 2 ^ 32 * d = mul-le-mul_right d (le_of_lt s) in
    let up : (r + 1) * d ≤ 2 * (a + d) = omega (arith, add-mul r 1 d, w.1) in
    let dn : 2 * (a - d) ≤ y = omega (arith, w.0) in
    let dd = d * d in
    let q : 2048 * P * dd ≡ 4 * (512 * P * dd) = omega (arith, mul_assoc 2048 P dd, mul_assoc 512 P dd) in
    let hi : 2048 * P * dd ≤ (r + 1) * (r + 1) * dd = mul-le-mul_right dd (le_of_lt i.high) in
    let lo : r * r * dd ≤ 2048 * P * dd = mul-le-mul_right dd i.low in
    record {
      not_above = omega (arith, square_twice (a - d), mul-le-mul dn dn, mul-mul-mul_comm r d r d);
      not_below = omega (arith, square_twice (a + d), mul-le-mul up up, mul-mul-mul_comm (r + 1) d (r + 1) d);
    }

-- 32 × n × noise is at most 1 from the root of 512 × P
pub noise_near : (P n : ℕ) → Measured P n → NearRoot (512 * P) (32 * n * num (noise P n)) (den (noise P n))
noise_near P n m =
    let r = root (2048 * P) in
    let x = noise P n in
    let e : num x * (64 * n) ≡ 2 * (32 * n * num x) = omega (arith, mul_comm (num x) (64 * n), mul_assoc 64 n (num x), mul_assoc 32 n (num x)) in
    near-root P r (32 * n * num x) (den x) (num x * (64 * n)) (root_is (2048 * P)) (root_small P m.exact) e
    (apart-within (2 ^ 53) (num x * (64 * n)) (r * den x) (quotient_close r (64 * n) (noise_ranged P n m)).near)

pub noise_plain : (P n : ℕ) → Measured P n → T (plain (noise P n))
noise_plain P n m = (quotient_close (root (2048 * P)) (64 * n) (noise_ranged P n m)).is_plain

pub noise_zero : (n : ℕ) → 0 < n → noise 0 n ≡ float_zero
noise_zero n h = ap (λ (r : ℕ). quotient r (64 * n)) root-zero ∙ quotient-zero (64 * n) (omega arith)

-- at as many sites, a greater P has no smaller figure
pub noise_mono : (P P' n : ℕ) → 0 < n → P ≤ P' → T (le (noise P n) (noise P' n))
noise_mono P P' n h k =
    let some : 0 < 64 * n = omega arith in
    quotient_mono (root (2048 * P)) (64 * n) (root (2048 * P')) (64 * n) some some
    (mul-le-mul_right (64 * n) (root_mono (2048 * P) (2048 * P') (omega arith)))

-- where P is at most m², r is at most 45.2608 × m (64 × 0.7072), since 45.2608² is above 2048
pub root_most : (P m : ℕ) → P ≤ m * m → 10000 * root (2048 * P) ≤ 452608 * m
root_most P m h = ⊎_elim (λ l. absurd (above l)) (λ g. g) (lt_or_ge (452608 * m) (10000 * root (2048 * P)))
  where
    above : 452608 * m < 10000 * root (2048 * P) → ⊥
    above l =
        let r = root (2048 * P) in
        let some : 0 < r = omega arith in
        omega (
          arith,
          h,
          mul-pos some some,
          (root_is (2048 * P)).low,
          mul-le-mul (le_of_lt l) (le_of_lt l),
          mul-mul-mul_comm 452608 m 452608 m,
          mul-mul-mul_comm 10000 r 10000 r,
        )
