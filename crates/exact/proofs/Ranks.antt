-- Document 02, m, over P and n: two exact variances P / 2n² and P' / 2n'², and the floats that they get. One rounding keeps the order of fractions, and so does a root.
use Prim.Native.Nat.{ℕ, ◌*◌, ◌≤◌}
use mathlib.Core.Path.{◌≡◌, sym}
use native.Mathlib.Nat.{le_antisymm, le_of_eq, le_of_mul-le-mul_right}
use Rattle.exact.specs.Bound.{AtMost}
use Rattle.exact.proofs.Quotients.{quotient_mono, quotient-same}
use Rattle.exact.proofs.Orders.{at_most}
use Rattle.exact.proofs.Noises.{variance, noise, Measured, variance-ranged, variance-plain, noise_plain, noise_mono}

module _ (P n P' n' : ℕ) (m : Measured P n) (m' : Measured P' n') where
  -- of the variances, whatever n and n'
  pub variance_rank : P * (2 * (n' * n')) ≤ P' * (2 * (n * n)) → AtMost (variance P n) (variance P' n')
  variance_rank h =
      at_most (variance P n) (variance P' n') (variance-plain P n m) (variance-plain P' n' m')
      (quotient_mono P (2 * (n * n)) P' (2 * (n' * n')) (variance-ranged P n m).some (variance-ranged P' n' m').some h)

  pub variance_equal : P * (2 * (n' * n')) ≡ P' * (2 * (n * n)) → variance P n ≡ variance P' n'
  variance_equal e = quotient-same P (2 * (n * n)) P' (2 * (n' * n')) (variance-ranged P n m).some (variance-ranged P' n' m').some e

  -- at as many sites the order is that of P and P'
  module _ (as_many : n ≡ n') where
    numerators : P * (2 * (n' * n')) ≤ P' * (2 * (n * n)) → P ≤ P'
    numerators h = le_of_mul-le-mul_right (rw as_many at h) (variance-ranged P' n' m').some

    -- and so of the noise
    pub noise_rank : P * (2 * (n' * n')) ≤ P' * (2 * (n * n)) → AtMost (noise P n) (noise P' n')
    noise_rank h =
        at_most (noise P n) (noise P' n') (noise_plain P n m) (noise_plain P' n' m')
        (rw as_many (noise_mono P P' n' m'.some (numerators h)))

-- so at as many sites equal variances have one P
pub one_numerator : (P n P' n' : ℕ) → Measured P n → Measured P' n' → n ≡ n' → P * (2 * (n' * n')) ≡ P' * (2 * (n * n)) → P ≡ P'
one_numerator P n P' n' m m' e h =
    le_antisymm (numerators P n P' n' m m' e (le_of_eq h)) (numerators P' n' P n m' m (sym e) (le_of_eq (sym h)))
