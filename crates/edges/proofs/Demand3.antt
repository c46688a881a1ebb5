-- Demand 3: for two accepted frames with n surveyed sites the exact variance is a fraction of whole numbers, no overflow, zero exactly when
-- all differences are equal. As f64 it is off by at most one part in 2^52; the noise is within 1/(32n) of a grey level of the true root, by
-- squares over whole numbers. A float is num / den, its significand times a power of two.
use Prim.Native.Nat.{ℕ, ◌*◌, ◌^◌, ◌≤◌, ◌<◌}
use mathlib.Core.List.{List}
use mathlib.Core.Path.{◌≡◌}
use lib.Dec.{T}
use lib.Ieee.{binary64, of_bits}
use lib.Ieee.Positive.{num, den}
use lib.IntN.{pos}
use lib.ListN.{length}
use Rattle.laws.specs.Sum.{sum_to}
use Rattle.exact.specs.Root.{IsRoot}
use Rattle.exact.specs.Bound.{plain, ExactFloat, CloseTo, NearRoot}
use Rattle.window.specs.Shape.{sites_of}
use Rattle.window.specs.View.{seen, one}
use Rattle.pair.specs.Figures.{difference, numerator}
use Rattle.pair.specs.Pair.{pair_paper}
use Rattle.pair.specs.declared.PairFigures.{PairFigures}
use Rattle.pair.proofs.Spreads.{SameDifference}
use Rattle.pair.proofs.Promises as pair

-- of two frames and the figures that they are answered with
pub record Demand3 (w h full : ℕ) (mask first second : List ℕ) (figures : PairFigures) : Type 0 where
  -- n counts the surveyed sites; there are at least 2, and no more than the largest window has
  pub counted : (figures.n ≡ sum_to (sites_of w h) (one mask)) × (2 ≤ figures.n) × (figures.n ≤ 16384)
  -- P = n × (sum of d²) − (sum of d)² over the signed differences d, and Q = 2 × n²
  pub exact : (pos figures.p ≡ numerator (sites_of w h) figures.n (difference (seen mask first) (seen mask second)))
      × (figures.q ≡ 2 * (figures.n * figures.n))
  -- no overflow: P is at most (n × full scale)², and P and Q stay below 2^53, so they are exact as floats too
  pub room : (figures.p ≤ figures.n * full * (figures.n * full)) × (figures.p < 2 ^ 53) × (figures.q < 2 ^ 53)
      × ExactFloat figures.p × ExactFloat figures.q
  -- zero exactly when all differences are equal
  pub zero : (figures.p ≡ 0 → SameDifference mask first second (length mask)) × (SameDifference mask first second (length mask) → figures.p ≡ 0)
  -- the variance is off P/Q by at most one part in 2^52, and 0 where P is 0
  pub variance-near : CloseTo (2 ^ 52) figures.variance figures.p figures.q
  pub variance-zero : figures.p ≡ 0 → figures.variance ≡ of_bits binary64 0
  -- r is the greatest whole number with r² ≤ 2048 × P
  pub root : IsRoot (2048 * figures.p) figures.r
  -- the noise is a number, finite and not negative; 32 × n × noise is at most 1 from the root of 512 × P, and 0 where P is 0
  pub noise_number : T (plain figures.noise)
  pub noise_near : NearRoot (512 * figures.p) (32 * figures.n * num figures.noise) (den figures.noise)
  pub noise_zero : figures.p ≡ 0 → figures.noise ≡ of_bits binary64 0

-- for any two accepted frames, of all numbers of the answer
pub demand_3 : (w h full : ℕ) (mask first second : List ℕ) → (pair_paper w h full mask first second).number ≡ 0
    → Demand3 w h full mask first second (pair_paper w h full mask first second).figures
demand_3 w h full mask first second accepted =
    let answer = pair.answered w h full mask first second accepted in
    let close = pair.noise_close w h full mask first second _ answer in
    record {
      counted = pair.counts w h full mask first second _ answer;
      exact = (pair.signed w h full mask first second _ answer, (pair.whole_numbers w h full mask first second _ answer).1);
      room = pair.in_limits w h full mask first second _ answer;
      zero = pair.flat w h full mask first second _ answer;
      variance-near = pair.near w h full mask first second _ answer;
      variance-zero = pair.none w h full mask first second _ answer;
      root = close.0;
      noise_number = close.1;
      noise_near = close.2;
      noise_zero = pair.noise_none w h full mask first second _ answer;
    }
