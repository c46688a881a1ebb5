-- Document 02, m: buyers sort cameras by our floats. Among windows with equally many surveyed sites a greater exact variance never gets a smaller variance
-- or noise float, and equal ones get equal figures; neither changes when the two frames are swapped, or when one constant is added to every surveyed sample
-- of a frame and none leaves 0 to full scale. Every call here is an accepted call of `pair_figures`. Its exact variance is P/Q, and Q is above 0.
-- Two are compared by crossed products: P/Q ≤ P'/Q' is P × Q' ≤ P' × Q. That n counts the surveyed sites, and that P and Q are those of document 01, is said by
-- `counted` and `exact` of Demand3; that these are the numbers a caller gets, by `numbers` of Demand1.
use Prim.Native.Nat.{ℕ, ◌*◌, ◌≤◌}
use mathlib.Core.List.{List}
use mathlib.Core.Path.{◌≡◌}
use Rattle.std.specs.Prelude.{Ok}
use Rattle.exact.specs.Bound.{OnePattern, AtMost, ByValue}
use Rattle.window.proofs.Views.{Drifted}
use Rattle.pair.specs.Pair.{pair_answer}
use Rattle.pair.specs.declared.PairFigures.{PairFigures}
use Rattle.pair.proofs.RankPromises.{Answered}
use Rattle.pair.proofs.RankPromises as pair

-- of two answers, a and b, each for a window, full scale, mask and frames of its own
pub record Ranked (a b : PairFigures) : Type 0 where
  -- at equal n: where the exact variance of a is at most that of b, so is its variance float, and so is its noise float
  pub rank : a.n ≡ b.n → a.p * b.q ≤ b.p * a.q → AtMost a.variance b.variance × AtMost a.noise b.noise
  -- at equal n: where the exact variances are equal, so are all six numbers, the floats bit for bit (by `one_pattern`)
  pub equal : a.n ≡ b.n → a.p * b.q ≡ b.p * a.q → a ≡ b
  -- at any two n: of the variance float alone both hold
  pub variance_rank : a.p * b.q ≤ b.p * a.q → AtMost a.variance b.variance
  pub variance_equal : a.p * b.q ≡ b.p * a.q → a.variance ≡ b.variance
  -- `<=`, by which a program sorts, is the order of the values
  pub by_values : ByValue a.variance b.variance × ByValue a.noise b.noise

pub record Ranking : Type 0 where
  -- any two answers are ranked so
  pub ranked : (a b : PairFigures) → Answered a → Answered b → Ranked a b
  -- both floats of an answer are numbers, finite and not negative, each with one pattern of bits
  pub one_pattern : (a : PairFigures) → Answered a → OnePattern a.variance × OnePattern a.noise
  -- the two frames swapped are accepted exactly where they were, and then the answer is the same, all six numbers
  pub swap : (w h full : ℕ) (mask first second : List ℕ) (figures : PairFigures)
      → (pair_answer w h full mask first second ≡ Ok figures → pair_answer w h full mask second first ≡ Ok figures)
      × (pair_answer w h full mask second first ≡ Ok figures → pair_answer w h full mask first second ≡ Ok figures)
  -- with one constant, up less down, added to every surveyed sample of the first frame, or of the second, and none leaving 0 to full scale,
  -- a pair that was accepted is accepted, and the answer is the same, all six numbers
  pub shift : (w h full up down : ℕ) (mask frame other : List ℕ) → Drifted up down full mask frame other → (kept : List ℕ) (figures : PairFigures)
      → (pair_answer w h full mask frame kept ≡ Ok figures → pair_answer w h full mask other kept ≡ Ok figures)
      × (pair_answer w h full mask kept frame ≡ Ok figures → pair_answer w h full mask kept other ≡ Ok figures)

pub ranking : Ranking
ranking = record {
  ranked = λ a b x y. record {
    rank = λ as_many h. (pair.variance_rank x y h, pair.noise_rank x y as_many h);
    equal = pair.equal x y;
    variance_rank = pair.variance_rank x y;
    variance_equal = pair.variance_equal x y;
    by_values = pair.by_values x y;
  };
  one_pattern = λ a x. pair.one_pattern x;
  swap = λ w h full mask first second figures. (pair.swap w h full mask first second figures, pair.swap w h full mask second first figures);
  shift = λ w h full up down mask frame other drifted kept figures.
      (pair.shift_first w h full mask up down frame other drifted kept figures, pair.shift_second w h full mask up down frame other drifted kept figures);
}
