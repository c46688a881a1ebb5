-- What is promised of the figures by which cameras are sorted (document 02, m), for any accepted calls of `pair_figures`.
use Prim.Native.Nat.{ℕ, ◌*◌, ◌≤◌, ◌<◌}
use mathlib.Core.List.{List}
use mathlib.Core.Path.{◌≡◌, sym, ap, ◌∙◌}
use native.Mathlib.Omega.{arith}
use lib.ListN.{length}
use Rattle.std.specs.Prelude.{Ok}
use Rattle.laws.specs.Sum.{sum_to}
use Rattle.exact.specs.Bound.{OnePattern, AtMost, ByValue}
use Rattle.exact.proofs.Quotients.{quotient-pattern}
use Rattle.exact.proofs.Noises.{variance-ranged, noise_ranged}
use Rattle.exact.proofs.Orders.{by_value}
use Rattle.exact.proofs.Ranks as ranks
use Rattle.window.specs.Shape.{sites_of}
use Rattle.window.specs.View.{one}
use Rattle.window.proofs.Views.{Drifted, seen_most, seen_shift}
use Rattle.refusals.proofs.Judges.{Framed}
use Rattle.refusals.proofs.Frames.{Readable}
use Rattle.pair.specs.Figures.{spread_of, figures_of}
use Rattle.pair.specs.Pair.{pair_spread, pair_figures, pair_answer}
use Rattle.pair.specs.declared.Spread.{Spread}
use Rattle.pair.specs.declared.PairFigures.{PairFigures}
use Rattle.pair.proofs.Spreads.{spread_swap, spread_shift}
use Rattle.pair.proofs.Accepts.{Accepted, Measurable, measured, clear_pair}
use Rattle.pair.proofs.Answers.{accepted_is, answer_is}

-- figures that are answered: of some window, full scale and mask, and two frames that the call accepts
pub record Answered (figures : PairFigures) : Type 0 where
  pub w : ℕ
  pub h : ℕ
  pub full : ℕ
  pub mask : List ℕ
  pub first : List ℕ
  pub second : List ℕ
  pub answer : pair_answer w h full mask first second ≡ Ok figures

-- ---- of any accepted calls
-- the six numbers are worked out from n and P, which are within bounds
module _ {a : PairFigures} (x : Answered a) where
  abbrev from : Spread
  from = pair_spread x.w x.h x.mask x.first x.second

  was : Accepted x.w x.h x.full x.mask x.first x.second × (a ≡ figures_of from)
  was = answer_is x.w x.h x.full x.mask x.first x.second a x.answer

  within : Measurable from
  within = measured was.0

  are : a ≡ figures_of from
  are = was.1

  -- one_pattern: each float is a number, finite and not negative, and has one pattern of bits: so equal ones are equal bit for bit
  pub one_pattern : OnePattern a.variance × OnePattern a.noise
  one_pattern = rw are (quotient-pattern _ _ (variance-ranged _ _ within), quotient-pattern _ _ (noise_ranged _ _ within))

module _ {a b : PairFigures} (x : Answered a) (y : Answered b) where
  -- by_values: `<=` of two variance floats is the order of their values, and so is that of two noise floats
  pub by_values : ByValue a.variance b.variance × ByValue a.noise b.noise
  by_values =
      let u = one_pattern x in
      let v = one_pattern y in
      (by_value _ _ u.0.is_plain v.0.is_plain, by_value _ _ u.1.is_plain v.1.is_plain)

  -- variance_rank: where the one exact variance, P/Q, is at most the other, so is its float, whatever the two n
  pub variance_rank : a.p * b.q ≤ b.p * a.q → AtMost a.variance b.variance
  variance_rank h = rw (are x, are y) (ranks.variance_rank _ _ _ _ (within x) (within y) (rw (are x, are y) at h))

  -- variance_equal: and equal ones have one float
  pub variance_equal : a.p * b.q ≡ b.p * a.q → a.variance ≡ b.variance
  variance_equal e = rw (are x, are y) (ranks.variance_equal _ _ _ _ (within x) (within y) (rw (are x, are y) at e))

  module _ (as_many : a.n ≡ b.n) where
    equally : (from x).n ≡ (from y).n
    equally = rw (are x, are y) at as_many

    -- noise_rank: at equal n, where the one exact variance is at most the other, so is its noise float
    pub noise_rank : a.p * b.q ≤ b.p * a.q → AtMost a.noise b.noise
    noise_rank h = rw (are x, are y) (ranks.noise_rank _ _ _ _ (within x) (within y) equally (rw (are x, are y) at h))

    -- equal: at equal n, equal exact variances have one answer, all six numbers
    pub equal : a.p * b.q ≡ b.p * a.q → a ≡ b
    equal e =
        let one : (from x).p ≡ (from y).p = ranks.one_numerator _ _ _ _ (within x) (within y) equally (rw (are x, are y) at e) in
        rw (are x, are y, equally, one)

-- ---- of one accepted call, and another with the same window, full scale and mask
module _ (w h full : ℕ) (mask : List ℕ) where
  -- where 1 to 6 let its frames pass, and their P is the same, so is the answer
  alike : (first second first' second' : List ℕ) (figures : PairFigures) → pair_answer w h full mask first second ≡ Ok figures
      → Readable w h full mask first' second' → (pair_spread w h mask first' second').p ≡ (pair_spread w h mask first second).p
      → pair_answer w h full mask first' second' ≡ Ok figures
  unfolding spread_of
  alike first second first' second' figures answer r e =
      let was = answer_is w h full mask first second figures answer in
      let same : pair_figures w h mask first second ≡ pair_figures w h mask first' second' = ap (λ (p : ℕ). figures_of (record { n = sum_to (sites_of w h) (one mask); p = p })) (sym e) in
      sym (accepted_is w h full mask first' second' figures (clear_pair r was.0.two) (was.1 ∙ same))

  -- swap: the two frames exchanged are accepted too, with the same answer, all six numbers
  pub swap : (first second : List ℕ) (figures : PairFigures)
      → pair_answer w h full mask first second ≡ Ok figures → pair_answer w h full mask second first ≡ Ok figures
  swap first second figures answer =
      let frames = (answer_is w h full mask first second figures answer).0.frames in
      alike first second second first figures answer (record { of_first = frames.of_second; of_second = frames.of_first }) (spread_swap mask first second (sites_of w h))

  -- one constant, up less down, added to every surveyed sample of a frame, none leaving 0 to full scale
  module _ (up down : ℕ) (frame other : List ℕ) (drifted : Drifted up down full mask frame other) where
    -- shift_first: of the first frame: an accepted pair is accepted still, with the same answer
    pub shift_first : (second : List ℕ) (figures : PairFigures)
        → pair_answer w h full mask frame second ≡ Ok figures → pair_answer w h full mask other second ≡ Ok figures
    shift_first second figures answer =
        let frames = (answer_is w h full mask frame second figures answer).0.frames in
        let whole = frames.of_first.of.masked in
        let inside : (i : ℕ) → i < sites_of w h → i < length mask = λ i l. omega arith in
        let framed : Framed w h full mask other = record {
          of = frames.of_first.of;
          framed = drifted.long ∙ frames.of_first.framed;
          range = λ i l. seen_most mask other full i (drifted.in_scale i (inside i l));
        } in
        alike frame second other second figures answer (record { of_first = framed; of_second = frames.of_second })
        (spread_shift mask frame other second up down (sites_of w h) (λ i l. seen_shift mask frame other up down i (drifted.offset i (inside i l))))

    -- shift_second: of the second: by two swaps
    pub shift_second : (first : List ℕ) (figures : PairFigures)
        → pair_answer w h full mask first frame ≡ Ok figures → pair_answer w h full mask first other ≡ Ok figures
    shift_second first figures answer = swap other first figures (shift_first first figures (swap first frame figures answer))
