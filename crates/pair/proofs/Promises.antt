-- What is promised of `pair_figures`, for any numbers, any mask and any two frames.
use Prim.Native.Nat.{ℕ, ◌*◌, ◌^◌, ◌≤◌, ◌<◌, ◌+◌}
use mathlib.Core.List.{List}
use mathlib.Core.Path.{◌≡◌, refl, sym, ◌∙◌}
use native.Mathlib.Nat.{mul-mul-mul_comm}
use native.Mathlib.Omega.{arith}
use lib.Dec.{T, leb}
use lib.Ieee.{binary64, of_bits, le}
use lib.Ieee.Positive.{num, den}
use lib.IntN.{pos}
use lib.ListN.{length, get_or}
use borrow.Author.Tests.{lt-leb}
use Rattle.laws.specs.First.{count_to}
use Rattle.laws.specs.Sum.{sum_to}
use Rattle.laws.proofs.Cases.{times_le}
use Rattle.laws.proofs.Signeds.{⊖-self}
use Rattle.laws.proofs.Sole.{Sole, sole}
use Rattle.exact.specs.Root.{root, IsRoot}
use Rattle.exact.specs.Quotient.{quotient}
use Rattle.exact.specs.Bound.{plain, ExactFloat, CloseTo, NearRoot}
use Rattle.exact.proofs.Roots.{root_is, root_under}
use Rattle.exact.proofs.Quotients.{quotient-zero, quotient_mono, zero_bits}
use Rattle.exact.proofs.Division.{exact_float}
use Rattle.exact.proofs.Noises.{variance-ranged, variance-near, noise_near, noise_plain, noise_zero, root_most}
use Rattle.verdict.specs.Verdict.{◌⨟◌, refuse_if}
use Rattle.verdict.proofs.Verdicts.{Tabled, RefusesCounting, refuses_counting, zero_clear, then_spare}
use Rattle.std.specs.Prelude.{Ok}
use Rattle.verdict.specs.declared.Refusal.TheVariants.{TooLarge}
use Rattle.window.specs.Shape.{sites_of}
use Rattle.window.specs.View.{seen, one, above}
use Rattle.window.proofs.Views.{Agree, same_view}
use Rattle.refusals.specs.Judge.{frames_verdict}
use Rattle.refusals.proofs.Ranges.{two_counting}
use Rattle.pair.specs.Figures.{difference, numerator, spread_of, no_figures}
use Rattle.pair.specs.Pair.{pair_spread, pair_verdict, pair_figures, pair_answer, paper_of, pair_paper}
use Rattle.pair.specs.declared.PairFigures.{PairFigures}
use Rattle.pair.proofs.Spreads.{SameDifference, whole, zero_same, same-zero}
use Rattle.pair.proofs.Accepts.{Accepted, tests, table, spread_most, spread_greatest, accepted, measured}
use Rattle.pair.proofs.Answers.{answer_is, paper_of_answer}

module _ (w h full : ℕ) (mask first second : List ℕ) where
  -- only: no second answer meets the promise
  pub only : Sole (pair_answer w h full mask first second)
  only = sole _

  -- the paper's numbers are those of the answer
  pub paper_is : paper_of (pair_answer w h full mask first second) ≡ pair_paper w h full mask first second
  paper_is = paper_of_answer w h full mask first second refl

  -- given: 1, 2 and 4 to 7 exactly as document 01 tables them, in that order (`tests` has the table)
  pub given : Tabled (pair_verdict w h full mask first second) (tests w h full mask first second)
  given = table w h full mask first second

  -- refused: where the number is not 0 every other number but place and over is 0, and where it is 0 so is the place. Where it is 6, over is
  -- at least 1 and just the count of surveyed samples above full scale, over both frames; else it is 0
  pub refused : RefusesCounting (pair_paper w h full mask first second) (count_to (sites_of w h) (above full (seen mask first)) + count_to (sites_of w h) (above full (seen mask second)))
      ((pair_paper w h full mask first second).figures ≡ no_figures)
  unfolding pair_paper
  refused = refuses_counting (pair_verdict w h full mask first second) given refl refl (two_counting w h full (seen mask first) (seen mask second)) (λ r e. rw e)

  -- spare: with document 01's 14, where P is 2^53 or more, put last, every verdict is the same (document 02, h)
  pub spare : pair_verdict w h full mask first second ⨟ refuse_if TooLarge (leb (2 ^ 53) (pair_spread w h mask first second).p)
      ≡ pair_verdict w h full mask first second
  spare = then_spare (pair_verdict w h full mask first second) TooLarge (λ e. lt-leb (2 ^ 53) (pair_spread w h mask first second).p (accepted e).exact)

  -- answered: where the number is 0 the answer is the paper's figures
  pub answered : (pair_paper w h full mask first second).number ≡ 0
      → pair_answer w h full mask first second ≡ Ok (pair_paper w h full mask first second).figures
  unfolding pair_answer pair_paper
  answered e = rw (zero_clear (pair_verdict w h full mask first second) given refl e)

-- ---- of an accepted call
module _ (w h full : ℕ) (mask first second : List ℕ) (figures : PairFigures)
    (answer : pair_answer w h full mask first second ≡ Ok figures) where
  passed : Accepted w h full mask first second
  passed = (answer_is w h full mask first second figures answer).0

  are : figures ≡ pair_figures w h mask first second
  are = (answer_is w h full mask first second figures answer).1

  -- n is the count of surveyed sites, from 2 to all sites of the largest window
  pub counts : (figures.n ≡ sum_to (sites_of w h) (one mask)) × (2 ≤ figures.n) × (figures.n ≤ 16384)
  unfolding spread_of
  counts = rw are (refl, passed.two, passed.few)

  -- P is that of the definition, and Q is 2 × n²
  pub whole_numbers : (figures.p ≡ (pair_spread w h mask first second).p) × (figures.q ≡ 2 * (figures.n * figures.n))
  whole_numbers = rw are (refl, refl)

  -- in_range: Q is from 8 to 2^29 and r at most 3,036,259,044; as floats, the variance is at most full scale² / 2 and the noise at most 0.7072 × full scale
  pub in_range : (8 ≤ figures.q) × (figures.q ≤ 2 ^ 29) × (figures.r ≤ 3036259044)
      × T (le figures.variance (quotient (full * full) 2))
      × T (le figures.noise (quotient (7072 * full) 10000))
  in_range =
      let s = pair_spread w h mask first second in
      let most = spread_most w h full mask first second passed.frames in
      let low = times_le 2 2 s.n s.n passed.two passed.two in
      let high = times_le s.n s.n 16384 16384 passed.few passed.few in
      rw are (
        omega (arith, low),
        omega (arith, high),
        omega (arith, root_under (2048 * s.p) 3036259045 (omega (arith, spread_greatest w h full mask first second passed.frames))),
        quotient_mono s.p (2 * (s.n * s.n)) (full * full) 2 (omega (arith, low)) (omega arith) (omega (arith, most, mul-mul-mul_comm s.n full s.n full)),
        quotient_mono (root (2048 * s.p)) (64 * s.n) (7072 * full) 10000 (omega (arith, passed.two)) (omega arith) (omega (arith, root_most s.p (s.n * full) most)),
      )

  -- in_limits: P is at most (n × full scale)², so below 2^53, and so is Q; both are exact as floats
  pub in_limits : (figures.p ≤ figures.n * full * (figures.n * full)) × (figures.p < 2 ^ 53) × (figures.q < 2 ^ 53)
      × ExactFloat figures.p × ExactFloat figures.q
  in_limits =
      let small : figures.p < 2 ^ 53 = rw are passed.exact in
      let q-small : figures.q < 2 ^ 53 = omega (arith, in_range.1) in
      (rw are (spread_most w h full mask first second passed.frames), small, q-small, exact_float figures.p (omega (arith, small)), exact_float figures.q (omega (arith, q-small)))

  -- P is n × (sum of d²) − (sum of d)² over signed differences
  pub signed : pos figures.p ≡ numerator (sites_of w h) figures.n (difference (seen mask first) (seen mask second))
  unfolding spread_of
  signed = rw are (whole mask first second (sites_of w h))

  -- it is 0 exactly where the differences at all surveyed sites are equal
  pub flat : (figures.p ≡ 0 → SameDifference mask first second (length mask)) × (SameDifference mask first second (length mask) → figures.p ≡ 0)
  flat = rw (are, passed.frames.of_first.of.masked) (zero_same mask first second (sites_of w h), same-zero mask first second (sites_of w h))

  -- the variance is within one part in 2^52 of P/Q
  pub near : CloseTo (2 ^ 52) figures.variance figures.p figures.q
  near = rw are (variance-near _ _ (measured passed))

  -- and 0 where P is 0
  pub none : figures.p ≡ 0 → figures.variance ≡ of_bits binary64 0
  none z =
      rw (are, sym whole_numbers.0 ∙ z)
      (quotient-zero _ (variance-ranged _ _ (measured passed)).some ∙ sym zero_bits)

  -- r is the greatest whole number with r² ≤ 2048 × P; the noise is a number, finite and not negative, and 32 × n × noise is at most 1 from the root of 512 × P
  pub noise_close : IsRoot (2048 * figures.p) figures.r
      × T (plain figures.noise)
      × NearRoot (512 * figures.p) (32 * figures.n * num figures.noise) (den figures.noise)
  noise_close =
      let P = (pair_spread w h mask first second).p in
      rw are (root_is (2048 * P), noise_plain P _ (measured passed), noise_near P _ (measured passed))

  -- and where P is 0 the noise is 0
  pub noise_none : figures.p ≡ 0 → figures.noise ≡ of_bits binary64 0
  noise_none z = rw (are, sym whole_numbers.0 ∙ z) (noise_zero _ (measured passed).some ∙ sym zero_bits)

-- blind: what a frame holds at a site that is not surveyed changes no answer, no count either
pub blind : (w h full : ℕ) {mask first first' second second' : List ℕ} → Agree mask first first' → Agree mask second second'
    → pair_answer w h full mask first second ≡ pair_answer w h full mask first' second'
unfolding pair_answer pair_verdict frames_verdict
blind w h full a b = rw (a.long, b.long, same_view a, same_view b)

-- twice: one buffer given twice has P = 0, and both floats are 0
pub twice : (w h full : ℕ) (mask frame : List ℕ) (figures : PairFigures) → pair_answer w h full mask frame frame ≡ Ok figures
    → (figures.p ≡ 0) × (figures.variance ≡ of_bits binary64 0) × (figures.noise ≡ of_bits binary64 0)
twice w h full mask frame figures answer =
    let zero = (flat w h full mask frame frame figures answer).1 (λ i j k l a b. ⊖-self (get_or frame i 0) ∙ sym (⊖-self (get_or frame j 0))) in
    (zero, none w h full mask frame frame figures answer zero, noise_none w h full mask frame frame figures answer zero)
