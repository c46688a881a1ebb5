-- What is promised of `stack_variance`, for any sides, full scale, mask and stack, and of the variance of runs of frames.
use Prim.Native.Nat.{ℕ, ◌*◌, ◌^◌, ◌≤◌, ◌<◌}
use mathlib.Core.List.{List}
use mathlib.Core.Path.{◌≡◌, refl, ap, ◌∙◌}
use native.Mathlib.Nat.{mul-pos}
use native.Mathlib.Omega.{arith}
use lib.Dec.{leb}
use lib.Ieee.{Float}
use lib.ListN.{length, replicate, length-replicate}
use borrow.Author.Tests.{lt-leb}
use Rattle.laws.specs.Sum.{sum_to}
use Rattle.laws.proofs.Sole.{Sole, sole}
use Rattle.exact.specs.Quotient.{float_zero}
use Rattle.exact.specs.Bound.{ExactFloat, CloseTo}
use Rattle.exact.proofs.Quotients.{quotient-near, quotient-zero}
use Rattle.exact.proofs.Division.{exact_float}
use Rattle.verdict.specs.Verdict.{clear, ◌⨟◌, refuse_if}
use Rattle.verdict.proofs.Verdicts.{Tabled, Refuses, refuses, then_spare}
use Rattle.verdict.proofs.Answers.{paper_is_told, was_accepted}
use Rattle.std.specs.Prelude.{Ok}
use Rattle.verdict.specs.declared.Refusal.TheVariants.{Parameter, TooFew, TooLarge}
use Rattle.window.specs.Shape.{bad_count, sites_of}
use Rattle.window.specs.View.{seen, one}
use Rattle.window.proofs.Views.{same_view}
use Rattle.refusals.proofs.Judges.{Masked}
use Rattle.stack.specs.State.{Stack}
use Rattle.stack.proofs.Promises.{AgreeStack, same-lengths, same-impossible}
use Rattle.adding.specs.Run.{run}
use Rattle.adding.proofs.Frames.{InRange, AllInRange, range_repeated}
use Rattle.adding.proofs.Runs.{run_leaves}
use Rattle.variance.specs.declared.Variance.{Variance}
use Rattle.variance.specs.Variance.{too_few, variance_verdict, no_variance, variance_figures, variance_answer, variance_paper_of, variance_paper}
use Rattle.variance.proofs.Variances.{told, scatter_most, tests, table, accepted, exact, denominator_fits, ranged, answer_is}
use Rattle.variance.proofs.Runs.{judged_frames, enough_frames, equal_scatter}

module _ (w h full : ℕ) (mask : List ℕ) (s : Stack) where
  -- only: no second answer meets the promise
  pub variance_only : Sole (variance_answer w h full mask s)
  variance_only = sole _

  -- the paper's numbers are those of the answer
  pub variance_paper_is : variance_paper_of (variance_answer w h full mask s) ≡ variance_paper w h full mask s
  unfolding variance_answer variance_paper
  variance_paper_is = paper_is_told no_variance (variance_figures w h mask s) (variance_verdict w h full mask s)

  -- given: 1 to 5, 7 and 11 exactly as documents 01 and 02 table them, in that order (`Variances.tests` has the table)
  pub variance_given : Tabled (variance_verdict w h full mask s) (tests w h full mask s)
  variance_given = table w h full mask s

  -- refused: where the number is not 0 every figure is 0, and where it is 0 so is the place
  pub variance_refused : Refuses (variance_paper w h full mask s).number (variance_paper w h full mask s).place
      ((variance_paper w h full mask s).figures ≡ no_variance)
  unfolding variance_paper
  variance_refused = refuses (variance_verdict w h full mask s) variance_given refl (λ r e. rw e)

  -- blind: what a stack holds at unsurveyed sites changes nothing
  pub variance_blind : (s' : Stack) → AgreeStack mask s s' → variance_answer w h full mask s ≡ variance_answer w h full mask s'
  unfolding variance_answer variance_verdict
  variance_blind s' a =
      rw (same-lengths a w h, same-impossible a (sites_of w h) full, a.frames, same_view a.sums, same_view a.squares)

  -- by-sums: least and greatest are in no figure. A stack of the same count, sums and squares that is not refused has the same answer
  pub variance_by_sums : (s' : Stack) → s.frames ≡ s'.frames → s.sums ≡ s'.sums → s.squares ≡ s'.squares → variance_verdict w h full mask s' ≡ clear
      → (f : Variance) → variance_answer w h full mask s ≡ Ok f → variance_answer w h full mask s' ≡ Ok f
  unfolding variance_answer
  variance_by_sums s' k a b passed f e =
      let was = was_accepted (variance_verdict w h full mask s) e in
      rw (passed, ← k, ← a, ← b, was.1)

  -- spare: with document 01's 14, where the numerator is 2^53 or more, put last, every verdict is the same (document 02, h)
  pub variance_spare : variance_verdict w h full mask s ⨟ refuse_if TooLarge (leb (2 ^ 53) (variance_figures w h mask s).numerator) ≡ variance_verdict w h full mask s
  variance_spare =
      then_spare (variance_verdict w h full mask s) TooLarge (λ e.
      lt-leb (2 ^ 53) (variance_figures w h mask s).numerator (exact w h full mask s (accepted w h full mask s e)))

  -- of an accepted variance, of p over q and as the float x
  module _ (f : Variance) (answer : variance_answer w h full mask s ≡ Ok f) where
    abbrev p : ℕ
    p = f.numerator

    abbrev q : ℕ
    q = f.denominator

    -- whole: no s² is above its k × q, so no difference of the numerator is cut off at 0
    pub variance-whole : (i : ℕ) → i < sites_of w h → seen mask s.sums i * seen mask s.sums i ≤ s.frames * seen mask s.squares i
    variance-whole i l = ((answer_is w h full mask s f answer).0.possible i l).scatter

    -- in_limits: the numerator is at most n × (k × full scale)², so below 2^53, and so is the denominator; both are exact as floats
    pub variance_in_limits : let n = sum_to (sites_of w h) (one mask) in
        let k = s.frames in
        (p ≤ n * (k * full * (k * full))) × (p < 2 ^ 53) × (q < 2 ^ 53) × ExactFloat p × ExactFloat q
    variance_in_limits =
        let is = answer_is w h full mask s f answer in
        let most = scatter_most (sites_of w h) full mask s is.0.possible in
        let below : (p < 2 ^ 53) × (q < 2 ^ 53) = rw (is.1, is.2) (exact w h full mask s is.0, omega (arith, denominator_fits w h full mask s is.0)) in
        (rw is.1 most, below.0, below.1, exact_float p (omega (arith, below.0)), exact_float q (omega (arith, below.1)))

    -- near: the float is within one part in 2^52 of the fraction
    pub variance-near : CloseTo (2 ^ 52) f.variance p q
    variance-near =
        let is = answer_is w h full mask s f answer in
        rw (is.3, is.1, is.2) (quotient-near _ _ (ranged w h full mask s is.0))

-- ---- runs of frames, from a stack of zeros, with one window, full scale and mask
module _ (w h full : ℕ) (mask : List ℕ) (legal : Masked w h full mask) where
  -- a run of at most 100 frames in range never meets 11: with no frame in it gets 3, with one frame or no surveyed site 7
  pub run_judged : (fs : List (List ℕ)) → AllInRange (sites_of w h) full mask fs → length fs ≤ 100
      → variance_verdict w h full mask (run w h full mask fs)
      ≡ refuse_if Parameter (bad_count (length fs)) ⨟ refuse_if TooFew (too_few (sum_to (sites_of w h) (one mask)) (length fs))
  run_judged fs ranged few = rw (run_leaves w h full mask legal fs ranged few) (judged_frames w h full mask legal fs ranged)

  -- two or more frames in range, with a surveyed site, have a variance
  pub run-variance : (fs : List (List ℕ)) → AllInRange (sites_of w h) full mask fs → 2 ≤ length fs → length fs ≤ 100
      → 0 < sum_to (sites_of w h) (one mask)
      → variance_verdict w h full mask (run w h full mask fs) ≡ clear
  run-variance fs ranged two most some =
      run_judged fs ranged most ∙ enough_frames (sum_to (sites_of w h) (one mask)) (length fs) two most some

  -- and equal frames have the variance 0
  pub run_equal : (k : ℕ) (frame : List ℕ) → InRange (sites_of w h) full mask frame → 2 ≤ k → k ≤ 100
      → 0 < sum_to (sites_of w h) (one mask)
      → variance_answer w h full mask (run w h full mask (replicate k frame)) ≡ Ok (told 0 (sum_to (sites_of w h) (one mask) * (k * k)) float_zero)
  unfolding variance_answer
  run_equal k frame ranged two most some =
      let fs = replicate k frame in
      let many = length-replicate k frame in
      let all = range_repeated k ranged in
      let accepted = run-variance fs all (omega (arith, many)) (omega (arith, many)) some in
      let frames : 0 < k = omega arith in
      rw (accepted, run_leaves w h full mask legal fs all (omega (arith, many)), equal_scatter w h full mask k frame, many)
      (ap (λ (x : Float). Ok (told 0 (sum_to (sites_of w h) (one mask) * (k * k)) x)) (quotient-zero (sum_to (sites_of w h) (one mask) * (k * k)) (mul-pos some (mul-pos frames frames))))
