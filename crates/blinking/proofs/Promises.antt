-- What is promised of `blinking_sites`, for any sides, full scale, spread, mask and stack.
use Prim.Native.Nat.{ℕ, ◌≤◌, ◌<◌}
use mathlib.Core.Bool.{cond}
use mathlib.Core.List.{List, [], ◌∷◌}
use mathlib.Core.Path.{◌≡◌, refl, ap, ◌∙◌}
use native.Mathlib.Nat.{le_refl, mul-zero}
use native.Mathlib.Omega.{arith}
use lib.ListN.{length, get_or, replicate, length-replicate}
use Rattle.laws.specs.First.{count_to}
use Rattle.laws.specs.Sum.{sum_to}
use Rattle.laws.proofs.Firsts.{count_ext}
use Rattle.laws.proofs.Sole.{Sole, sole}
use Rattle.laws.proofs.Sums.{sum-zero, zero_terms}
use Rattle.verdict.proofs.Verdicts.{Tabled, Refuses, refuses}
use Rattle.verdict.proofs.Answers.{paper_is_told}
use Rattle.std.specs.Prelude.{Ok}
use Rattle.window.specs.Shape.{sites_of}
use Rattle.window.specs.View.{seen, one}
use Rattle.window.proofs.Views.{seen_there, seen_counted}
use Rattle.refusals.proofs.Judges.{Masked}
use Rattle.stack.specs.State.{Stack}
use Rattle.stack.proofs.Promises.{AgreeStack, same-lengths, same-impossible}
use Rattle.stack.proofs.Sites.{lengths_clear, none_impossible, possible_zeros}
use Rattle.adding.specs.Run.{run}
use Rattle.adding.proofs.Frames.{InRange, AllInRange, range_repeated}
use Rattle.adding.proofs.Runs.{run_leaves, stack_long}
use Rattle.adding.proofs.Promises.{run_counts, run-extremes, run_accepted, run-possible}
use Rattle.blinking.specs.Blinking.{blinks, blinking_verdict, blinking_count, blinking_answer, blinking_paper_of, blinking_paper}
use Rattle.blinking.specs.Jumps.{jumps}
use Rattle.blinking.proofs.Blinkings.{is_spread, tests, table, Lent, not_refused, answer_is}
use Rattle.blinking.proofs.Counts.{fewer_blinking, blinking_surveyed, same_blinking}
use Rattle.blinking.proofs.Jumps.{blinks-jumps, equal_still}

module _ (w h full spread : ℕ) (mask : List ℕ) (s : Stack) where
  -- only: no second answer meets the promise
  pub only : Sole (blinking_answer w h full spread mask s)
  only = sole _

  -- the paper's numbers are those of the answer
  pub paper_is : blinking_paper_of (blinking_answer w h full spread mask s) ≡ blinking_paper w h full spread mask s
  unfolding blinking_answer blinking_paper
  paper_is = paper_is_told 0 (blinking_count w h spread mask s) (blinking_verdict w h full spread mask s)

  -- given: 1 to 5 and 11 exactly as document 02 i names them, in that order (`tests` has the table)
  pub given : Tabled (blinking_verdict w h full spread mask s) (tests w h full spread mask s)
  given = table w h full spread mask s

  -- refused: where the number is not 0 the count is 0, and where it is 0 so is the place
  pub refused : Refuses (blinking_paper w h full spread mask s).number (blinking_paper w h full spread mask s).place
      ((blinking_paper w h full spread mask s).figures ≡ 0)
  unfolding blinking_paper
  refused = refuses (blinking_verdict w h full spread mask s) given refl (λ r e. rw e)

  -- blind: what the stack's buffers hold at unsurveyed sites changes nothing
  pub blind : (s' : Stack) → AgreeStack mask s s' → blinking_answer w h full spread mask s ≡ blinking_answer w h full spread mask s'
  unfolding blinking_answer blinking_verdict
  blind s' a =
      rw (
        same-impossible a (sites_of w h) full,
        same-lengths a w h,
        same_blinking (sites_of w h) spread a.least a.greatest,
        a.frames,
      )

  -- none_surveyed: where no site is surveyed, what 1 to 5 let pass gets the count 0: there is no 7, and 11 asks nothing there
  pub none_surveyed : Lent w h full spread mask s → sum_to (sites_of w h) (one mask) ≡ 0 → blinking_answer w h full spread mask s ≡ Ok 0
  unfolding blinking_answer
  none_surveyed lent none =
      let possible = none_impossible (sites_of w h) full mask s
      (λ i l. rw (unseen s.sums i l, unseen s.squares i l, unseen s.least i l, unseen s.greatest i l) (possible_zeros full s.frames)) in
      let count : blinking_count w h spread mask s ≡ 0 = omega (arith, blinking_surveyed (sites_of w h) spread mask s.least s.greatest) in
      rw (not_refused w h full spread mask s lent possible, count)
    where
      unseen : (buffer : List ℕ) (i : ℕ) → i < sites_of w h → seen mask buffer i ≡ 0
      unseen buffer i l =
          let most = rw (zero_terms (sites_of w h) (one mask) none i l) at (seen_counted mask buffer (seen mask buffer i) i (le_refl _)) in
          omega (arith, most, mul-zero (seen mask buffer i))

  -- of an accepted call with the count n
  module _ (n : ℕ) (answer : blinking_answer w h full spread mask s ≡ Ok n) where
    -- at a surveyed site the least is not above the greatest: no difference is cut off at 0
    pub spread_whole : (i : ℕ) → i < sites_of w h → get_or mask i 0 ≡ 0 → get_or s.least i 0 ≤ get_or s.greatest i 0
    spread_whole i l e =
        rw (shown s.least, shown s.greatest) at ((answer_is w h full spread mask s n answer).0.possible i l).ordered
      where
        shown : (buffer : List ℕ) → seen mask buffer i ≡ get_or buffer i 0
        shown buffer = seen_there mask buffer i e

    -- the spread was from 1 to 4,095, and 1 to 100 frames were in
    pub in_limits : (1 ≤ spread) × (spread ≤ 4095) × (1 ≤ s.frames) × (s.frames ≤ 100)
    in_limits =
        let lent = (answer_is w h full spread mask s n answer).0.lent in
        (lent.wide.low, lent.wide.high, lent.count.low, lent.count.high)

    -- no more sites are counted than are surveyed
    pub among_surveyed : n ≤ sum_to (sites_of w h) (one mask)
    among_surveyed = rw (answer_is w h full spread mask s n answer).1 (blinking_surveyed (sites_of w h) spread mask s.least s.greatest)

-- two spreads from 1 to 4,095, a being at most b
module _ (w h full : ℕ) (mask : List ℕ) (s : Stack) (a b : ℕ) (low : 1 ≤ a) (up : a ≤ b) (high : b ≤ 4095) where
  -- are refused alike
  pub refused_alike : blinking_verdict w h full b mask s ≡ blinking_verdict w h full a mask s
  unfolding blinking_verdict
  refused_alike = rw (is_spread b (record { low = omega arith; high = high }), is_spread a (record { low = low; high = omega arith }))

  -- fewer: at the greater one never more sites blink
  pub fewer : (m n : ℕ) → blinking_answer w h full a mask s ≡ Ok m → blinking_answer w h full b mask s ≡ Ok n → n ≤ m
  fewer m n e f =
      rw ((answer_is w h full a mask s m e).1, (answer_is w h full b mask s n f).1)
      (fewer_blinking (sites_of w h) a b mask s.least s.greatest up)

-- ---- runs of frames, from a stack of zeros, with one window, full scale and mask, at a spread from 1 to 4,095
module _ (w h full spread : ℕ) (mask : List ℕ) (legal : Masked w h full mask) (low : 1 ≤ spread) (high : spread ≤ 4095) where
  -- after 1 to 100 frames in range a site blinks exactly where it is surveyed and two of its frames differ by at least the spread
  pub run-sites : (fs : List (List ℕ)) → AllInRange (sites_of w h) full mask fs → 1 ≤ length fs → length fs ≤ 100 → (i : ℕ) → i < sites_of w h
      → let s = run w h full mask fs in
      blinks spread mask s.least s.greatest i ≡ jumps spread mask fs i
  run-sites [] ranged some few i l = absurd (omega arith)
  run-sites (f ∷ fs) ranged some few i l =
      blinks-jumps spread i mask (f ∷ fs) _ _ (run-extremes w h full mask f fs (run_accepted w h full mask legal (f ∷ fs) ranged few) i l)

  -- so the call is accepted, and counts these sites
  pub run_blinking : (fs : List (List ℕ)) → AllInRange (sites_of w h) full mask fs → 1 ≤ length fs → length fs ≤ 100
      → blinking_answer w h full spread mask (run w h full mask fs) ≡ Ok (count_to (sites_of w h) (jumps spread mask fs))
  unfolding blinking_answer
  run_blinking fs ranged some few =
      let s = run w h full mask fs in
      let count = run_counts w h full mask fs (run_accepted w h full mask legal fs ranged few) in
      let lent : Lent w h full spread mask s = record {
        wide = record { low = low; high = high };
        count = record { low = omega (arith, count); high = omega (arith, count) };
        masked = legal;
        long = rw (run_leaves w h full mask legal fs ranged few) (lengths_clear w h _ (stack_long w h full mask fs));
      } in
      rw (
        not_refused w h full spread mask s lent (run-possible w h full mask legal fs ranged few),
        count_ext (sites_of w h) (blinks spread mask s.least s.greatest) (jumps spread mask fs) (run-sites fs ranged some few),
      )

  -- so equal frames have none
  pub run_equal : (k : ℕ) (frame : List ℕ) → InRange (sites_of w h) full mask frame → 1 ≤ k → k ≤ 100
      → blinking_answer w h full spread mask (run w h full mask (replicate k frame)) ≡ Ok 0
  run_equal k frame ranged some few =
      let many = length-replicate k frame in
      run_blinking (replicate k frame) (range_repeated k ranged) (omega (arith, many)) (omega (arith, many))
      ∙ ap Ok (sum-zero (sites_of w h) (λ (i : ℕ). cond (jumps spread mask (replicate k frame) i) 1 0) (λ i l. rw (equal_still spread i low k mask frame)))
