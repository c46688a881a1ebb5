-- The variance of a run of frames: what is left to refuse it, and why equal frames have none.
use Prim.Native.Nat.{ℕ, ◌-◌, ◌*◌, ◌≤◌, ◌<◌}
use mathlib.Core.List.{List}
use mathlib.Core.Path.{◌≡◌, ap}
use native.Mathlib.Nat.{mul_assoc, mul-mul-mul_comm}
use native.Mathlib.Omega.{arith}
use lib.ListN.{length, replicate, length-replicate}
use borrow.Author.Tests.{le-ltb, ne_eqb}
use Rattle.laws.specs.Sum.{sum_to}
use Rattle.laws.proofs.Sums.{sum-zero}
use Rattle.verdict.specs.Verdict.{Verdict, clear, ◌⨟◌, refuse_if}
use Rattle.verdict.proofs.Verdicts.{clear_then, clear_unless, then_end}
use Rattle.verdict.specs.declared.Refusal.TheVariants.{Parameter, TooFew}
use Rattle.window.specs.Shape.{bad_count, sites_of}
use Rattle.window.specs.View.{seen, one}
use Rattle.window.proofs.Sides.{is_count}
use Rattle.refusals.proofs.Judges.{Masked, parameters_left}
use Rattle.stack.specs.State.{Stack}
use Rattle.adding.specs.After.{squared}
use Rattle.adding.proofs.Frames.{over_repeated, AllInRange}
use Rattle.adding.proofs.Runs.{of_frames, sum_seen, square_seen, possible_in, stack_long}
use Rattle.variance.specs.Variance.{too_few, variance_verdict, scatter}
use Rattle.variance.proofs.Variances.{numerator_of}

module _ (w h full : ℕ) (mask : List ℕ) (legal : Masked w h full mask) where
  -- of frames in range 3 and 7 are left
  pub judged_frames : (fs : List (List ℕ)) → AllInRange (sites_of w h) full mask fs
      → variance_verdict w h full mask (of_frames w h full mask fs)
      ≡ refuse_if Parameter (bad_count (length fs)) ⨟ refuse_if TooFew (too_few (sum_to (sites_of w h) (one mask)) (length fs))
  unfolding variance_verdict
  judged_frames fs ranged =
      let three = refuse_if Parameter (bad_count (length fs)) in
      rw (parameters_left w h full mask legal (stack_long w h full mask fs), clear_unless _ (possible_in w h full mask fs ranged)) (ap (λ (v : Verdict). three ⨟ v) (then_end _))

-- neither of which refuses two frames or more with a surveyed site
pub enough_frames : (n k : ℕ) → 2 ≤ k → k ≤ 100 → 0 < n → refuse_if Parameter (bad_count k) ⨟ refuse_if TooFew (too_few n k) ≡ clear
unfolding too_few
enough_frames n k two most some =
    clear_then
    (clear_unless _ (is_count k (record { low = omega arith; high = most })))
    (clear_unless _ (rw (ne_eqb n 0 (λ e. omega arith)) (le-ltb k 2 two)))

-- k equal samples p have k × (k × p²) = (k × p)²
equal_none : (k p : ℕ) → k * (k * (p * p)) - k * p * (k * p) ≡ 0
equal_none k p = omega (arith, mul-mul-mul_comm k p k p, mul_assoc k k (p * p))

-- so the numerator of k equal frames is 0
module _ (w h full : ℕ) (mask : List ℕ) (k : ℕ) (frame : List ℕ) where
  -- the stack that they leave
  abbrev left : Stack
  left = of_frames w h full mask (replicate k frame)

  equal_site : (i : ℕ) → i < sites_of w h → left.frames * seen mask left.squares i - seen mask left.sums i * seen mask left.sums i ≡ 0
  equal_site i l =
      rw (
        length-replicate k frame,
        sum_seen w h full mask (replicate k frame) i l,
        square_seen w h full mask (replicate k frame) i l,
        over_repeated k frame (λ (f : List ℕ). seen mask f i),
        over_repeated k frame (λ (f : List ℕ). squared (seen mask f) i),
      )
      (equal_none k (seen mask frame i))

  pub equal_scatter : numerator_of (sites_of w h) mask left ≡ 0
  unfolding scatter
  equal_scatter = sum-zero (sites_of w h) (λ (i : ℕ). left.frames * seen mask left.squares i - seen mask left.sums i * seen mask left.sums i) equal_site
