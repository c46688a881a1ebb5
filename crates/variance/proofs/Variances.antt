-- The verdict on a stack's variance, and what it makes of the answer.
use Prim.Native.Nat.{ℕ, ◌-◌, ◌*◌, ◌^◌, ◌≤◌, ◌<◌}
use mathlib.Core.Bool.{false}
use mathlib.Core.List.{List, [], ◌∷◌}
use mathlib.Core.Path.{◌≡◌, refl, sym, ap, ◌∙◌}
use native.Mathlib.Nat.{mul-pos, mul_comm, mul_assoc, mul_left_comm, mul-le-mul_left}
use native.Mathlib.Omega.{arith}
use lib.Dec.{eqb, ltb}
use lib.Ieee.{Float}
use lib.ListN.{length}
use borrow.Author.Tests.{ltb-false, eqb-false}
use Rattle.laws.specs.Sum.{sum_to}
use Rattle.laws.proofs.Cases.{neither, times_le}
use Rattle.laws.proofs.Sums.{sum_scaled}
use Rattle.exact.specs.Quotient.{quotient, quotient_or_zero}
use Rattle.exact.proofs.Quotients.{Ranged, ranged-quotient}
use Rattle.verdict.specs.Verdict.{clear, ◌⨟◌, refuse_if}
use Rattle.verdict.proofs.Verdicts.{Test, Tabled, test, tabled, tabled_then, then_same, then_clear, unless}
use Rattle.verdict.proofs.Answers.{was_accepted}
use Rattle.verdict.specs.declared.Refusal.{Refusal}
use Rattle.verdict.specs.declared.Refusal.TheVariants.{Sides, FullScale, Parameter, Length, TooFew, Impossible}
use Rattle.std.specs.Prelude.{Ok, Err}
use Rattle.window.specs.Shape.{bad_count, bad_sides, bad_scale, sites_of}
use Rattle.window.specs.Walk.{walked}
use Rattle.window.specs.View.{seen, one}
use Rattle.window.proofs.Sides.{frame_count, scale, sites-few}
use Rattle.window.proofs.Walks.{walked_whole}
use Rattle.window.proofs.Views.{surveyed_most, seen_counted}
use Rattle.refusals.specs.Judge.{other_than, mask_verdict}
use Rattle.refusals.proofs.Judges.{codes_test, Masked, mask_clear, mask_tabled}
use Rattle.stack.specs.State.{Stack, stack_lengths, impossible_in}
use Rattle.stack.specs.Walk.{found_impossible}
use Rattle.stack.proofs.Sites.{Lengths, lengths_clear, lengths_tabled, PossibleAt, asked-whole, all-possible}
use Rattle.variance.specs.declared.Variance.{Variance}
use Rattle.variance.specs.Variance.{too_few, variance_verdict, scatter, variance_figures, variance_answer, variance_paper_of, variance_paper}

-- a fraction and its quotient, as they are told
abbrev pub told : ℕ → ℕ → Float → Variance
told p q x = record { numerator = p; denominator = q; variance = x }

-- 7 does not apply
pub enough : (n k : ℕ) → too_few n k ≡ false → (0 < n) × (2 ≤ k)
unfolding too_few
enough n k e =
    let both = neither (eqb n 0) (ltb k 2) e in
    let some = eqb-false n 0 both.0 in
    (omega arith, ltb-false k 2 both.1)

-- the numerator and the denominator of a stack of N sites
abbrev pub numerator_of : ℕ → List ℕ → Stack → ℕ
numerator_of N mask s = scatter N s.frames (seen mask s.sums) (seen mask s.squares)

abbrev pub denominator_of : ℕ → List ℕ → Stack → ℕ
denominator_of N mask s = sum_to N (one mask) * (s.frames * s.frames)

-- the numerator of a possible stack is at most n × (k × full scale)², since no k × q is above (k × full scale)²
pub scatter_most : (N full : ℕ) (mask : List ℕ) (s : Stack) → ((i : ℕ) → i < N → PossibleAt full mask s i)
    → numerator_of N mask s ≤ sum_to N (one mask) * (s.frames * full * (s.frames * full))
unfolding scatter
scatter_most N full mask s possible =
    let n = sum_to N (one mask) in
    let most = s.frames * full * (s.frames * full) in
    let total = sum_scaled N most (one mask) (λ (i : ℕ). s.frames * seen mask s.squares i - seen mask s.sums i * seen mask s.sums i) site in
    omega (arith, total, mul_comm n most)
  where
    site : (i : ℕ) → i < N → s.frames * seen mask s.squares i - seen mask s.sums i * seen mask s.sums i ≤ s.frames * full * (s.frames * full) * one mask i
    site i l =
        let k = s.frames in
        let whole = mul-le-mul_left k (seen_counted mask s.squares (k * (full * full)) i (possible i l).square) in
        let same : k * (k * (full * full) * one mask i) ≡ k * full * (k * full) * one mask i = simp (mul_assoc, mul_comm, mul_left_comm) in
        omega (arith, whole, same)

module _ (w h full : ℕ) (mask : List ℕ) (s : Stack) where
  -- the tests in the order of documents 01 and 02
  abbrev pub tests : List Test
  tests =
      test Sides (bad_sides w h)
      ∷ test FullScale (bad_scale full)
      ∷ test Parameter (bad_count s.frames)
      ∷ test Length (other_than (sites_of w h) (length mask))
      ∷ test Length (other_than (sites_of w h) (length s.sums))
      ∷ test Length (other_than (sites_of w h) (length s.squares))
      ∷ test Length (other_than (sites_of w h) (length s.least))
      ∷ test Length (other_than (sites_of w h) (length s.greatest))
      ∷ codes_test (sites_of w h) mask
      ∷ test TooFew (too_few (sum_to (sites_of w h) (one mask)) s.frames)
      ∷ test Impossible (impossible_in (sites_of w h) full mask s)
      ∷ []

  pub table : Tabled (variance_verdict w h full mask s) tests
  unfolding variance_verdict
  table = tabled_then (mask_tabled w h full mask (tabled _ []) (lengths_tabled w h s)) (tabled _ (_ ∷ []))

  -- 7 is asked of what was counted in a whole mask, and 11 of the stack of a whole window: 4 comes first
  pub judged : (count : ℕ) → count ≡ sum_to (walked w h (length mask)) (one mask)
      → mask_verdict w h full (refuse_if Parameter (bad_count s.frames)) mask (stack_lengths w h s)
      ⨟ refuse_if TooFew (too_few count s.frames)
      ⨟ refuse_if Impossible (found_impossible full mask s)
      ≡ variance_verdict w h full mask s
  unfolding variance_verdict
  judged count n =
      then_same (mask_verdict w h full (refuse_if Parameter (bad_count s.frames)) mask (stack_lengths w h s)) (λ e.
      let lent = mask_clear w h full mask e in
      let few = (frame_count s.frames (unless _ (bad_count s.frames) lent.0)).high in
      rw (asked-whole w h full mask s lent.2 few lent.1, n, walked_whole w h (length mask) lent.2.masked))

  -- what a stack is that is not refused
  pub record Accepted : Type 0 where
    pub lent : Masked w h full mask
    pub long : Lengths w h s
    pub most : s.frames ≤ 100
    pub two : 2 ≤ s.frames
    pub some : 0 < sum_to (sites_of w h) (one mask)
    pub possible : (i : ℕ) → i < sites_of w h → PossibleAt full mask s i

  pub accepted : variance_verdict w h full mask s ≡ clear → Accepted
  unfolding variance_verdict
  accepted e =
      let both = then_clear _ _ e in
      let lent = mask_clear w h full mask both.0 in
      let stacked = then_clear _ _ both.1 in
      let some = enough (sum_to (sites_of w h) (one mask)) s.frames (unless _ _ stacked.0) in
      record {
        lent = lent.2;
        long = lengths_clear w h s lent.1;
        most = (frame_count s.frames (unless _ (bad_count s.frames) lent.0)).high;
        two = some.1;
        some = some.0;
        possible = all-possible (sites_of w h) full mask s (unless _ _ stacked.1);
      }

  -- so the quotient is of two numbers that have exact floats
  module _ (a : Accepted) where
    pub exact : numerator_of (sites_of w h) mask s < 2 ^ 53
    exact =
        let n = sum_to (sites_of w h) (one mask) in
        let k = s.frames in
        let side : k * full ≤ 100 * 4095 = times_le k full 100 4095 a.most (scale full a.lent.scaled).high in
        let square = times_le (k * full) (k * full) (100 * 4095) (100 * 4095) side side in
        let all = times_le n (k * full * (k * full)) 16384 (100 * 4095 * (100 * 4095)) (surveyed_most w h mask) square in
        omega (arith, scatter_most (sites_of w h) full mask s a.possible, all)

    frames_fit : s.frames * s.frames ≤ 10000
    frames_fit = times_le s.frames s.frames 100 100 a.most a.most

    pub denominator_fits : denominator_of (sites_of w h) mask s ≤ 16384 * 10000
    denominator_fits = times_le (sum_to (sites_of w h) (one mask)) (s.frames * s.frames) 16384 10000 (surveyed_most w h mask) frames_fit

    pub ranged : Ranged (numerator_of (sites_of w h) mask s) (denominator_of (sites_of w h) mask s)
    ranged =
        let frames : 0 < s.frames = omega (arith, a.two) in
        record { top = omega (arith, exact); some = mul-pos a.some (mul-pos frames frames); bottom = omega (arith, denominator_fits) }

  -- what a variance that is answered says
  pub answer_is : (told : Variance) → variance_answer w h full mask s ≡ Ok told
      → Accepted
      × (told.numerator ≡ numerator_of (sites_of w h) mask s)
      × (told.denominator ≡ denominator_of (sites_of w h) mask s)
      × (told.variance ≡ quotient told.numerator told.denominator)
  unfolding variance_answer
  answer_is told e =
      let was = was_accepted (variance_verdict w h full mask s) e in
      rw (← was.1) (accepted was.0, refl, refl, refl)

  -- what is answered where the verdict refuses
  pub refused_is : (r : Refusal) → variance_verdict w h full mask s ≡ Err r
      → (Err r ≡ variance_answer w h full mask s) × (variance_paper_of (Err r) ≡ variance_paper w h full mask s)
  unfolding variance_answer variance_paper
  refused_is r e = rw e (refl, refl)

  -- what is answered where the verdict is clear
  module _ (passed : variance_verdict w h full mask s ≡ clear) where
    -- what the walk of the numerator asks of it
    pub walkable : (s.frames ≤ 100) × (length mask ≤ 16384) × (length s.sums ≡ length mask) × (length s.squares ≡ length mask)
    walkable =
        let a = accepted passed in
        (a.most, omega (arith, a.lent.masked, sites-few w h), a.long.of_sums ∙ sym a.lent.masked, a.long.of_squares ∙ sym a.lent.masked)

    module _ (count : ℕ) (n : count ≡ sum_to (walked w h (length mask)) (one mask)) where
      counted : count ≡ sum_to (sites_of w h) (one mask)
      counted = n ∙ ap (λ (m : ℕ). sum_to m (one mask)) (walked_whole w h (length mask) (accepted passed).lent.masked)

      pub products_fit : (s.frames * s.frames ≤ 10000) × (count * (s.frames * s.frames) ≤ 16384 * 10000)
      products_fit = (frames_fit (accepted passed), rw counted (denominator_fits (accepted passed)))

      -- p being the numerator, and v the quotient
      pub accepted_is : (p : ℕ) (v : Float) → p ≡ numerator_of (length mask) mask s → v ≡ quotient_or_zero p (count * (s.frames * s.frames))
          → told p (count * (s.frames * s.frames)) v ≡ variance_figures w h mask s
      accepted_is p v e q =
          let numerator = e ∙ ap (λ (m : ℕ). numerator_of m mask s) (accepted passed).lent.masked in
          let one-rounding = ranged-quotient (numerator_of (sites_of w h) mask s) (denominator_of (sites_of w h) mask s) (ranged (accepted passed)) in
          rw (q, numerator, counted, one-rounding) refl
