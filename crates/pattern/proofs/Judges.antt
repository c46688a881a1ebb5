-- The tests in the order of document 01, why the code may ask the later ones of whole buffers, what an accepted call has passed, and what the verdict makes of the answer.
use Prim.Native.Nat.{ℕ, zero, suc, ◌*◌, ◌<◌, ◌≤◌}
use mathlib.Core.Bool.{false, not}
use mathlib.Core.List.{List, [], ◌∷◌}
use mathlib.Core.Path.{◌≡◌, refl, sym, ap, ◌∙◌}
use native.Mathlib.Omega.{arith}
use lib.Dec.{ltb}
use lib.ListN.{length, get_or}
use borrow.Author.Tests.{eqb-true, lt-ltb, ltb-false, ne_eqb, not-false}
use Rattle.laws.specs.First.{some_to}
use Rattle.laws.specs.Table.{held}
use Rattle.laws.proofs.Firsts.{first_nowhere, first_ext}
use Rattle.verdict.specs.Verdict.{clear, ◌⨟◌, refuse_if}
use Rattle.verdict.specs.declared.Refusal.{Refusal}
use Rattle.verdict.proofs.Verdicts.{Test, Tabled, test, tabled, tabled_then, then_same, then_clear, moved_on, unless}
use Rattle.verdict.proofs.Answers.{was_accepted, paper_is_told}
use Rattle.verdict.specs.declared.Refusal.TheVariants.{Sides, FullScale, Parameter, Length, Unsurveyed, TooSmall, Impossible}
use Rattle.std.specs.Prelude.{Result, Ok, Err}
use Rattle.window.specs.Shape.{bad_count, bad_sides, bad_scale, sites_of}
use Rattle.window.specs.View.{code_above, surveyed, seen, above}
use Rattle.window.proofs.Sides.{frame_count, Scale, sides, scale}
use Rattle.window.proofs.Sides as legal
use Rattle.window.proofs.Views.{seen_is, seen_in}
use Rattle.refusals.specs.Judge.{other_than, length_of, mask_verdict}
use Rattle.refusals.proofs.Chains.{length_clear}
use Rattle.refusals.proofs.Ranges.{in_range}
use Rattle.refusals.proofs.Judges.{codes_test, mask_clear, mask_tabled}
use Rattle.window.specs.declared.Lines as window
use Rattle.pattern.specs.Lines.{Lines, line_total}
use Rattle.pattern.specs.Figures.{no_figures}
use Rattle.pattern.specs.Pattern.{unsurveyed, pattern_verdict, pattern_figures, pattern_answer, paper_of, pattern_paper}
use Rattle.pattern.specs.Walk.{lined, line_of, Accepted}
use Rattle.pattern.specs.declared.Figures.{Figures}
use Rattle.pattern.proofs.Totals.{count_is, total_ext}
use Rattle.pattern.proofs.Figuring.{figures_ext}

-- a code is above 0 where it is not surveyed
pub some_unsurveyed : (n : ℕ) (mask : List ℕ) → some_to n (code_above 0 mask) ≡ some_to n (unsurveyed mask)
some_unsurveyed n mask = ap (λ (i : ℕ). ltb i n) (first_ext n (code_above 0 mask) (unsurveyed mask) (λ i l. by (get_or mask i 0)))
  where
    by : (code : ℕ) → ltb 0 code ≡ not (surveyed code)
    by zero = refl
    by (suc code) = rw (lt-ltb 0 (suc code) (omega arith), ne_eqb (suc code) 0 (λ e. omega arith))

-- 8 does not apply: every code is 0
pub all-surveyed : (n : ℕ) (mask : List ℕ) → some_to n (unsurveyed mask) ≡ false → (i : ℕ) → i < n → get_or mask i 0 ≡ 0
all-surveyed n mask e i l =
    eqb-true (get_or mask i 0) 0 (not-false (surveyed (get_or mask i 0)) (first_nowhere (unsurveyed mask) n e i l))

-- so every sum is seen
pub sums_seen : (n : ℕ) (mask sums : List ℕ) → some_to n (unsurveyed mask) ≡ false → (i : ℕ) → i < n → held sums i ≡ seen mask sums i
sums_seen n mask sums e i l = sym (seen_is mask sums i ∙ seen_in (get_or mask i 0) (held sums i) (all-surveyed n mask e i l))

-- past 1 to 5
module _ (w h full k : ℕ) (mask sums : List ℕ)
    (passed : mask_verdict w h full (refuse_if Parameter (bad_count k)) mask (length_of w h (length sums)) ≡ clear) where
  -- the most that a sum can be is a product of two numbers within their limits
  pub in_limits : (full ≤ 4095) × (k ≤ 100)
  in_limits = let lent = mask_clear w h full mask passed in ((scale full lent.2.scaled).high, (frame_count k (unless _ (bad_count k) lent.0)).high)

  -- 8 and 11 are asked of whole buffers, and 11 of sums without their codes
  pub judged_after : (way : window.Lines)
      → refuse_if Unsurveyed (some_to (length mask) (code_above 0 mask))
      ⨟ refuse_if TooSmall (ltb (line_of way h w) 12)
      ⨟ refuse_if Impossible (some_to (length sums) (above (k * full) (held sums)))
      ≡ pattern_verdict (lined way) w h full k mask sums
  unfolding pattern_verdict
  judged_after way =
      let lent = mask_clear w h full mask passed in
      rw (passed, some_unsurveyed (length mask) mask, lent.2.masked, length_clear (sites_of w h) (length sums) lent.1, count_is way w h)
      (then_same (refuse_if Unsurveyed (some_to (sites_of w h) (unsurveyed mask))) (λ u.
      ap (λ (n : ℕ). refuse_if TooSmall (ltb (line_of way h w) 12) ⨟ refuse_if Impossible (ltb n (sites_of w h)))
      (first_ext (sites_of w h) (above (k * full) (held sums)) (above (k * full) (seen mask sums))
      (λ i j. ap (ltb (k * full)) (sums_seen (sites_of w h) mask sums (unless _ (some_to (sites_of w h) (unsurveyed mask)) u) i j)))))

module _ (way : window.Lines) (w h full k : ℕ) (mask sums : List ℕ) where
  -- so the whole chain may ask them so, and 11 of a product that is formed only within the limits
  pub judged : (most : ℕ) → (full ≤ 4095 → k ≤ 100 → most ≡ k * full)
      → mask_verdict w h full (refuse_if Parameter (bad_count k)) mask (length_of w h (length sums))
      ⨟ refuse_if Unsurveyed (some_to (length mask) (code_above 0 mask))
      ⨟ refuse_if TooSmall (ltb (line_of way h w) 12)
      ⨟ refuse_if Impossible (some_to (length sums) (above most (held sums)))
      ≡ pattern_verdict (lined way) w h full k mask sums
  unfolding pattern_verdict
  judged most product =
      then_same (mask_verdict w h full (refuse_if Parameter (bad_count k)) mask (length_of w h (length sums))) (λ e.
      let limits = in_limits w h full k mask sums e in
      rw (product limits.0 limits.1) (judged_after w h full k mask sums e way ∙ sym (moved_on _ (sym e))))

module _ (lines : ℕ → ℕ → Lines) (w h full k : ℕ) (mask sums : List ℕ) where
  -- the tests in the order of document 01
  abbrev pub tests : List Test
  tests =
      test Sides (bad_sides w h)
      ∷ test FullScale (bad_scale full)
      ∷ test Parameter (bad_count k)
      ∷ test Length (other_than (sites_of w h) (length mask))
      ∷ test Length (other_than (sites_of w h) (length sums))
      ∷ codes_test (sites_of w h) mask
      ∷ test Unsurveyed (some_to (sites_of w h) (unsurveyed mask))
      ∷ test TooSmall (ltb (lines w h).count 12)
      ∷ test Impossible (some_to (sites_of w h) (above (k * full) (seen mask sums)))
      ∷ []

  pub table : Tabled (pattern_verdict lines w h full k mask sums) tests
  unfolding pattern_verdict
  table = tabled_then (mask_tabled w h full mask (tabled _ []) (tabled _ [])) (tabled _ _)

-- what an accepted call has passed
pub record Clean (way : window.Lines) (w h full k : ℕ) (mask sums : List ℕ) : Type 0 where
  pub legal : legal.Sides w h
  pub range : Scale full
  pub some : 1 ≤ k
  pub enough : 12 ≤ line_of way h w
  pub fair : Accepted w h full k sums
  pub whole : (i : ℕ) → i < h * w → held sums i ≡ seen mask sums i

module _ (way : window.Lines) (w h full k : ℕ) (mask sums : List ℕ) where
  pub clean : pattern_verdict (lined way) w h full k mask sums ≡ clear → Clean way w h full k mask sums
  unfolding pattern_verdict
  clean e =
      let n = sites_of w h in
      let all = then_clear _ _ e in
      let lent = mask_clear w h full mask all.0 in
      let surveyed = then_clear (refuse_if Unsurveyed (some_to n (unsurveyed mask))) _ all.1 in
      let last = then_clear (refuse_if TooSmall (ltb (lined way w h).count 12)) _ surveyed.1 in
      let legal = sides w h lent.2.legal in
      let range = scale full lent.2.scaled in
      let count = frame_count k (unless _ (bad_count k) lent.0) in
      let seeing : (i : ℕ) → i < h * w → held sums i ≡ seen mask sums i =
      λ i l. sums_seen n mask sums (unless _ (some_to n (unsurveyed mask)) surveyed.0) i (omega (arith, legal.sites)) in
      let most : (i : ℕ) → i < h * w → seen mask sums i ≤ k * full =
      λ i l. in_range n (k * full) (seen mask sums) (unless _ (some_to n (above (k * full) (seen mask sums))) last.1) i (omega (arith, legal.sites)) in
      record {
        legal = legal;
        range = range;
        some = count.low;
        enough = rw (← count_is way w h) (ltb-false (lined way w h).count 12 (unless _ (ltb (lined way w h).count 12) last.0));
        fair = record {
          wide = legal.wide.high;
          high = legal.high.high;
          scale = range.high;
          frames = count.high;
          long = length_clear n (length sums) lent.1 ∙ legal.sites;
          possible = λ i l. rw (seeing i l) (most i l);
        };
        whole = seeing;
      }

  -- the figures are of the sums as they are seen
  pub figures_seen : Clean way w h full k mask sums
      → pattern_figures (lined way w h) full k (held sums) ≡ pattern_figures (lined way w h) full k (seen mask sums)
  figures_seen c =
      figures_ext (lined way w h).count (line_total (lined way w h) (held sums)) (line_total (lined way w h) (seen mask sums))
      (rw (count_is way w h) c.enough) (total_ext way w h (held sums) (seen mask sums) c.whole) ((lined way w h).long * k * full)

module _ (lines : ℕ → ℕ → Lines) (w h full k : ℕ) (mask sums : List ℕ) where
  pub refused_is : (r : Refusal) → pattern_verdict lines w h full k mask sums ≡ Err r
      → (Err r ≡ pattern_answer lines w h full k mask sums) × (paper_of (Err r) ≡ pattern_paper lines w h full k mask sums)
  unfolding pattern_answer pattern_paper
  refused_is r e = rw e (refl, refl)

  pub accepted_is : (figures : Figures) → pattern_verdict lines w h full k mask sums ≡ clear → figures ≡ pattern_figures (lines w h) full k (seen mask sums)
      → Ok figures ≡ pattern_answer lines w h full k mask sums
  unfolding pattern_answer
  accepted_is figures e f = rw (e, f) refl

  -- what figures that are answered say
  pub answer_is : (figures : Figures) → pattern_answer lines w h full k mask sums ≡ Ok figures
      → (pattern_verdict lines w h full k mask sums ≡ clear) × (figures ≡ pattern_figures (lines w h) full k (seen mask sums))
  unfolding pattern_answer
  answer_is figures e = let was = was_accepted (pattern_verdict lines w h full k mask sums) e in (was.0, sym was.1)

  -- the paper's numbers are those of the answer
  pub paper_of_answer : {r : Result Figures Refusal} → r ≡ pattern_answer lines w h full k mask sums → paper_of r ≡ pattern_paper lines w h full k mask sums
  unfolding pattern_answer pattern_paper
  paper_of_answer e = ap paper_of e ∙ paper_is_told no_figures (pattern_figures (lines w h) full k (seen mask sums)) (pattern_verdict lines w h full k mask sums)
