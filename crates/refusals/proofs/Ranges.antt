-- Refusal 6: what it tells where it does not apply, its table and its count, and what is walked for it.
use Prim.Native.Nat.{ℕ, ◌+◌, ◌<◌, ◌≤◌}
use mathlib.Core.Bool.{true, false}
use mathlib.Core.List.{List, [], ◌∷◌}
use mathlib.Core.Path.{◌≡◌, refl, sym, ap, subst, ◌∙◌}
use native.Mathlib.Nat.{add-zero}
use native.Mathlib.Omega.{arith}
use borrow.Author.Tests.{eq-eqb, le-ltb, ltb-false}
use Rattle.laws.specs.First.{first_to, some_to, count_to}
use Rattle.laws.proofs.Firsts.{first_nowhere, nowhere_first, some_counted, counted_some}
use Rattle.verdict.specs.Verdict.{clear, ◌⨟◌}
use Rattle.verdict.proofs.Verdicts.{Test, Tabled, Counting, no_six, also, test_first, tabled, tabled_none, tabled_then, then_clear, then_end, clear_then, unless, clear_unless}
use Rattle.std.specs.Prelude.{Err}
use Rattle.verdict.specs.declared.Refusal.TheVariants.{Over}
use Rattle.window.specs.Shape.{bad_scale, sites_of}
use Rattle.window.specs.View.{above}
use Rattle.window.proofs.Walks.{walked_whole}
use Rattle.refusals.specs.Walk.{ranged}
use Rattle.refusals.specs.Judge.{over_in, samples_in_by, samples_of, samples_in, range_of}

-- 6 does not apply: nothing that is seen is above full scale, in any view
pub in_range : (n full : ℕ) (view : ℕ → ℕ) → some_to n (above full view) ≡ false → (i : ℕ) → i < n → view i ≤ full
in_range n full view e i l = ltb-false full (view i) (first_nowhere (above full view) n e i l)

pub data InRange (n full : ℕ) : List (ℕ → ℕ) → Type 0 where
  none : InRange n full []
  more : {view : ℕ → ℕ} {views : List (ℕ → ℕ)} → ((i : ℕ) → i < n → view i ≤ full) → InRange n full views → InRange n full (view ∷ views)

pub range_head : {n full : ℕ} {view : ℕ → ℕ} {views : List (ℕ → ℕ)} → InRange n full (view ∷ views) → (i : ℕ) → i < n → view i ≤ full
range_head (more low rest) = low

pub range_tail : {n full : ℕ} {view : ℕ → ℕ} {views : List (ℕ → ℕ)} → InRange n full (view ∷ views) → InRange n full views
range_tail (more low rest) = rest

module _ (over n full : ℕ) where
  pub samples_clear : (views : List (ℕ → ℕ)) → samples_in over n full views ≡ clear → InRange n full views
  unfolding samples_in_by
  samples_clear [] e = none
  samples_clear (view ∷ views) e =
      let both = then_clear (samples_of over n full view) (samples_in over n full views) e in
      more (in_range n full view (unless _ (some_to n (above full view)) both.0)) (samples_clear views both.1)

  pub clear_samples : {views : List (ℕ → ℕ)} → InRange n full views → samples_in over n full views ≡ clear
  unfolding samples_in_by
  clear_samples none = refl
  clear_samples (more {view} low rest) =
      clear_then (clear_unless _ (nowhere_first (above full view) n (λ i l. le-ltb full (view i) (low i l)))) (clear_samples rest)

  -- the table of 6
  abbrev pub range_tests : List (ℕ → ℕ) → List Test
  range_tests [] = []
  range_tests (view ∷ views) = test_first (λ (site : ℕ). Over site over) n (above full view) ∷ range_tests views

  pub samples_tabled : (views : List (ℕ → ℕ)) → Tabled (samples_in over n full views) (range_tests views)
  unfolding samples_in_by
  samples_tabled [] = tabled_none
  samples_tabled (view ∷ views) = tabled_then (tabled (test_first (λ (site : ℕ). Over site over) n (above full view)) []) (samples_tabled views)

  -- each has the count that is handed in, and applies only where that is at least 1
  counting : (views : List (ℕ → ℕ)) → over_in n full views ≤ over → Counting over (range_tests views)
  unfolding over_in
  counting [] l = no_six
  counting (view ∷ views) l =
      also refl (λ (a : some_to n (above full view) ≡ true). omega (arith, some_counted (above full view) n a)) (counting views (omega arith))

module _ (w h full : ℕ) where
  -- one view's test of 6, with the count over all views of the call
  abbrev pub samples_test : List (ℕ → ℕ) → (ℕ → ℕ) → Test
  samples_test views view = test_first (λ (site : ℕ). Over site (over_in (sites_of w h) full views)) (sites_of w h) (above full view)

  abbrev all_tests : List (ℕ → ℕ) → List Test
  all_tests views = range_tests (over_in (sites_of w h) full views) (sites_of w h) full views

  all_counting : (views : List (ℕ → ℕ)) → Counting (over_in (sites_of w h) full views) (all_tests views)
  all_counting views = counting (over_in (sites_of w h) full views) (sites_of w h) full views (omega arith)

  -- how many samples of a view are above full scale
  abbrev pub over_full : (ℕ → ℕ) → ℕ
  over_full view = count_to (sites_of w h) (above full view)

  -- what is counted over all frames is that, of one frame and of two
  over_of_one : (view : ℕ → ℕ) → over_in (sites_of w h) full (view ∷ []) ≡ over_full view
  unfolding over_in
  over_of_one view = add-zero (over_full view)

  over_of_two : (first second : ℕ → ℕ) → over_in (sites_of w h) full (first ∷ second ∷ []) ≡ over_full first + over_full second
  unfolding over_in
  over_of_two first second = ap (λ (k : ℕ). over_full first + k) (add-zero (over_full second))

  pub one_counting : (view : ℕ → ℕ) → Counting (over_full view) (all_tests (view ∷ []))
  one_counting view = subst (λ (k : ℕ). Counting k (all_tests (view ∷ []))) (over_of_one view) (all_counting (view ∷ []))

  pub two_counting : (first second : ℕ → ℕ) → Counting (over_full first + over_full second) (all_tests (first ∷ second ∷ []))
  two_counting first second =
      subst (λ (k : ℕ). Counting k (all_tests (first ∷ second ∷ []))) (over_of_two first second) (all_counting (first ∷ second ∷ []))

  -- what `samples` asks of one frame, and of two, is the range check
  pub range_one : (view : ℕ → ℕ) → samples_of (over_full view) (sites_of w h) full view ≡ range_of w h full (view ∷ [])
  unfolding samples_in_by
  range_one view = rw (over_of_one view) (sym (then_end _))

  pub range_two : (first second : ℕ → ℕ)
      → samples_of (over_full first + over_full second) (sites_of w h) full first ⨟ samples_of (over_full first + over_full second) (sites_of w h) full second
      ≡ range_of w h full (first ∷ second ∷ [])
  unfolding samples_in_by
  range_two first second = rw (over_of_two first second, then_end)

-- of a legal full scale, and of buffers of the window's length, the whole window is walked for 6
pub ranged-whole : (w h full mask frame : ℕ) → bad_scale full ≡ false → mask ≡ sites_of w h → frame ≡ sites_of w h → ranged w h full mask frame ≡ sites_of w h
unfolding ranged
ranged-whole w h full mask frame legal e f = rw (legal, eq-eqb mask frame (e ∙ sym f)) (walked_whole w h mask e)

-- where a search over the n sites ended, and something is over, 6 is given there
pub found_over : (over n m full at own : ℕ) (view : ℕ → ℕ) → m ≡ n → at ≡ first_to n (above full view) → own ≡ count_to m (above full view) → (own ≡ 0 → ⊥)
    → Err (Over at over) ≡ samples_of over m full view
found_over over n m full at own view p f e some = rw (counted_some (above full view) m (λ z. some (e ∙ z)), p, f)
