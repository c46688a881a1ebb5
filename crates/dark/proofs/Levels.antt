-- The verdict, and what it makes of the answer.
use Prim.Native.Nat.{ℕ, ◌≤◌, ◌<◌}
use mathlib.Core.List.{List, [], ◌∷◌}
use mathlib.Core.Path.{◌≡◌, refl, sym, ap}
use native.Mathlib.Omega.{arith}
use lib.Dec.{eqb, ltb}
use lib.IntN.{ℤ}
use lib.ListN.{length}
use borrow.Author.Tests.{ltb-false, eqb-false}
use Rattle.laws.specs.Sum.{sum_to}
use Rattle.verdict.specs.Verdict.{clear, ◌⨟◌, refuse_if}
use Rattle.verdict.proofs.Verdicts.{Test, Tabled, test, tabled, tabled_none, tabled_then, then_same, then_clear, unless}
use Rattle.verdict.proofs.Answers.{was_accepted}
use Rattle.verdict.specs.declared.Refusal.{Refusal}
use Rattle.verdict.specs.declared.Refusal.TheVariants.{Sides, FullScale, Parameter, Length, TooFew}
use Rattle.std.specs.Prelude.{Ok, Err}
use Rattle.window.proofs.Walks.{walked_whole}
use Rattle.window.specs.Shape.{bad_sides, bad_scale, sites_of}
use Rattle.window.specs.Walk.{walked}
use Rattle.window.specs.View.{seen, one}
use Rattle.window.proofs.Sides.{scale}
use Rattle.refusals.specs.Judge.{other_than, frame_verdict}
use Rattle.refusals.proofs.Ranges.{samples_test}
use Rattle.refusals.proofs.Judges.{codes_test, Framed, frame_clear, frame_tabled}
use Rattle.dark.specs.declared.Level.{Level}
use Rattle.dark.specs.Dark.{above_black, dark_verdict, figures, dark_answer, paper_of, dark_paper}

module _ (w h full black : ℕ) (mask frame : List ℕ) where
  -- the tests in the order of document 01
  abbrev pub tests : List Test
  tests =
      test Sides (bad_sides w h)
      ∷ test FullScale (bad_scale full)
      ∷ test Parameter (ltb full black)
      ∷ test Length (other_than (sites_of w h) (length mask))
      ∷ test Length (other_than (sites_of w h) (length frame))
      ∷ codes_test (sites_of w h) mask
      ∷ samples_test w h full (seen mask frame ∷ []) (seen mask frame)
      ∷ test TooFew (eqb (sum_to (sites_of w h) (one mask)) 0)
      ∷ []

  pub table : Tabled (dark_verdict w h full black mask frame) tests
  unfolding dark_verdict
  table = tabled_then (frame_tabled w h full mask frame (tabled _ []) tabled_none) (tabled _ [])

  -- 7 is asked of what was counted in a whole mask: 4 comes first
  pub judged : (count : ℕ) → count ≡ sum_to (walked w h (length mask)) (one mask)
      → frame_verdict w h full (refuse_if Parameter (ltb full black)) mask frame clear ⨟ refuse_if TooFew (eqb count 0)
      ≡ dark_verdict w h full black mask frame
  unfolding dark_verdict
  judged count p =
      then_same (frame_verdict w h full (refuse_if Parameter (ltb full black)) mask frame clear)
      (λ e. rw (p, walked_whole w h (length mask) (frame_clear w h full mask frame e).2.of.masked))

  -- what an accepted call's numbers are
  pub record Accepted : Type 0 where
    pub lent : Framed w h full mask frame
    pub dark : black ≤ 4095
    pub some : 0 < sum_to (sites_of w h) (one mask)

  pub accepted : dark_verdict w h full black mask frame ≡ clear → Accepted
  unfolding dark_verdict
  accepted e =
      let both = then_clear _ _ e in
      let lent = frame_clear w h full mask frame both.0 in
      let b = ltb-false full black (unless _ (ltb full black) lent.0) in
      let s = scale full lent.2.of.scaled in
      let some = eqb-false (sum_to (sites_of w h) (one mask)) 0 (unless _ _ both.1) in
      record { lent = lent.2; dark = omega arith; some = omega arith }

  pub refused_is : (r : Refusal) → dark_verdict w h full black mask frame ≡ Err r
      → (Err r ≡ dark_answer w h full black mask frame) × (paper_of (Err r) ≡ dark_paper w h full black mask frame)
  unfolding dark_answer dark_paper
  refused_is r e = rw e (refl, refl)

  -- the level of an accepted call
  pub level_is : dark_verdict w h full black mask frame ≡ clear → (a : ℤ) (n : ℕ)
      → a ≡ above_black (sites_of w h) black (seen mask frame) (one mask) → n ≡ sum_to (sites_of w h) (one mask)
      → Ok (figures a n) ≡ dark_answer w h full black mask frame
  unfolding dark_answer
  level_is e a n p q = rw (e, p, q) refl

  -- what a level that is answered says
  pub answer_is : (a : ℤ) (n : ℕ) → dark_answer w h full black mask frame ≡ Ok (figures a n)
      → (dark_verdict w h full black mask frame ≡ clear)
      × ((a ≡ above_black (sites_of w h) black (seen mask frame) (one mask)) × (n ≡ sum_to (sites_of w h) (one mask)))
  unfolding dark_answer
  answer_is a n e =
      let was = was_accepted (dark_verdict w h full black mask frame) e in
      (was.0, (sym (ap (λ (l : Level). l.numerator) was.1), sym (ap (λ (l : Level). l.denominator) was.1)))
