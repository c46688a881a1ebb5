-- The verdict, over the direction, and what it makes of the answer, its numbers and the buffer.
use Prim.Native.Nat.{ℕ, ◌*◌, ◌≤◌, ◌<◌}
use mathlib.Core.List.{List, [], ◌∷◌}
use mathlib.Core.Path.{◌≡◌, refl, ap}
use native.Mathlib.Nat.{mul-le-mul}
use native.Mathlib.Omega.{arith}
use lib.Dec.{ltb}
use lib.ListN.{length}
use borrow.Author.Tests.{ltb-false}
use Rattle.laws.specs.Table.{tabulate}
use Rattle.verdict.specs.Verdict.{Verdict, clear, ◌⨟◌, refuse_if}
use Rattle.verdict.proofs.Verdicts.{Test, Tabled, test, tabled, tabled_none, tabled_then, then_clear, unless}
use Rattle.verdict.proofs.Answers.{was_accepted}
use Rattle.verdict.specs.declared.Refusal.{Refusal}
use Rattle.verdict.specs.declared.Refusal.TheVariants.{Sides, FullScale, Length, TooSmall}
use Rattle.std.specs.Prelude.{Ok, Err}
use Rattle.window.specs.declared.Lines as window
use Rattle.window.specs.declared.Lines.TheVariants.{Rows, Columns}
use Rattle.window.specs.Shape.{bad_sides, bad_scale, sites_of}
use Rattle.window.specs.Walk.{walked}
use Rattle.window.specs.View.{seen, one}
use Rattle.window.proofs.Sides as legal
use Rattle.window.proofs.Walks.{walked_whole}
use Rattle.refusals.specs.Judge.{other_than, frame_verdict}
use Rattle.refusals.proofs.Chains.{length_clear}
use Rattle.refusals.proofs.Ranges.{samples_test}
use Rattle.refusals.proofs.Judges.{codes_test, Framed, frame_clear, frame_lent, frame_tabled}
use Rattle.lines.specs.Lines.{Lines, mark_at}
use Rattle.lines.specs.Walk.{lined}
use Rattle.lines.specs.Marks.{marks_of, lines_verdict, lines_answer, paper_of, lines_paper, lines_buffer}

-- no plane has more than 64 lines
pub few_lines : (way : window.Lines) (w h : ℕ) → legal.Sides w h → (lined way w h).count ≤ 64
few_lines Columns w h it = omega (arith, it.wide.high)
few_lines Rows w h it = omega (arith, it.high.high)

-- how many marks are needed is asked of legal sides alone, so of no more lines than a plane has: 1 comes first
pub judged : (way : window.Lines) (w h full : ℕ) (mask frame : List ℕ) (marks needed : ℕ)
    → ((lined way w h).count ≤ 64 → needed ≡ marks_of (lined way w h))
    → frame_verdict w h full clear mask frame (refuse_if Length (other_than needed marks)) ⨟ refuse_if TooSmall (ltb (lined way w h).count 9)
    ≡ lines_verdict (lined way) w h full mask frame marks
unfolding lines_verdict
judged way w h full mask frame marks needed few =
    ap (λ (v : Verdict). v ⨟ refuse_if TooSmall (ltb (lined way w h).count 9))
    (frame_lent w h full mask frame clear
    (λ it. ap (λ (n : ℕ). refuse_if Length (other_than n marks)) (few (few_lines way w h (legal.sides w h it)))))

module _ (lines : ℕ → ℕ → Lines) (w h full : ℕ) (mask frame : List ℕ) (marks : ℕ) where
  -- the tests in the order of document 01
  abbrev pub tests : List Test
  tests =
      test Sides (bad_sides w h)
      ∷ test FullScale (bad_scale full)
      ∷ test Length (other_than (sites_of w h) (length mask))
      ∷ test Length (other_than (sites_of w h) (length frame))
      ∷ test Length (other_than (marks_of (lines w h)) marks)
      ∷ codes_test (sites_of w h) mask
      ∷ samples_test w h full (seen mask frame ∷ []) (seen mask frame)
      ∷ test TooSmall (ltb (lines w h).count 9)
      ∷ []

  pub table : Tabled (lines_verdict lines w h full mask frame marks) tests
  unfolding lines_verdict
  table = tabled_then (frame_tabled w h full mask frame tabled_none (tabled _ [])) (tabled _ [])

  -- what an accepted call's numbers are
  pub record Accepted : Type 0 where
    pub lent : Framed w h full mask frame
    pub legal : legal.Sides w h
    pub marked : marks ≡ marks_of (lines w h)
    pub nine : 9 ≤ (lines w h).count

  pub accepted : lines_verdict lines w h full mask frame marks ≡ clear → Accepted
  unfolding lines_verdict
  accepted e =
      let both = then_clear _ _ e in
      let lent = frame_clear w h full mask frame both.0 in
      record {
        lent = lent.2;
        legal = legal.sides w h lent.2.of.legal;
        marked = length_clear (marks_of (lines w h)) marks lent.1;
        nine = ltb-false (lines w h).count 9 (unless _ _ both.1);
      }

  pub done_clear : lines_answer lines w h full mask frame marks ≡ Ok tt → lines_verdict lines w h full mask frame marks ≡ clear
  unfolding lines_answer
  done_clear e = (was_accepted (lines_verdict lines w h full mask frame marks) e).0

-- so there is what marking needs
pub ready : (way : window.Lines) (w h full : ℕ) (mask frame : List ℕ) (marks n : ℕ)
    → lines_verdict (lined way) w h full mask frame marks ≡ clear → n ≡ (lined way w h).count
    → (n ≡ (lined way w h).count) × (9 ≤ n) × (n ≤ 64) × (marks ≡ 4 * n)
    × (0 < walked w h (length mask)) × (0 < walked w h (length frame))
ready way w h full mask frame marks n e c =
    let a = accepted (lined way) w h full mask frame marks e in
    let some = mul-le-mul a.legal.high.low a.legal.wide.low in
    let few = few_lines way w h a.legal in (
      c,
      omega (arith, a.nine),
      omega arith,
      omega (arith, a.marked),
      omega (arith, walked_whole w h (length mask) a.lent.of.masked, a.legal.sites),
      omega (arith, walked_whole w h (length frame) a.lent.framed, a.legal.sites),
    )

module _ (lines : ℕ → ℕ → Lines) (w h full : ℕ) (mask frame marks : List ℕ) where
  pub refused_is : (r : Refusal) → lines_verdict lines w h full mask frame (length marks) ≡ Err r
      → (Err r ≡ lines_answer lines w h full mask frame (length marks))
      × ((paper_of (Err r) ≡ lines_paper lines w h full mask frame (length marks)) × (marks ≡ lines_buffer lines w h full mask frame marks))
  unfolding lines_answer lines_paper lines_buffer
  refused_is r e = rw e (refl, (refl, refl))

  pub accepted_is : lines_verdict lines w h full mask frame (length marks) ≡ clear
      → (Ok tt ≡ lines_answer lines w h full mask frame (length marks))
      × ((paper_of (Ok tt) ≡ lines_paper lines w h full mask frame (length marks))
      × (tabulate (length marks) (mark_at (lines w h) w h (one mask) (seen mask frame)) ≡ lines_buffer lines w h full mask frame marks))
  unfolding lines_answer lines_paper lines_buffer
  accepted_is e = rw e (refl, (refl, refl))
