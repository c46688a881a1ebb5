-- The verdict on a frame that is offered, and what it makes of the answer and the stack.
use Prim.Native.Nat.{ℕ, ◌+◌, ◌*◌, ◌^◌, ◌≤◌, ◌<◌}
use mathlib.Core.List.{List, [], ◌∷◌}
use mathlib.Core.Path.{◌≡◌, refl}
use native.Mathlib.Omega.{arith}
use lib.Dec.{eqb, ltb}
use lib.ListN.{length, get_or}
use borrow.Author.Tests.{ltb-false, eqb-false}
use Rattle.laws.proofs.Cases.{times_le}
use Rattle.verdict.specs.Verdict.{clear, ◌⨟◌, refuse_if}
use Rattle.verdict.specs.declared.Refusal.{Refusal}
use Rattle.verdict.proofs.Verdicts.{Test, Tabled, test, tabled, tabled_then, then_same, then_clear, unless}
use Rattle.verdict.specs.declared.Refusal.TheVariants.{Sides, FullScale, Parameter, Length, Impossible, StackFull}
use Rattle.std.specs.Prelude.{Err}
use Rattle.window.specs.Shape.{bad_sides, bad_scale, sites_of}
use Rattle.window.specs.View.{seen}
use Rattle.window.proofs.Sides.{scale}
use Rattle.window.proofs.Views.{seen_is, seen_elsewhere}
use Rattle.refusals.specs.Judge.{other_than, frame_verdict}
use Rattle.refusals.proofs.Ranges.{samples_test}
use Rattle.refusals.proofs.Judges.{codes_test, Framed, frame_clear, frame_tabled}
use Rattle.stack.specs.State.{Stack, stack_lengths, impossible_in}
use Rattle.stack.specs.Walk.{found_impossible}
use Rattle.stack.proofs.Sites.{Lengths, lengths_clear, lengths_tabled, PossibleAt, asked-whole, all-possible}
use Rattle.adding.specs.After.{squared, with_frame}
use Rattle.adding.specs.Add.{add_verdict, add_answer, add_paper_of, add_paper, add_stack}
use Rattle.adding.proofs.Turns.{leaves_room}

module _ (w h full : ℕ) (mask frame : List ℕ) (s : Stack) where
  -- the tests in the order of document 01
  abbrev pub tests : List Test
  tests =
      test Sides (bad_sides w h)
      ∷ test FullScale (bad_scale full)
      ∷ test Parameter (ltb 100 s.frames)
      ∷ test Length (other_than (sites_of w h) (length mask))
      ∷ test Length (other_than (sites_of w h) (length frame))
      ∷ test Length (other_than (sites_of w h) (length s.sums))
      ∷ test Length (other_than (sites_of w h) (length s.squares))
      ∷ test Length (other_than (sites_of w h) (length s.least))
      ∷ test Length (other_than (sites_of w h) (length s.greatest))
      ∷ codes_test (sites_of w h) mask
      ∷ samples_test w h full (seen mask frame ∷ []) (seen mask frame)
      ∷ test Impossible (impossible_in (sites_of w h) full mask s)
      ∷ test StackFull (eqb s.frames 100)
      ∷ []

  pub table : Tabled (add_verdict w h full mask frame s) tests
  unfolding add_verdict
  table = tabled_then (frame_tabled w h full mask frame (tabled _ []) (lengths_tabled w h s)) (tabled _ _)

  -- 11 is asked of a whole stack: 4 comes first
  pub judged : frame_verdict w h full (refuse_if Parameter (ltb 100 s.frames)) mask frame (stack_lengths w h s)
      ⨟ refuse_if Impossible (found_impossible full mask s)
      ⨟ refuse_if StackFull (eqb s.frames 100)
      ≡ add_verdict w h full mask frame s
  unfolding add_verdict
  judged =
      then_same (frame_verdict w h full (refuse_if Parameter (ltb 100 s.frames)) mask frame (stack_lengths w h s)) (λ e.
      let lent = frame_clear w h full mask frame e in
      rw (asked-whole w h full mask s lent.2.of (ltb-false 100 s.frames (unless _ (ltb 100 s.frames) lent.0)) lent.1))

  -- what is known of an accepted frame and the stack
  pub record Accepted : Type 0 where
    pub lent : Framed w h full mask frame
    pub long : Lengths w h s
    pub room : s.frames < 100
    pub possible : (i : ℕ) → i < sites_of w h → PossibleAt full mask s i

  pub accepted : add_verdict w h full mask frame s ≡ clear → Accepted
  unfolding add_verdict
  accepted e =
      let both = then_clear _ _ e in
      let lent = frame_clear w h full mask frame both.0 in
      let stacked = then_clear _ _ both.1 in
      let most = ltb-false 100 s.frames (unless _ (ltb 100 s.frames) lent.0) in
      let full-up = eqb-false s.frames 100 (unless _ (eqb s.frames 100) stacked.1) in
      record {
        lent = lent.2;
        long = lengths_clear w h s lent.1;
        room = omega arith;
        possible = all-possible (sites_of w h) full mask s (unless _ _ stacked.0);
      }

  -- so every sum has room for the frame's sample, and every sum of squares for its square
  module _ (a : Accepted) (i : ℕ) (l : i < length mask) where
    inside : i < sites_of w h
    inside = omega (arith, a.lent.of.masked)

    bright : full ≤ 4095
    bright = (scale full a.lent.of.scaled).high

    none : (get_or mask i 0 ≡ 0 → ⊥) → seen mask frame i ≡ 0
    none e = seen_elsewhere mask frame i e

    pub sum_room : get_or s.sums i 0 < 2 ^ 32 → get_or s.sums i 0 + seen mask frame i < 2 ^ 32
    sum_room fits =
        let p = (a.possible i inside).sum in
        let r = a.lent.range i inside in
        let most = times_le s.frames full 100 4095 (omega (arith, a.room)) bright in
        leaves_room (get_or mask i 0) (get_or s.sums i 0) (seen mask frame i) (100 * 4095 + 4095) fits
        (rw (← seen_is mask s.sums i) (omega (arith, bright))) none (omega arith)

    pub square_room : get_or s.squares i 0 < 2 ^ 32 → get_or s.squares i 0 + squared (seen mask frame) i < 2 ^ 32
    square_room fits =
        let p = (a.possible i inside).square in
        let r = times_le (seen mask frame i) (seen mask frame i) full full (a.lent.range i inside) (a.lent.range i inside) in
        let f = times_le full full 4095 4095 bright bright in
        let most = times_le s.frames (full * full) 99 (4095 * 4095) (omega (arith, a.room)) f in
        leaves_room (get_or mask i 0) (get_or s.squares i 0) (squared (seen mask frame) i) (100 * (4095 * 4095)) fits
        (rw (← seen_is mask s.squares i) (omega arith)) (λ e. rw (none e)) (omega arith)

  -- what a refused frame leaves, and an accepted one
  pub refused_stack : (r : Refusal) → add_verdict w h full mask frame s ≡ Err r → add_stack w h full mask frame s ≡ s
  unfolding add_stack
  refused_stack r e = rw e

  pub accepted_stack : add_verdict w h full mask frame s ≡ clear → add_stack w h full mask frame s ≡ with_frame mask frame s
  unfolding add_stack
  accepted_stack e = rw e

  -- so the answer, its numbers and the four buffers are those that are defined
  pub refused_is : (r : Refusal) → add_verdict w h full mask frame s ≡ Err r
      → (Err r ≡ add_answer w h full mask frame s)
      × ((add_paper_of (Err r) ≡ add_paper w h full mask frame s)
      × ((s.sums ≡ (add_stack w h full mask frame s).sums)
      × ((s.squares ≡ (add_stack w h full mask frame s).squares)
      × ((s.least ≡ (add_stack w h full mask frame s).least) × (s.greatest ≡ (add_stack w h full mask frame s).greatest)))))
  unfolding add_answer add_paper add_stack
  refused_is r e = rw e (refl, (refl, (refl, (refl, (refl, refl)))))
