-- What is promised of `stack_add`, for any sides, full scale, frame and stack, and of runs of frames.
use Prim.Native.Nat.{ℕ, ◌+◌, ◌*◌, ◌≤◌, ◌<◌}
use mathlib.Core.Bool.{false, true}
use mathlib.Core.List.{List, [], ◌∷◌}
use mathlib.Core.Path.{◌≡◌, refl, sym, ap, ◌∙◌, fun_ext}
use native.Mathlib.Omega.{arith}
use lib.ListN.{length, get_or}
use Rattle.laws.specs.First.{count_to}
use Rattle.laws.specs.Greatest.{lesser, greater}
use Rattle.laws.proofs.Greatests.{lesser_choice, greater_choice}
use Rattle.laws.proofs.Tables.{get_d_tabulate}
use Rattle.laws.proofs.Sole.{Sole, sole}
use Rattle.verdict.specs.Verdict.{Verdict, clear, if_clear}
use Rattle.verdict.specs.declared.Refusal.{Refusal}
use Rattle.verdict.proofs.Verdicts.{Tabled, RefusesCounting, refuses_counting, never_given}
use Rattle.verdict.proofs.Answers.{counted_is_told}
use Rattle.std.specs.Prelude.{Ok, Err}
use Rattle.window.specs.Shape.{sites_of}
use Rattle.window.specs.View.{surveyed, seen, above}
use Rattle.window.proofs.Views.{Agree, same_view, seen_there, seen_elsewhere}
use Rattle.refusals.specs.Judge.{frame_verdict_by}
use Rattle.refusals.proofs.Ranges.{one_counting}
use Rattle.refusals.proofs.Judges.{Masked}
use Rattle.stack.specs.State.{Stack, impossible_in}
use Rattle.stack.proofs.Promises.{AgreeStack, same-lengths, same-impossible}
use Rattle.adding.specs.After.{with_frame}
use Rattle.adding.specs.Add.{add_verdict, add_answer, add_paper_of, add_paper, add_stack}
use Rattle.adding.specs.Run.{run, run_verdict, over_frames}
use Rattle.adding.proofs.Turns.{extreme_out, renewed-same, renewed_keeps}
use Rattle.adding.proofs.Adds as adds
use Rattle.adding.proofs.Frames.{over_ext, Reordered, as_many, AllInRange, range_order}
use Rattle.adding.proofs.Extremes.{ExtremeOf, extreme_is}
use Rattle.adding.proofs.Runs.{sum_at, square_at, extreme_in, sum_out, square_out, extreme_none, run_is, run_clear, run_leaves, possible_in, taken, same_stack}

-- ---- adding a frame
-- what a stack holds at a site is the same in two stacks
pub record SameAt (i : ℕ) (s s' : Stack) : Type 0 where
  pub sum : get_or s.sums i 0 ≡ get_or s'.sums i 0
  pub square : get_or s.squares i 0 ≡ get_or s'.squares i 0
  pub least : get_or s.least i 0 ≡ get_or s'.least i 0
  pub greatest : get_or s.greatest i 0 ≡ get_or s'.greatest i 0

module _ (w h full : ℕ) (mask frame : List ℕ) (s : Stack) where
  -- only: no second answer and no second final stack meets the promise
  pub add_only : Sole (add_answer w h full mask frame s) × Sole (add_stack w h full mask frame s)
  add_only = (sole _, sole _)

  -- the paper's numbers are those of the answer
  pub add_paper_is : add_paper_of (add_answer w h full mask frame s) ≡ add_paper w h full mask frame s
  unfolding add_answer add_paper
  add_paper_is = counted_is_told 0 (s.frames + 1) (add_verdict w h full mask frame s)

  -- given: 1 to 6, 11 and 12 exactly as documents 01 and 02 table them, in that order (`Adds.tests` has the table)
  pub add_given : Tabled (add_verdict w h full mask frame s) (adds.tests w h full mask frame s)
  add_given = adds.table w h full mask frame s

  -- refused: where the number is not 0 the frame count that is answered is 0 and the stack is as it was, all four buffers, and where it is 0 so is the place.
  -- Where it is 6, over is at least 1 and just the count of surveyed samples above full scale; else it is 0
  pub add_refused : RefusesCounting (add_paper w h full mask frame s) (count_to (sites_of w h) (above full (seen mask frame)))
      (((add_paper w h full mask frame s).figures ≡ 0) × (add_stack w h full mask frame s ≡ s))
  unfolding add_paper add_stack
  add_refused = refuses_counting (add_verdict w h full mask frame s) add_given refl refl (one_counting w h full (seen mask frame)) (λ r e. rw e (refl, refl))

  -- other sites' numbers stay, whatever is answered
  pub add_keeps : (i : ℕ) → (get_or mask i 0 ≡ 0 → ⊥) → SameAt i (add_stack w h full mask frame s) s
  unfolding add_stack
  add_keeps i out = by (add_verdict w h full mask frame s)
    where
      none : seen mask frame i ≡ 0
      none = seen_elsewhere mask frame i out

      by : (v : Verdict) → SameAt i (if_clear v (with_frame mask frame s) s) s
      by (Ok _) = record {
        sum = renewed_keeps _ s.sums i (omega (arith, none));
        square = renewed_keeps _ s.squares i (rw none (omega arith));
        least = renewed_keeps _ s.least i (extreme_out lesser s.frames (get_or mask i 0) (get_or s.least i 0) (seen mask frame i) out);
        greatest = renewed_keeps _ s.greatest i (extreme_out greater s.frames (get_or mask i 0) (get_or s.greatest i 0) (seen mask frame i) out);
      }
      by (Err r) = record { sum = refl; square = refl; least = refl; greatest = refl }

  -- blind: what a frame or a stack holds at unsurveyed sites changes nothing of the answer, no count either, nor what is written at surveyed ones
  module _ (frame' : List ℕ) (s' : Stack) (f : Agree mask frame frame') (a : AgreeStack mask s s') where
    same_verdict : add_verdict w h full mask frame s ≡ add_verdict w h full mask frame' s'
    unfolding add_verdict frame_verdict_by
    same_verdict = rw (same-impossible a (sites_of w h) full, same-lengths a w h, a.frames, f.long, same_view f)

    pub add_blind : add_answer w h full mask frame s ≡ add_answer w h full mask frame' s'
    unfolding add_answer
    add_blind = rw (same_verdict, a.frames)

    pub add_blind_stack : (i : ℕ) → surveyed (get_or mask i 0) ≡ true → SameAt i (add_stack w h full mask frame s) (add_stack w h full mask frame' s')
    unfolding add_stack
    add_blind_stack i inside = rw same_verdict (by (add_verdict w h full mask frame' s'))
      where
        by : (v : Verdict) → SameAt i (if_clear v (with_frame mask frame s) s) (if_clear v (with_frame mask frame' s') s')
        by (Ok _) = rw (same_view f, a.frames) (record {
          sum = renewed-same _ s.sums s'.sums i a.sums.long (a.sums.same i inside);
          square = renewed-same _ s.squares s'.squares i a.squares.long (a.squares.same i inside);
          least = renewed-same _ s.least s'.least i a.least.long (a.least.same i inside);
          greatest = renewed-same _ s.greatest s'.greatest i a.greatest.long (a.greatest.same i inside);
        })
        by (Err r) = record { sum = a.sums.same i inside; square = a.squares.same i inside; least = a.least.same i inside; greatest = a.greatest.same i inside }

-- ---- runs of frames, from a stack of zeros, with one window, full scale and mask
module _ (w h full : ℕ) (mask : List ℕ) where
  -- a frame that is refused leaves the stack as it was, all four buffers and the count
  pub run_refused : (s : Stack) (frame : List ℕ) (r : Refusal) → add_verdict w h full mask frame s ≡ Err r → add_stack w h full mask frame s ≡ s
  run_refused s frame r e = adds.refused_stack w h full mask frame s r e

  module _ (fs : List (List ℕ)) (clear : run_verdict w h full mask fs ≡ clear) where
    -- accepted frames are counted
    pub run_counts : (run w h full mask fs).frames ≡ length fs
    run_counts = ap (λ (s : Stack). s.frames) (run_is w h full mask fs clear)

    sample : (i : ℕ) → get_or mask i 0 ≡ 0 → (f : List ℕ) → seen mask f i ≡ get_or f i 0
    sample i e f = seen_there mask f i e

    -- the sums are each surveyed site's sum, and sum of squares, of the frames' samples
    pub run-sums : (i : ℕ) → i < sites_of w h → get_or mask i 0 ≡ 0
        → (get_or (run w h full mask fs).sums i 0 ≡ over_frames fs (λ (f : List ℕ). get_or f i 0))
        × (get_or (run w h full mask fs).squares i 0 ≡ over_frames fs (λ (f : List ℕ). get_or f i 0 * get_or f i 0))
    run-sums i l e =
        rw (run_is w h full mask fs clear, get_d_tabulate (sites_of w h) (sum_at mask fs) i l, get_d_tabulate (sites_of w h) (square_at mask fs) i l)
        (over_ext fs (sample i e), over_ext fs (λ f. ap (λ (p : ℕ). p * p) (sample i e f)))

    -- and all four are 0 at all other sites
    pub run_others : (i : ℕ) → i < sites_of w h → (get_or mask i 0 ≡ 0 → ⊥)
        → (get_or (run w h full mask fs).sums i 0 ≡ 0)
        × (get_or (run w h full mask fs).squares i 0 ≡ 0)
        × (get_or (run w h full mask fs).least i 0 ≡ 0)
        × (get_or (run w h full mask fs).greatest i 0 ≡ 0)
    run_others i l out =
        rw (
          run_is w h full mask fs clear,
          get_d_tabulate (sites_of w h) (sum_at mask fs) i l,
          get_d_tabulate (sites_of w h) (square_at mask fs) i l,
          get_d_tabulate (sites_of w h) (extreme_in mask fs lesser) i l,
          get_d_tabulate (sites_of w h) (extreme_in mask fs greater) i l,
        )
        (sum_out mask fs i out, square_out mask fs i out, extreme_none mask fs lesser_choice i out, extreme_none mask fs greater_choice i out)

  -- of a run of one frame or more, at a surveyed site: no frame has a sample below the least and some frame has it, and so of the greatest
  pub run-extremes : (f : List ℕ) (fs : List (List ℕ)) → run_verdict w h full mask (f ∷ fs) ≡ clear → (i : ℕ) → i < sites_of w h → get_or mask i 0 ≡ 0
      → ExtremeOf (λ (x y : ℕ). x ≤ y) (f ∷ fs) (λ (g : List ℕ). get_or g i 0) (get_or (run w h full mask (f ∷ fs)).least i 0)
      × ExtremeOf (λ (x y : ℕ). y ≤ x) (f ∷ fs) (λ (g : List ℕ). get_or g i 0) (get_or (run w h full mask (f ∷ fs)).greatest i 0)
  run-extremes f fs clear i l e =
      let sampled = fun_ext (sample (f ∷ fs) clear i e) in
      rw (
        run_is w h full mask (f ∷ fs) clear,
        get_d_tabulate (sites_of w h) (extreme_in mask (f ∷ fs) lesser) i l,
        get_d_tabulate (sites_of w h) (extreme_in mask (f ∷ fs) greater) i l,
        ← sampled,
      )
      (extreme_is lesser_choice (λ (g : List ℕ). seen mask g i) f fs, extreme_is greater_choice (λ (g : List ℕ). seen mask g i) f fs)

  module _ (legal : Masked w h full mask) (fs : List (List ℕ)) (ranged : AllInRange (sites_of w h) full mask fs) (few : length fs ≤ 100) where
    -- a run of at most 100 frames in range is accepted
    pub run_accepted : run_verdict w h full mask fs ≡ clear
    run_accepted = run_clear w h full mask legal fs ranged few

    -- and no call meets 11 on what it leaves
    pub run-possible : impossible_in (sites_of w h) full mask (run w h full mask fs) ≡ false
    run-possible = rw (run_leaves w h full mask legal fs ranged few) (possible_in w h full mask fs ranged)

    -- so whatever frame is offered next, it never gets 11
    pub run_next : (frame : List ℕ) → (add_paper w h full mask frame (run w h full mask fs)).number ≡ 11 → ⊥
    unfolding add_paper
    run_next frame e =
        never_given (add_verdict w h full mask frame (run w h full mask fs)) (adds.table w h full mask frame (run w h full mask fs)) (rw run-possible) (omega arith) e

  -- accepted frames are accepted in any order, and give the same stack, all four buffers
  pub run_order : (fs gs : List (List ℕ)) → Reordered fs gs → run_verdict w h full mask fs ≡ clear
      → (run_verdict w h full mask gs ≡ clear) × (run w h full mask fs ≡ run w h full mask gs)
  run_order [] [] order clear = (clear, refl)
  run_order [] (g ∷ gs) order clear = absurd (omega (arith, as_many order))
  run_order (f ∷ fs) gs order clear =
      let t = taken w h full mask f fs clear in
      let other = run_clear w h full mask t.legal gs (range_order order t.ranged) (omega (arith, as_many order, t.few)) in
      (other, run_is w h full mask (f ∷ fs) clear ∙ same_stack w h full mask order ∙ sym (run_is w h full mask gs other))
