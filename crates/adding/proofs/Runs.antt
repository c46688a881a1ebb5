-- Runs of frames from zeros: what they leave, why every run of frames in range is accepted, and why no order matters.
use Prim.Native.Nat.{ℕ, ◌+◌, ◌≤◌, ◌<◌}
use mathlib.Core.Bool.{false}
use mathlib.Core.List.{List, [], ◌∷◌}
use mathlib.Core.Logic.{⊎_elim}
use mathlib.Core.Path.{◌≡◌, refl, sym, ap, ◌∙◌}
use native.Mathlib.Numerals.{add-one}
use native.Mathlib.Omega.{arith}
use lib.ListN.{length, get_or}
use borrow.Author.Tests.{le-ltb, ne_eqb, eqb-true, eqb-false}
use Rattle.laws.specs.Greatest.{lesser, greater}
use Rattle.laws.specs.Table.{tabulate}
use Rattle.laws.proofs.Cases.{true_or_false}
use Rattle.laws.proofs.Greatests.{Choice, lesser_choice, greater_choice}
use Rattle.laws.proofs.Tables.{length-tabulate, get_d_tabulate, tabulate_ext}
use Rattle.verdict.specs.Verdict.{clear}
use Rattle.verdict.proofs.Verdicts.{then_clear, clear_then, clear_unless}
use Rattle.window.specs.Shape.{sites_of}
use Rattle.window.specs.View.{surveyed, seen}
use Rattle.window.proofs.Views.{seen_there, seen_elsewhere}
use Rattle.refusals.proofs.Judges.{Masked, clear_frame}
use Rattle.stack.specs.State.{Stack, stack_of, stack_lengths, impossible_in}
use Rattle.stack.proofs.Sites.{Possible, clear_lengths, none_impossible, possible_zeros}
use Rattle.adding.specs.After.{squared, extreme_at, extremes, with_frame}
use Rattle.adding.specs.Add.{add_verdict}
use Rattle.adding.specs.Run.{run, run_verdict, over_frames}
use Rattle.adding.proofs.Turns.{extreme_out, extreme_in_lem, renewed_table}
use Rattle.adding.proofs.Frames.{over_none, Reordered, over_order, as_many, InRange, AllInRange, none, more, first_of, rest_of}
use Rattle.adding.proofs.Extremes.{extreme_over, extreme_zeros, extreme_order, possible_more}
use Rattle.adding.proofs.Adds as adds

-- ---- what a run leaves
-- a table of what is 0 where it is not surveyed is seen as it is
shown : (mask : List ℕ) (n : ℕ) (g : ℕ → ℕ) → ((i : ℕ) → (get_or mask i 0 ≡ 0 → ⊥) → g i ≡ 0) → (i : ℕ) → i < n → seen mask (tabulate n g) i ≡ g i
shown mask n g out i l =
    ⊎_elim
    (λ t. seen_there mask (tabulate n g) i (eqb-true (get_or mask i 0) 0 t) ∙ get_d_tabulate n g i l)
    (λ t. let e = eqb-false (get_or mask i 0) 0 t in seen_elsewhere mask (tabulate n g) i e ∙ sym (out i e))
    (true_or_false (surveyed (get_or mask i 0)))

module _ (mask : List ℕ) (fs : List (List ℕ)) where
  -- at a site, of what is seen of the frames: the sum, the sum of squares, the least or the greatest
  abbrev pub sum_at : ℕ → ℕ
  sum_at i = over_frames fs (λ (f : List ℕ). seen mask f i)

  abbrev pub square_at : ℕ → ℕ
  square_at i = over_frames fs (λ (f : List ℕ). squared (seen mask f) i)

  abbrev pub extreme_in : (ℕ → ℕ → ℕ) → ℕ → ℕ
  extreme_in choose i = extreme_over choose fs (λ (f : List ℕ). seen mask f i)

  -- all are 0 where it is not surveyed
  unseen : (i : ℕ) → (get_or mask i 0 ≡ 0 → ⊥) → (f : List ℕ) → seen mask f i ≡ 0
  unseen i e f = seen_elsewhere mask f i e

  pub sum_out : (i : ℕ) → (get_or mask i 0 ≡ 0 → ⊥) → sum_at i ≡ 0
  sum_out i e = over_none fs (unseen i e)

  pub square_out : (i : ℕ) → (get_or mask i 0 ≡ 0 → ⊥) → square_at i ≡ 0
  square_out i e = over_none fs (λ f. rw (unseen i e f))

  pub extreme_none : {choose : ℕ → ℕ → ℕ} {Before : ℕ → ℕ → Type 0} → Choice choose Before → (i : ℕ) → (get_or mask i 0 ≡ 0 → ⊥) → extreme_in choose i ≡ 0
  extreme_none c i e = extreme_zeros c fs (unseen i e)

-- extremes with one frame more
module _ {choose : ℕ → ℕ → ℕ} {Before : ℕ → ℕ → Type 0} (c : Choice choose Before) (mask : List ℕ) (fs : List (List ℕ)) (f : List ℕ) where
  extreme_more : (i : ℕ) → extreme_at choose (length fs) (get_or mask i 0) (extreme_in mask fs choose i) (seen mask f i) ≡ extreme_in mask (f ∷ fs) choose i
  unfolding extreme_over
  extreme_more i =
      ⊎_elim
      (λ t. extreme_in_lem choose (length fs) (get_or mask i 0) (extreme_in mask fs choose i) (seen mask f i) (eqb-true (get_or mask i 0) 0 t))
      (λ t. let e = eqb-false (get_or mask i 0) 0 t in
      extreme_out choose (length fs) (get_or mask i 0) (extreme_in mask fs choose i) (seen mask f i) e ∙ extreme_none mask fs c i e ∙ sym (extreme_none mask (f ∷ fs) c i e))
      (true_or_false (surveyed (get_or mask i 0)))

  extremes_more : (n : ℕ) → extremes choose (length fs) mask (seen mask f) (tabulate n (extreme_in mask fs choose)) ≡ tabulate n (extreme_in mask (f ∷ fs) choose)
  extremes_more n =
      renewed_table (λ (i before : ℕ). extreme_at choose (length fs) (get_or mask i 0) before (seen mask f i)) n (extreme_in mask fs choose)
      ∙ tabulate_ext n (λ (i : ℕ). extreme_at choose (length fs) (get_or mask i 0) (extreme_in mask fs choose i) (seen mask f i)) (extreme_in mask (f ∷ fs) choose) (λ i l. extreme_more i)

module _ (w h full : ℕ) (mask : List ℕ) where
  -- the stack of some frames
  abbrev pub of_frames : List (List ℕ) → Stack
  of_frames fs =
      stack_of (length fs) (tabulate (sites_of w h) (sum_at mask fs)) (tabulate (sites_of w h) (square_at mask fs))
      (tabulate (sites_of w h) (extreme_in mask fs lesser)) (tabulate (sites_of w h) (extreme_in mask fs greater))

  stack_more : (fs : List (List ℕ)) (f : List ℕ) → with_frame mask f (of_frames fs) ≡ of_frames (f ∷ fs)
  unfolding over_frames
  stack_more fs f =
      rw (
        renewed_table (λ (i sum : ℕ). sum + seen mask f i) (sites_of w h) (sum_at mask fs),
        renewed_table (λ (i sum : ℕ). sum + squared (seen mask f) i) (sites_of w h) (square_at mask fs),
        extremes_more lesser_choice mask fs f (sites_of w h),
        extremes_more greater_choice mask fs f (sites_of w h),
        add-one (length fs),
      )

  -- accepted frames leave their stack
  pub run_is : (fs : List (List ℕ)) → run_verdict w h full mask fs ≡ clear → run w h full mask fs ≡ of_frames fs
  unfolding run run_verdict over_frames extreme_over
  run_is [] e = refl
  run_is (f ∷ fs) e =
      let both = then_clear (run_verdict w h full mask fs) (add_verdict w h full mask f (run w h full mask fs)) e in
      adds.accepted_stack w h full mask f (run w h full mask fs) both.1 ∙ ap (with_frame mask f) (run_is fs both.0) ∙ stack_more fs f

  -- what is seen of it at a site
  module _ (fs : List (List ℕ)) (i : ℕ) (l : i < sites_of w h) where
    pub sum_seen : seen mask (of_frames fs).sums i ≡ sum_at mask fs i
    sum_seen = shown mask (sites_of w h) (sum_at mask fs) (sum_out mask fs) i l

    pub square_seen : seen mask (of_frames fs).squares i ≡ square_at mask fs i
    square_seen = shown mask (sites_of w h) (square_at mask fs) (square_out mask fs) i l

    pub least_seen : seen mask (of_frames fs).least i ≡ extreme_in mask fs lesser i
    least_seen = shown mask (sites_of w h) (extreme_in mask fs lesser) (extreme_none mask fs lesser_choice) i l

    pub greatest_seen : seen mask (of_frames fs).greatest i ≡ extreme_in mask fs greater i
    greatest_seen = shown mask (sites_of w h) (extreme_in mask fs greater) (extreme_none mask fs greater_choice) i l

  -- ---- which runs are accepted
  module _ (fs : List (List ℕ)) where
    -- frames in range leave what 11 does not refuse
    possible_at : AllInRange (sites_of w h) full mask fs → (i : ℕ) → i < sites_of w h
        → Possible full (length fs) (sum_at mask fs i) (square_at mask fs i) (extreme_in mask fs lesser i) (extreme_in mask fs greater i)
    unfolding over_frames extreme_over
    possible_at a i l = by fs a
      where
        by : (gs : List (List ℕ)) → AllInRange (sites_of w h) full mask gs
            → Possible full (length gs) (sum_at mask gs i) (square_at mask gs i) (extreme_in mask gs lesser i) (extreme_in mask gs greater i)
        by [] none = possible_zeros full 0
        by (g ∷ gs) (more b r) = rw (← add-one (length gs)) (possible_more full (length gs) _ _ _ _ (seen mask g i) (by gs r) (b.ranged i l))

    pub possible_in : AllInRange (sites_of w h) full mask fs → impossible_in (sites_of w h) full mask (of_frames fs) ≡ false
    possible_in a =
        none_impossible (sites_of w h) full mask (of_frames fs)
        (λ i l. rw (sum_seen fs i l, square_seen fs i l, least_seen fs i l, greatest_seen fs i l) (possible_at a i l))

    -- and have a number for each site
    pub stack_long : stack_lengths w h (of_frames fs) ≡ clear
    stack_long =
        clear_lengths w h (of_frames fs)
        (record {
          of_sums = length-tabulate (sites_of w h) (sum_at mask fs);
          of_squares = length-tabulate (sites_of w h) (square_at mask fs);
          of_least = length-tabulate (sites_of w h) (extreme_in mask fs lesser);
          of_greatest = length-tabulate (sites_of w h) (extreme_in mask fs greater);
        })

    -- so a stack of fewer than 100 takes one more
    takes_more : Masked w h full mask → AllInRange (sites_of w h) full mask fs → length fs < 100 → (f : List ℕ) → InRange (sites_of w h) full mask f
        → add_verdict w h full mask f (of_frames fs) ≡ clear
    unfolding add_verdict
    takes_more a r few f b =
        clear_then
        (clear_frame w h full mask f (record { of = a; framed = b.long; range = b.ranged }) (clear_unless _ (le-ltb 100 (length fs) (omega arith))) stack_long)
        (clear_then (clear_unless _ (possible_in r)) (clear_unless _ (ne_eqb (length fs) 100 (λ e. omega arith))))

  -- a run of at most 100 frames in range is accepted
  pub run_clear : Masked w h full mask → (fs : List (List ℕ)) → AllInRange (sites_of w h) full mask fs → length fs ≤ 100 → run_verdict w h full mask fs ≡ clear
  unfolding run_verdict
  run_clear a [] r few = refl
  run_clear a (f ∷ fs) r few =
      let before = run_clear a fs (rest_of r) (omega arith) in
      rw (before, run_is fs before) (takes_more fs a (rest_of r) (omega arith) f (first_of r))

  -- and leaves its stack
  pub run_leaves : Masked w h full mask → (fs : List (List ℕ)) → AllInRange (sites_of w h) full mask fs → length fs ≤ 100 → run w h full mask fs ≡ of_frames fs
  run_leaves a fs r few = run_is fs (run_clear a fs r few)

  -- what an accepted run is made of
  pub record Taken (fs : List (List ℕ)) : Type 0 where
    pub legal : Masked w h full mask
    pub ranged : AllInRange (sites_of w h) full mask fs
    pub few : length fs ≤ 100

  taken-ranged : (fs : List (List ℕ)) → run_verdict w h full mask fs ≡ clear → AllInRange (sites_of w h) full mask fs
  unfolding run_verdict
  taken-ranged [] e = none
  taken-ranged (f ∷ fs) e =
      let both = then_clear (run_verdict w h full mask fs) (add_verdict w h full mask f (run w h full mask fs)) e in
      let a = adds.accepted w h full mask f (run w h full mask fs) both.1 in
      more (record { long = a.lent.framed; ranged = a.lent.range }) (taken-ranged fs both.0)

  pub taken : (f : List ℕ) (fs : List (List ℕ)) → run_verdict w h full mask (f ∷ fs) ≡ clear → Taken (f ∷ fs)
  unfolding run_verdict
  taken f fs e =
      let both = then_clear (run_verdict w h full mask fs) (add_verdict w h full mask f (run w h full mask fs)) e in
      let a = adds.accepted w h full mask f (run w h full mask fs) both.1 in
      let count : (run w h full mask fs).frames ≡ length fs = ap (λ (t : Stack). t.frames) (run_is fs both.0) in
      record { legal = a.lent.of; ranged = taken-ranged (f ∷ fs) e; few = omega (arith, a.room) }

-- the order of frames is not in their stack
pub same_stack : (w h full : ℕ) (mask : List ℕ) {fs gs : List (List ℕ)} → Reordered fs gs → of_frames w h full mask fs ≡ of_frames w h full mask gs
same_stack w h full mask {fs} {gs} order =
    rw (
      as_many order,
      tabulate_ext (sites_of w h) (sum_at mask fs) (sum_at mask gs) (λ i l. over_order (λ (f : List ℕ). seen mask f i) order),
      tabulate_ext (sites_of w h) (square_at mask fs) (square_at mask gs) (λ i l. over_order (λ (f : List ℕ). squared (seen mask f) i) order),
      tabulate_ext (sites_of w h) (extreme_in mask fs lesser) (extreme_in mask gs lesser) (λ i l. extreme_order lesser_choice (λ (f : List ℕ). seen mask f i) order),
      tabulate_ext (sites_of w h) (extreme_in mask fs greater) (extreme_in mask gs greater) (λ i l. extreme_order greater_choice (λ (f : List ℕ). seen mask f i) order),
    )
