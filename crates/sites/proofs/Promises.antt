-- What is promised of `find_defects`, for any inputs.
use Prim.Native.Nat.{ℕ, ◌*◌, ◌<◌}
use mathlib.Core.Bool.{Bool}
use mathlib.Core.List.{List}
use mathlib.Core.Path.{◌≡◌, refl, ap, ◌∙◌}
use native.Mathlib.Omega.{arith}
use lib.ListN.{length, get_or}
use borrow.Author.Tests.{ne_eqb}
use Rattle.laws.specs.First.{count_to}
use Rattle.laws.specs.Table.{tabulate}
use Rattle.laws.proofs.Sums.{sum-zero}
use Rattle.laws.proofs.Tables.{get_d_tabulate}
use Rattle.laws.proofs.Sole.{Sole, sole}
use Rattle.verdict.specs.Verdict.{clear, if_clear}
use Rattle.verdict.specs.Answer.{answer_of}
use Rattle.verdict.proofs.Verdicts.{Tabled, RefusesCounting, refuses_counting}
use Rattle.verdict.proofs.Answers.{counted_is_told}
use Rattle.verdict.specs.declared.Refusal.{Refusal}
use Rattle.std.specs.Prelude.{Result, Ok}
use Rattle.window.specs.Shape.{sites_of}
use Rattle.window.specs.View.{seen_at, seen, above}
use Rattle.window.proofs.Sides.{sides}
use Rattle.window.proofs.Views.{Agree, same_view, seen_out}
use Rattle.refusals.specs.Judge.{frame_verdict_by}
use Rattle.refusals.proofs.Ranges.{one_counting}
use Rattle.sites.specs.Find.{used_threshold, found_at, marked_at, found_count, find_verdict, find_answer, find_paper_of, find_paper, find_mask}
use Rattle.sites.proofs.Finds.{far_at, same-found, same-marked}
use Rattle.sites.proofs.Accepts.{find_tests, find_table, find_accepted, find_clear}
use Rattle.near.proofs.Turns.{OnlyTurned, turned_count, tied, only_turned, kept, count_tied}
use Rattle.near.proofs.Flips.{flip, flipped, flip_count, flip_table, code_flip, seen_flip, ones_flip, view_flip, accepted_flip}

module _ (w h full t : ℕ) (mask frame out : List ℕ) where
  -- only: no second answer and no second final mask meets the promise
  pub only : Sole (find_answer w h full t mask frame (length out)) × Sole (find_mask w h full t mask frame out)
  only = (sole _, sole _)

  -- blind: what the frame holds at sites that are not surveyed changes nothing of the answer, no count either, and nothing of the mask
  pub blind : (other : List ℕ) → Agree mask frame other
      → (find_answer w h full t mask frame (length out) ≡ find_answer w h full t mask other (length out))
      × (find_mask w h full t mask frame out ≡ find_mask w h full t mask other out)
  unfolding find_answer find_mask find_verdict frame_verdict_by
  blind other a = rw (a.long, same_view a) (refl, refl)

  -- the paper's numbers are those of the answer
  pub paper_is : find_paper_of (find_answer w h full t mask frame (length out)) ≡ find_paper w h full t mask frame (length out)
  unfolding find_answer find_paper
  paper_is = counted_is_told 0 (found_count w h (used_threshold t) mask (seen mask frame)) (find_verdict w h full t mask frame (length out))

  -- given: each refusal exactly as document 01 tables it, in that order (`find_tests` has the table)
  pub given : Tabled (find_verdict w h full t mask frame (length out)) (find_tests w h full t mask frame (length out))
  given = find_table w h full t mask frame (length out)

  -- refused: where the number is not 0 the count of found sites is 0 and the mask is as it was, and where it is 0 so is the place. Where it is 6, over is
  -- at least 1 and just the count of surveyed samples above full scale; else it is 0
  pub refused : RefusesCounting (find_paper w h full t mask frame (length out)) (count_to (sites_of w h) (above full (seen mask frame)))
      (((find_paper w h full t mask frame (length out)).figures ≡ 0) × (find_mask w h full t mask frame out ≡ out))
  unfolding find_paper find_mask
  refused = refuses_counting (find_verdict w h full t mask frame (length out)) given refl refl (one_counting w h full (seen mask frame)) (λ r e. rw e (refl, refl))

-- a threshold above 0 is taken as it is
pub used_as_given : (t : ℕ) → 0 < t → used_threshold t ≡ t
unfolding used_threshold
used_as_given t above = rw (ne_eqb t 0 (λ e. omega arith))

module _ (w h full : ℕ) (mask frame out : List ℕ) where
  -- threshold 0 answers and writes what 24 does
  pub zero_is_default : (find_answer w h full 0 mask frame (length out) ≡ find_answer w h full 24 mask frame (length out))
      × (find_mask w h full 0 mask frame out ≡ find_mask w h full 24 mask frame out)
  unfolding find_answer find_mask find_verdict used_threshold
  zero_is_default = (refl, refl)

  -- the answer to a caller who says t, where t stands for `used`: the refusals of t, the count of `used`
  abbrev pub answer_for : ℕ → ℕ → Result ℕ Refusal
  answer_for t used = answer_of (find_verdict w h full t mask frame (length out)) (found_count w h used mask (seen mask frame))

  -- the mask that this caller is left with
  abbrev pub mask_for : ℕ → ℕ → List ℕ
  mask_for t used = if_clear (find_verdict w h full t mask frame (length out)) (tabulate (sites_of w h) (marked_at w h used mask (seen mask frame))) out

  -- a threshold above 0 stands for itself: no default stands in what it answers and writes
  pub no_default : (t : ℕ) → 0 < t → (find_answer w h full t mask frame (length out) ≡ answer_for t t) × (find_mask w h full t mask frame out ≡ mask_for t t)
  unfolding find_answer find_mask
  no_default t above = rw (used_as_given t above) (refl, refl)

  -- the older rig (document 02 g): 28 answers and writes what 0 would if it stood for 28
  pub older_rig : (find_answer w h full 28 mask frame (length out) ≡ answer_for 0 28) × (find_mask w h full 28 mask frame out ≡ mask_for 0 28)
  unfolding find_verdict
  older_rig = no_default 28 (omega arith)

-- of accepted calls
module _ (w h full t : ℕ) (mask frame out : List ℕ) (accepted : find_verdict w h full t mask frame (length out) ≡ clear) where
  written : find_mask w h full t mask frame out ≡ tabulate (sites_of w h) (marked_at w h (used_threshold t) mask (seen mask frame))
  unfolding find_mask
  written = rw accepted

  counts : (find_paper w h full t mask frame (length out)).figures ≡ found_count w h (used_threshold t) mask (seen mask frame)
  unfolding find_paper
  counts = rw accepted

  code_after_lem : (i : ℕ) → i < sites_of w h → get_or (find_mask w h full t mask frame out) i 0 ≡ marked_at w h (used_threshold t) mask (seen mask frame) i
  code_after_lem i l = rw written (get_d_tabulate (sites_of w h) (marked_at w h (used_threshold t) mask (seen mask frame)) i l)

  -- the count is the number of sites that were 0 and are 2
  pub count_is_turned : (find_paper w h full t mask frame (length out)).figures ≡ turned_count (sites_of w h) 0 2 mask (find_mask w h full t mask frame out)
  unfolding found_count found_at marked_at seen_at
  count_is_turned =
      rw (counts, written)
      (count_tied (sites_of w h) 0 2 mask _ _
      (λ i. tied 0 2 (get_or mask i 0) (far_at w h (used_threshold t) mask (seen mask frame) i) (λ e. omega arith)))

  -- nothing but 0 to 2 is changed
  pub only_found : (i : ℕ) → i < sites_of w h → OnlyTurned 0 2 (get_or mask i 0) (get_or (find_mask w h full t mask frame out) i 0)
  unfolding found_at marked_at seen_at
  only_found i l = rw (code_after_lem i l) (only_turned 0 2 (get_or mask i 0) (far_at w h (used_threshold t) mask (seen mask frame) i))

  -- a gap stays a gap
  pub gap_stays : (i : ℕ) → i < sites_of w h → get_or mask i 0 ≡ 1 → get_or (find_mask w h full t mask frame out) i 0 ≡ 1
  unfolding found_at marked_at seen_at
  gap_stays i l gap = code_after_lem i l ∙ kept 0 2 (get_or mask i 0) (far_at w h (used_threshold t) mask (seen mask frame) i) (λ e. omega arith) ∙ gap

  -- no surveyed site gives the count 0
  pub none_surveyed : ((i : ℕ) → i < sites_of w h → get_or mask i 0 ≡ 0 → ⊥) → (find_paper w h full t mask frame (length out)).figures ≡ 0
  unfolding found_count found_at
  none_surveyed none = counts ∙ sum-zero (sites_of w h) _ (λ i l. seen_out (get_or mask i 0) _ (none i l))

  -- flipping the window top-bottom, left-right, or both flips the mask that is written, and keeps the count
  pub flips : (down across : Bool)
      → (find_answer w h full t (flipped down across w h mask) (flipped down across w h frame) (length out) ≡ find_answer w h full t mask frame (length out))
      × (find_mask w h full t (flipped down across w h mask) (flipped down across w h frame) out ≡ flipped down across w h (find_mask w h full t mask frame out))
  unfolding find_answer find_mask found_count
  flips down across =
      let a = find_accepted w h full t mask frame (length out) accepted in
      let legal = sides w h a.0.of.legal in
      let m = flipped down across w h mask in
      let f = flipped down across w h frame in
      let also = find_clear w h full t m f (length out) (accepted_flip down across w h legal full mask frame a.0) a.1 a.2 in
      let found : (i : ℕ) → i < h * w → found_at w h (used_threshold t) m (seen m f) i ≡ found_at w h (used_threshold t) mask (seen mask frame) (flip down across w h i) =
      λ i l. same-found w h (used_threshold t) m mask (seen m f) (seen mask frame) i (flip down across w h i)
      (code_flip down across w h legal mask frame i l) (seen_flip down across w h legal mask frame i l)
      (ones_flip down across w h legal mask frame 15 i l) (view_flip down across w h legal mask frame 15 i l) in
      let marks : (i : ℕ) → i < h * w → marked_at w h (used_threshold t) m (seen m f) i ≡ marked_at w h (used_threshold t) mask (seen mask frame) (flip down across w h i) =
      λ i l. same-marked w h (used_threshold t) m mask (seen m f) (seen mask frame) i (flip down across w h i)
      (code_flip down across w h legal mask frame i l) (found i l) in
      rw (also, accepted)
      (ap Ok (flip_count down across w h legal _ _ found), flip_table down across w h legal _ _ marks)
