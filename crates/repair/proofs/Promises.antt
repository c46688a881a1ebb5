-- What is promised of `repair`, for any inputs.
use Prim.Native.Nat.{ℕ, ◌*◌, ◌<◌, ◌≤◌}
use mathlib.Core.Bool.{Bool}
use mathlib.Core.List.{List}
use mathlib.Core.Logic.{◌⊎◌, ⊎_elim}
use mathlib.Core.Path.{◌≡◌, refl, sym, ap, ap₂, ◌∙◌}
use native.Mathlib.Omega.{arith}
use lib.ListN.{length, get_or}
use borrow.Author.Tests.{eq-eqb}
use Rattle.laws.specs.First.{count_to}
use Rattle.laws.specs.Sum.{sum_to}
use Rattle.laws.specs.Table.{tabulate}
use Rattle.laws.proofs.Sums.{sum-zero}
use Rattle.laws.proofs.Tables.{length-tabulate, get_d_tabulate, tabulated}
use Rattle.laws.proofs.Sole.{Sole, sole}
use Rattle.verdict.proofs.Verdicts.{Tabled, RefusesCounting, refuses_counting}
use Rattle.verdict.proofs.Answers.{counted_is_told}
use Rattle.verdict.specs.Verdict.{clear}
use Rattle.std.specs.Prelude.{Ok}
use Rattle.window.specs.Shape.{sites_of}
use Rattle.window.specs.View.{seen_at, seen, one, above}
use Rattle.window.proofs.Sides.{sides}
use Rattle.window.proofs.Views.{Agree, same_view, seen_is, one_is}
use Rattle.refusals.specs.Judge.{frame_verdict_by}
use Rattle.refusals.proofs.Ranges.{one_counting}
use Rattle.refusals.proofs.Judges.{Framed}
use Rattle.near.specs.Near.{near_sum}
use Rattle.repair.specs.Repair.{mean_of, filled_at, sample_after, code_after, filled_count, repair_verdict, repair_answer, repair_paper_of, repair_paper, repair_frame, repair_mask}
use Rattle.near.proofs.Nears.{Near, near_same, near_most, near-least}
use Rattle.repair.proofs.Accepts.{repair_tests, repair_table, repair_accepted, repair_clear}
use Rattle.repair.proofs.Repairs.{fillable, filled_new, same_seen, not_again, at_least, at_most, filled_some, same-filled, same_code, same_sample, mean_most, mean-least, not_defect, kept_code, kept_sample, new_sample}
use Rattle.near.proofs.Turns.{OnlyTurned, turned_count, tied, only_turned, count_tied}
use Rattle.near.proofs.Flips.{flip, flipped, flip_count, flip_table, code_flip, sample_flip, ones_flip, view_flip, accepted_flip}

module _ (w h full : ℕ) (mask frame out_frame out_mask : List ℕ) where
  -- only: no second answer and no second final frame and mask meets the promise
  pub only : Sole (repair_answer w h full mask frame (length out_frame) (length out_mask))
      × Sole (repair_frame w h full mask frame out_frame (length out_mask))
      × Sole (repair_mask w h full mask frame (length out_frame) out_mask)
  only = (sole _, sole _, sole _)

  -- blind: what the frame holds at sites that are not surveyed changes nothing of the answer, no count either, and nothing of the mask
  pub blind : (other : List ℕ) → Agree mask frame other
      → (repair_answer w h full mask frame (length out_frame) (length out_mask) ≡ repair_answer w h full mask other (length out_frame) (length out_mask))
      × (repair_mask w h full mask frame (length out_frame) out_mask ≡ repair_mask w h full mask other (length out_frame) out_mask)
  unfolding repair_answer repair_mask repair_verdict frame_verdict_by
  blind other a = rw (a.long, same_view a) (refl, refl)

  -- the paper's numbers are those of the answer
  pub paper_is : repair_paper_of (repair_answer w h full mask frame (length out_frame) (length out_mask)) ≡ repair_paper w h full mask frame (length out_frame) (length out_mask)
  unfolding repair_answer repair_paper
  paper_is = counted_is_told 0 (filled_count w h mask) (repair_verdict w h full mask frame (length out_frame) (length out_mask))

  -- given: each refusal exactly as document 01 tables it, in that order (`repair_tests` has the table)
  pub given : Tabled (repair_verdict w h full mask frame (length out_frame) (length out_mask)) (repair_tests w h full mask frame (length out_frame) (length out_mask))
  given = repair_table w h full mask frame (length out_frame) (length out_mask)

  -- refused: where the number is not 0 the count of filled sites is 0 and both buffers are as they were, and where it is 0 so is the place. Where it is 6,
  -- over is at least 1 and just the count of surveyed samples above full scale; else it is 0
  pub refused : RefusesCounting (repair_paper w h full mask frame (length out_frame) (length out_mask)) (count_to (sites_of w h) (above full (seen mask frame)))
      (((repair_paper w h full mask frame (length out_frame) (length out_mask)).figures ≡ 0)
      × (repair_frame w h full mask frame out_frame (length out_mask) ≡ out_frame)
      × (repair_mask w h full mask frame (length out_frame) out_mask ≡ out_mask))
  unfolding repair_paper repair_frame repair_mask
  refused = refuses_counting (repair_verdict w h full mask frame (length out_frame) (length out_mask)) given refl refl (one_counting w h full (seen mask frame)) (λ r e. rw e (refl, refl, refl))

-- what an accepted call answers and leaves behind
module _ (w h full : ℕ) (mask frame out_frame out_mask : List ℕ) (accepted : repair_verdict w h full mask frame (length out_frame) (length out_mask) ≡ clear) where
  filled_as : repair_answer w h full mask frame (length out_frame) (length out_mask) ≡ Ok (sum_to (sites_of w h) (filled_at w h mask))
  unfolding repair_answer filled_count
  filled_as = rw accepted

  frame_as : repair_frame w h full mask frame out_frame (length out_mask) ≡ tabulate (sites_of w h) (sample_after w h mask (seen mask frame) frame)
  unfolding repair_frame
  frame_as = rw accepted

  mask_as : repair_mask w h full mask frame (length out_frame) out_mask ≡ tabulate (sites_of w h) (code_after w h mask)
  unfolding repair_mask
  mask_as = rw accepted

-- of accepted calls
module _ (w h full : ℕ) (mask frame out_frame out_mask : List ℕ) (accepted : repair_verdict w h full mask frame (length out_frame) (length out_mask) ≡ clear) where
  abbrev M : List ℕ
  M = repair_mask w h full mask frame (length out_frame) out_mask

  abbrev F : List ℕ
  F = repair_frame w h full mask frame out_frame (length out_mask)

  codes_written : M ≡ tabulate (sites_of w h) (code_after w h mask)
  codes_written = mask_as w h full mask frame out_frame out_mask accepted

  samples_written : F ≡ tabulate (sites_of w h) (sample_after w h mask (seen mask frame) frame)
  samples_written = frame_as w h full mask frame out_frame out_mask accepted

  counts : (repair_paper w h full mask frame (length out_frame) (length out_mask)).figures ≡ filled_count w h mask
  unfolding repair_paper
  counts = rw accepted

  code_at : (i : ℕ) → i < sites_of w h → get_or M i 0 ≡ code_after w h mask i
  code_at i l = rw codes_written (get_d_tabulate (sites_of w h) (code_after w h mask) i l)

  sample_at_lem : (i : ℕ) → i < sites_of w h → get_or F i 0 ≡ sample_after w h mask (seen mask frame) frame i
  sample_at_lem i l = rw samples_written (get_d_tabulate (sites_of w h) (sample_after w h mask (seen mask frame) frame) i l)

  -- the count is the number of sites that were 2 and are 3
  pub count_is_turned : (repair_paper w h full mask frame (length out_frame) (length out_mask)).figures ≡ turned_count (sites_of w h) 2 3 mask (repair_mask w h full mask frame (length out_frame) out_mask)
  unfolding filled_count filled_at code_after
  count_is_turned =
      rw (counts, codes_written)
      (count_tied (sites_of w h) 2 3 mask _ _ (λ i. tied 2 3 (get_or mask i 0) (fillable w h mask i) (λ e. omega arith)))

  -- nothing but 2 to 3 is changed
  pub only_filled : (i : ℕ) → i < sites_of w h → OnlyTurned 2 3 (get_or mask i 0) (get_or (repair_mask w h full mask frame (length out_frame) out_mask) i 0)
  unfolding filled_at code_after
  only_filled i l = rw (code_at i l) (only_turned 2 3 (get_or mask i 0) (fillable w h mask i))

  -- a site that is not filled, of code 2 with no surveyed neighbour or of any other, keeps its code and its sample
  pub unfilled_stays : (i : ℕ) → i < sites_of w h → filled_at w h mask i ≡ 0
      → (get_or (repair_mask w h full mask frame (length out_frame) out_mask) i 0 ≡ get_or mask i 0) × (get_or (repair_frame w h full mask frame out_frame (length out_mask)) i 0 ≡ get_or frame i 0)
  unfilled_stays i l none =
      (code_at i l ∙ sym (kept_code w h mask i none), sample_at_lem i l ∙ sym (kept_sample w h mask i (seen mask frame) frame none))

  -- so a site of any other code than 2 does
  pub others_stay : (i : ℕ) → i < sites_of w h → (get_or mask i 0 ≡ 2 → ⊥)
      → (get_or (repair_mask w h full mask frame (length out_frame) out_mask) i 0 ≡ get_or mask i 0) × (get_or (repair_frame w h full mask frame out_frame (length out_mask)) i 0 ≡ get_or frame i 0)
  others_stay i l other = unfilled_stays i l (not_defect w h mask i other)

  -- and a gap stays a gap and keeps its sample
  pub gap_stays : (i : ℕ) → i < sites_of w h → get_or mask i 0 ≡ 1
      → (get_or (repair_mask w h full mask frame (length out_frame) out_mask) i 0 ≡ 1) × (get_or (repair_frame w h full mask frame out_frame (length out_mask)) i 0 ≡ get_or frame i 0)
  gap_stays i l gap =
      let stays = others_stay i l (λ e. omega arith) in
      (stays.0 ∙ gap, stays.1)

  -- a site that was 2 and is 3 has a sample between the least and the greatest of its surveyed neighbours
  pub between : (i least most : ℕ) → i < sites_of w h
      → get_or mask i 0 ≡ 2 → get_or (repair_mask w h full mask frame (length out_frame) out_mask) i 0 ≡ 3
      → ((j : ℕ) → Near 1 w h i j → get_or mask j 0 ≡ 0 → (least ≤ get_or frame j 0) × (get_or frame j 0 ≤ most))
      → (least ≤ get_or (repair_frame w h full mask frame out_frame (length out_mask)) i 0) × (get_or (repair_frame w h full mask frame out_frame (length out_mask)) i 0 ≤ most)
  unfolding filled_at code_after
  between i least most l two three bounds =
      let filled : filled_at w h mask i ≡ 1 = filled_new (get_or mask i 0) (fillable w h mask i) (sym (code_at i l) ∙ three) two in
      let some = filled_some w h mask i filled in
      let value = sample_at_lem i l ∙ sym (new_sample w h mask i (seen mask frame) frame filled) in
      let low = near-least 1 w h i least (one mask) (seen mask frame) (λ j n. at_least mask frame j least (λ e. (bounds j n e).0)) in
      let high = near_most 1 w h i most (one mask) (seen mask frame) (λ j n. at_most mask frame j most (λ e. (bounds j n e).1)) in
      (rw value (mean-least _ _ least some low), rw value (mean_most _ _ most some high))

  -- what is seen after a repair is what was seen before it
  seen_same : (i : ℕ) → i < sites_of w h → seen M F i ≡ seen mask frame i
  unfolding code_after filled_at
  seen_same i l =
      seen_is M F i
      ∙ ap₂ seen_at (code_at i l) (sample_at_lem i l)
      ∙ same_seen (get_or mask i 0) (get_or frame i 0) _ (fillable w h mask i) (λ e. sym (kept_sample w h mask i (seen mask frame) frame e))
      ∙ sym (seen_is mask frame i)

  one_same : (i : ℕ) → i < sites_of w h → one M i ≡ one mask i
  unfolding code_after filled_at
  one_same i l =
      one_is M i
      ∙ ap (λ (k : ℕ). seen_at k 1) (code_at i l)
      ∙ same_seen (get_or mask i 0) 1 1 (fillable w h mask i) (λ e. refl)
      ∙ sym (one_is mask i)

  given_back : Framed w h full mask frame
  given_back = (repair_accepted w h full mask frame (length out_frame) (length out_mask) accepted).0

  none_filled : (i : ℕ) → i < sites_of w h → filled_at w h M i ≡ 0
  unfolding code_after filled_at
  none_filled i l =
      rw (code_at i l, near_same 1 w h i (one M) (one mask) (sides w h given_back.of.legal) one_same)
      (not_again (get_or mask i 0) (fillable w h mask i))

  accepted_again : Framed w h full M F
  accepted_again =
      record {
        of = record {
          legal = given_back.of.legal;
          scaled = given_back.of.scaled;
          masked = ap length codes_written ∙ length-tabulate (sites_of w h) (code_after w h mask);
          codes = λ i l. ⊎_elim (λ e. rw e (given_back.of.codes i l)) (λ e. rw e.1 (omega arith)) (only_filled i l);
        };
        framed = ap length samples_written ∙ length-tabulate (sites_of w h) (sample_after w h mask (seen mask frame) frame);
        range = λ i l. rw (seen_same i l) (given_back.range i l);
      }

  -- a second repair, into any two buffers of the window's length, changes nothing and fills nothing
  pub again : (m f second third : List ℕ)
      → m ≡ repair_mask w h full mask frame (length out_frame) out_mask → f ≡ repair_frame w h full mask frame out_frame (length out_mask)
      → length second ≡ sites_of w h → length third ≡ sites_of w h
      → (repair_answer w h full m f (length second) (length third) ≡ Ok 0)
      × (repair_frame w h full m f second (length third) ≡ f)
      × (repair_mask w h full m f (length second) third ≡ m)
  again m f second third at_mask at_frame long_frame long_mask =
      let also = repair_clear w h full M F (length second) (length third) accepted_again long_frame long_mask in
      let zero = sum-zero (sites_of w h) (filled_at w h M) none_filled in
      rw (at_mask, at_frame) (
        filled_as w h full M F second third also ∙ ap Ok zero,
        frame_as w h full M F second third also
            ∙ sym (tabulated (sites_of w h) (sample_after w h M (seen M F) F) F accepted_again.framed (λ i l. kept_sample w h M i (seen M F) F (none_filled i l))),
        mask_as w h full M F second third also
            ∙ sym (tabulated (sites_of w h) (code_after w h M) M accepted_again.of.masked (λ i l. kept_code w h M i (none_filled i l))),
      )

  -- flipping the window top-bottom, left-right, or both flips the frame and the mask that are written, and keeps the count
  pub flips : (down across : Bool)
      → (repair_answer w h full (flipped down across w h mask) (flipped down across w h frame) (length out_frame) (length out_mask) ≡ repair_answer w h full mask frame (length out_frame) (length out_mask))
      × (repair_frame w h full (flipped down across w h mask) (flipped down across w h frame) out_frame (length out_mask) ≡ flipped down across w h (repair_frame w h full mask frame out_frame (length out_mask)))
      × (repair_mask w h full (flipped down across w h mask) (flipped down across w h frame) (length out_frame) out_mask ≡ flipped down across w h (repair_mask w h full mask frame (length out_frame) out_mask))
  flips down across =
      let lengths = repair_accepted w h full mask frame (length out_frame) (length out_mask) accepted in
      let legal = sides w h given_back.of.legal in
      let m = flipped down across w h mask in
      let f = flipped down across w h frame in
      let also = repair_clear w h full m f (length out_frame) (length out_mask) (accepted_flip down across w h legal full mask frame given_back) lengths.1 lengths.2 in
      let at : ℕ → ℕ = flip down across w h in
      let code : (i : ℕ) → i < h * w → get_or m i 0 ≡ get_or mask (at i) 0 = λ i l. code_flip down across w h legal mask frame i l in
      let ones : (i : ℕ) → i < h * w → near_sum 1 w h (one m) i ≡ near_sum 1 w h (one mask) (at i) = λ i l. ones_flip down across w h legal mask frame 1 i l in (
        filled_as w h full m f out_frame out_mask also
            ∙ ap Ok (flip_count down across w h legal (filled_at w h mask) (filled_at w h m) (λ i l. same-filled w h m mask i (at i) (code i l) (ones i l)))
            ∙ sym (filled_as w h full mask frame out_frame out_mask accepted),
        frame_as w h full m f out_frame out_mask also
            ∙ flip_table down across w h legal (sample_after w h mask (seen mask frame) frame) (sample_after w h m (seen m f) f)
            (λ i l. same_sample w h m mask i (at i) (code i l) (ones i l) (seen m f) (seen mask frame) f frame (sample_flip down across w h legal mask frame i l) (view_flip down across w h legal mask frame 1 i l))
            ∙ ap (flipped down across w h) (sym samples_written),
        mask_as w h full m f out_frame out_mask also
            ∙ flip_table down across w h legal (code_after w h mask) (code_after w h m) (λ i l. same_code w h m mask i (at i) (code i l) (ones i l))
            ∙ ap (flipped down across w h) (sym codes_written),
      )

-- what the frame holds at sites that are not surveyed does not change the verdict
same_verdict : (w h full : ℕ) (mask frame other : List ℕ) (out_frame out_mask : ℕ) → Agree mask frame other
    → repair_verdict w h full mask frame out_frame out_mask ≡ repair_verdict w h full mask other out_frame out_mask
unfolding repair_verdict frame_verdict_by
same_verdict w h full mask frame other out_frame out_mask a = rw (a.long, same_view a)

-- blind: nor does it change the sample of any site that is surveyed or filled
pub blind_samples : (w h full : ℕ) (mask frame other out_frame out_mask : List ℕ) → Agree mask frame other
    → repair_verdict w h full mask frame (length out_frame) (length out_mask) ≡ clear → (i : ℕ) → i < sites_of w h
    → (get_or mask i 0 ≡ 0) ⊎ ((get_or mask i 0 ≡ 2) × (get_or (repair_mask w h full mask frame (length out_frame) out_mask) i 0 ≡ 3))
    → get_or (repair_frame w h full mask frame out_frame (length out_mask)) i 0 ≡ get_or (repair_frame w h full mask other out_frame (length out_mask)) i 0
unfolding filled_at code_after
blind_samples w h full mask frame other out_frame out_mask a accepted i l decided-here =
    let also : repair_verdict w h full mask other (length out_frame) (length out_mask) ≡ clear =
    sym (same_verdict w h full mask frame other (length out_frame) (length out_mask) a) ∙ accepted in
    let sums = ap (λ (view : ℕ → ℕ). near_sum 1 w h view i) (same_view a) in
    sample_at_lem w h full mask frame out_frame out_mask accepted i l
    ∙ ⊎_elim
    (λ zero. same_sample w h mask mask i i refl refl (seen mask frame) (seen mask other) frame other (a.same i (eq-eqb (get_or mask i 0) 0 zero)) sums)
    (λ turned. let filled = filled_new (get_or mask i 0) (fillable w h mask i) (sym (code_at w h full mask frame out_frame out_mask accepted i l) ∙ turned.1) turned.0 in
    sym (new_sample w h mask i (seen mask frame) frame filled)
    ∙ ap (λ (s : ℕ). mean_of s (near_sum 1 w h (one mask) i)) sums
    ∙ new_sample w h mask i (seen mask other) other filled)
    decided-here
    ∙ sym (sample_at_lem w h full mask other out_frame out_mask also i l)
