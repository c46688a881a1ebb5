-- What is promised of `shading_table` and `shading_recode`, for any sides, full scale, site, code, mask, frame, totals and counts.
use Prim.Native.Nat.{ℕ, ◌+◌, ◌-◌, ◌*◌, ◌^◌, ◌/◌, ◌%◌, ◌≤◌, ◌<◌}
use mathlib.Core.Bool.{false, cond}
use mathlib.Core.List.{List}
use mathlib.Core.Logic.{◌⊎◌, inl, inr, ⊎_elim}
use mathlib.Core.Path.{◌≡◌, refl, ap, ◌∙◌}
use native.Mathlib.Nat.{mul_comm}
use native.Mathlib.Omega.{arith}
use lib.ListN.{length}
use Rattle.std.specs.Prelude.{Ok}
use Rattle.verdict.specs.Answer.{nothing}
use Rattle.laws.specs.First.{count_to}
use Rattle.laws.specs.Table.{held}
use Rattle.laws.proofs.Cases.{lt_or_ge}
use Rattle.laws.proofs.Tables.{get_d_tabulate}
use Rattle.laws.proofs.Sole.{Sole, sole}
use Rattle.verdict.proofs.Verdicts.{Tabled, RefusesCounting, no_six, also, refuses_counting}
use Rattle.verdict.proofs.Answers.{counted_is_told}
use Rattle.window.specs.Shape.{bad_sides, sites_of}
use Rattle.window.specs.View.{seen_at, seen, one, above}
use Rattle.window.proofs.Sides.{sides}
use Rattle.window.proofs.Views.{Agree, same_view, one_le, seen_in, seen_out, seen_counted}
use Rattle.refusals.specs.Judge.{frame_verdict_by}
use Rattle.refusals.proofs.Ranges.{one_counting}
use Rattle.plane.specs.Plane.{plane_of, plane_row, plane_column}
use Rattle.blocks.specs.Areas.{blocks_of, block_of, area_sites, entries_of, entry_area, lies_in}
use Rattle.blocks.specs.Table.{entry_sum, table_verdict, table_answer, paper_of, table_paper, table_totals, table_counts}
use Rattle.blocks.specs.Recode.{over_either, amend, recode_verdict, recode_answer, recode_paper, recode_mask, recode_totals, recode_counts}
use Rattle.blocks.proofs.Judged.{table_tests, table_tabled, over_same, recode_tests, recode_tabled}
use Rattle.blocks.proofs.Sites.{Lies, lies_in_lem, lies_not, entry_few, entry_at_most}
use Rattle.blocks.proofs.Grid.{InBlock, InCentre, lies_in_block, block_lies, lies_in_centre, centre_lies}
use Rattle.blocks.proofs.Areas.{blocks_are, area_block, block_in, area_centre}
use Rattle.blocks.proofs.Amends.{shown_alike, amend_off, amend_on, Words, amended_at_lem, amended_nowhere, amended-same, recoded-long, recoded_here, recoded_else}
use Rattle.blocks.proofs.Afresh.{Makes, made, TableOf, summed_table, table_summed, made_summed, still_summed}
use Rattle.blocks.proofs.Back.{undone}

-- ---- making a table
module _ (w h full : ℕ) (mask frame totals counts : List ℕ) where
  -- only: no second answer and no second final table meets the promise
  pub table_only : Sole (table_answer w h full mask frame (length totals) (length counts))
      × Sole (table_totals w h full mask frame totals counts)
      × Sole (table_counts w h full mask frame totals counts)
  table_only = (sole _, sole _, sole _)

  -- the paper's numbers are those of the answer
  pub table_paper_is : paper_of (table_answer w h full mask frame (length totals) (length counts)) ≡ table_paper w h full mask frame (length totals) (length counts)
  unfolding table_answer table_paper
  table_paper_is = counted_is_told nothing nothing (table_verdict w h full mask frame (length totals) (length counts))

  -- given: 1, 2, 4, 5, 6 and 9 exactly as document 02 tables them, in that order (`table_tests` has the table)
  pub table_given : Tabled (table_verdict w h full mask frame (length totals) (length counts)) (table_tests w h full mask frame (length totals) (length counts))
  table_given = table_tabled w h full mask frame (length totals) (length counts)

  -- refused: where the number is not 0 totals and counts are as they were, and where it is 0 so is the place. Where it is 6, over is at least 1 and
  -- just the count of surveyed samples above full scale; else it is 0
  pub table_refused : RefusesCounting (table_paper w h full mask frame (length totals) (length counts)) (count_to (sites_of w h) (above full (seen mask frame)))
      ((table_totals w h full mask frame totals counts ≡ totals) × (table_counts w h full mask frame totals counts ≡ counts))
  unfolding table_paper table_totals table_counts
  table_refused =
      refuses_counting (table_verdict w h full mask frame (length totals) (length counts)) table_given refl refl (one_counting w h full (seen mask frame)) (λ r e. rw e (refl, refl))

  -- blind: what another frame holds at unsurveyed sites changes nothing of the answer, no count either, and no entry of the table
  pub table_blind : (other : List ℕ) → Agree mask frame other
      → (table_answer w h full mask frame (length totals) (length counts) ≡ table_answer w h full mask other (length totals) (length counts))
      × (table_totals w h full mask frame totals counts ≡ table_totals w h full mask other totals counts)
      × (table_counts w h full mask frame totals counts ≡ table_counts w h full mask other totals counts)
  unfolding table_answer table_totals table_counts table_verdict frame_verdict_by
  table_blind other a = rw (a.long, same_view a) (refl, refl, refl)

  -- an accepted call leaves the table of its mask and frame (`TableOf`): with any other buffers of the needed lengths it is accepted
  -- too, and leaves the same
  pub table_of : table_answer w h full mask frame (length totals) (length counts) ≡ Ok nothing
      → TableOf w h full mask frame (table_totals w h full mask frame totals counts) (table_counts w h full mask frame totals counts)
  table_of done = summed_table w h full mask frame _ _ (made_summed w h full mask frame totals counts done)

-- an entry that can be: no more is counted than the area has sites, and no more than full scale for each that is
pub record Credible (full sites total count : ℕ) : Type 0 where
  pub few : count ≤ sites
  pub low : total ≤ count * full

-- own_credible: so is every entry of the table of a mask and a frame, so of a table that is made, and of one recoded
pub own_credible : (w h full : ℕ) (mask frame totals counts : List ℕ) → TableOf w h full mask frame totals counts
    → (e : ℕ) → e < entries_of w h → Credible full (area_sites w h (entry_area w h e)) (held totals e) (held counts e)
own_credible w h full mask frame totals counts is e below =
    let s = table_summed w h full mask frame totals counts is in
    let sites = (sides w h s.lent.of.legal).sites in
    let most = entry_at_most w h e full (one mask) (seen mask frame) (λ i l. seen_counted mask frame full i (s.lent.range i (omega arith))) in
    let total : held totals e ≡ entry_sum w h (seen mask frame) e = rw s.totals_sum (get_d_tabulate (entries_of w h) (entry_sum w h (seen mask frame)) e below) in
    let count : held counts e ≡ entry_sum w h (one mask) e = rw s.counts_sum (get_d_tabulate (entries_of w h) (entry_sum w h (one mask)) e below) in
    record {
      few = rw count (entry_few w h e (one mask) (one_le mask));
      low = rw (total, count) (omega (arith, mul_comm full (entry_sum w h (one mask) e)));
    }

-- ---- recoding a site
-- a mask with one code changed: as long as it was, the code at the site, and every other code as it was
pub record OneCode (site code : ℕ) (mask after : List ℕ) : Type 0 where
  pub long : length after ≡ length mask
  pub here : held after site ≡ code
  pub elsewhere : (i : ℕ) → i < length mask → (i ≡ site → ⊥) → held after i ≡ held mask i

-- two calls with one site, code and table answer alike and leave the same totals and counts
pub record Alike (w h full site code : ℕ) (mask frame mask' frame' totals counts : List ℕ) : Type 0 where
  pub same_answer : recode_answer w h full site code mask frame (length totals) (length counts) ≡ recode_answer w h full site code mask' frame' (length totals) (length counts)
  pub same_totals : recode_totals w h full site code mask frame totals counts ≡ recode_totals w h full site code mask' frame' totals counts
  pub same_counts : recode_counts w h full site code mask frame totals counts ≡ recode_counts w h full site code mask' frame' totals counts

module _ (w h full site code : ℕ) (mask frame totals counts : List ℕ) where
  -- only: no second answer, no second final mask and no second final table meets the promise
  pub recode_only : Sole (recode_answer w h full site code mask frame (length totals) (length counts))
      × Sole (recode_mask w h full site code mask frame (length totals) (length counts))
      × Sole (recode_totals w h full site code mask frame totals counts)
      × Sole (recode_counts w h full site code mask frame totals counts)
  recode_only = (sole _, sole _, sole _, sole _)

  -- the paper's numbers are those of the answer
  pub recode_paper_is : paper_of (recode_answer w h full site code mask frame (length totals) (length counts)) ≡ recode_paper w h full site code mask frame (length totals) (length counts)
  unfolding recode_answer recode_paper
  recode_paper_is = counted_is_told nothing nothing (recode_verdict w h full site code mask frame (length totals) (length counts))

  -- given: 1 to 6 and 9 exactly as document 02 tables them, in that order, 5 and 6 of the site alone and with it as place (`recode_tests` has the table)
  pub recode_given : Tabled (recode_verdict w h full site code mask frame (length totals) (length counts)) (recode_tests w h full site code mask frame (length totals) (length counts))
  recode_given = recode_tabled w h full site code mask frame (length totals) (length counts)

  -- refused: where the number is not 0 mask, totals and counts are as they were, and where it is 0 so is the place. Where it is 6, over is 1; else it is 0
  pub recode_refused : RefusesCounting (recode_paper w h full site code mask frame (length totals) (length counts)) 1
      ((recode_mask w h full site code mask frame (length totals) (length counts) ≡ mask)
      × (recode_totals w h full site code mask frame totals counts ≡ totals)
      × (recode_counts w h full site code mask frame totals counts ≡ counts))
  unfolding recode_paper recode_mask recode_totals recode_counts
  recode_refused =
      refuses_counting (recode_verdict w h full site code mask frame (length totals) (length counts)) recode_given refl refl (also refl (λ _. omega arith) no_six) (λ r e. rw e (refl, refl, refl))

  -- of the mask and the frame the verdict goes by the lengths, the site's code, and whether its sample is over
  same_verdict : (mask' frame' : List ℕ) → length mask ≡ length mask' → length frame ≡ length frame' → held mask site ≡ held mask' site
      → over_either full (held mask site) code (held frame site) ≡ over_either full (held mask site) code (held frame' site)
      → recode_verdict w h full site code mask frame (length totals) (length counts) ≡ recode_verdict w h full site code mask' frame' (length totals) (length counts)
  unfolding recode_verdict
  same_verdict mask' frame' long-mask long-frame codes over = rw (long-mask, long-frame, over, codes)

  -- blind: where neither the old nor the new code is 0, what another frame holds at the site changes nothing, and what it holds elsewhere never does
  pub recode_blind : (other : List ℕ) → length frame ≡ length other → ((held mask site ≡ 0) ⊎ (code ≡ 0) → held frame site ≡ held other site)
      → Alike w h full site code mask frame mask other totals counts
      × (recode_mask w h full site code mask frame (length totals) (length counts) ≡ recode_mask w h full site code mask other (length totals) (length counts))
  unfolding recode_answer recode_mask recode_totals recode_counts
  recode_blind other long same =
      let old = shown_alike (held mask site) (held mask site) (held frame site) (held other site) (λ e. e) (λ e. e) (λ e. same (inl e)) in
      let new = shown_alike code code (held frame site) (held other site) (λ e. e) (λ e. e) (λ e. same (inr e)) in
      let v = same_verdict mask other refl long refl (over_same full (held mask site) code (held frame site) (held other site) same) in
      (record { same_answer = rw v; same_totals = rw (v, old, new); same_counts = rw v }, rw v)

  -- reads one site: masks, and frames, of one length that hold the same at the site and anything elsewhere are answered alike
  pub reads_one_site : (mask' frame' : List ℕ) → length mask ≡ length mask' → length frame ≡ length frame'
      → held mask site ≡ held mask' site → held frame site ≡ held frame' site
      → Alike w h full site code mask frame mask' frame' totals counts
  unfolding recode_answer recode_totals recode_counts
  reads_one_site mask' frame' long-mask long-frame codes samples =
      let v = same_verdict mask' frame' long-mask long-frame codes (ap (over_either full (held mask site) code) samples) in
      record { same_answer = rw v; same_totals = rw (v, codes, samples); same_counts = rw (v, codes) }

-- ---- where the areas lie
-- grid: a plane of a legal window has w / 2 / 16 blocks across and h / 2 / 12 down, rounded down
pub grid : (w h : ℕ) → bad_sides w h ≡ false → blocks_of w h ≡ w / 2 / 16 * (h / 2 / 12)
grid = blocks_are

-- block_placed: the block in row r and column c of that grid, from the plane's top left, has just the sites of the plane's rows 12 r to 12 r + 11 and columns
-- 16 c to 16 c + 15, and its entry is r × (w / 2 / 16) + c of the plane's
pub block_placed : (w h site plane r c : ℕ) → bad_sides w h ≡ false → r < h / 2 / 12 → c < w / 2 / 16
    → (Lies w h site (plane * (blocks_of w h + 1) + (r * (w / 2 / 16) + c)) → InBlock w site plane r c)
    × (InBlock w site plane r c → Lies w h site (plane * (blocks_of w h + 1) + (r * (w / 2 / 16) + c)))
block_placed w h site plane r c legal low near =
    (lies_in_block w h site plane r c legal low near, block_lies w h site plane r c legal low near)

-- centre_placed: the last entry of a plane's has just the sites of its centre
pub centre_placed : (w h site plane : ℕ)
    → (Lies w h site (plane * (blocks_of w h + 1) + blocks_of w h) → InCentre w h site plane)
    × (InCentre w h site plane → Lies w h site (plane * (blocks_of w h + 1) + blocks_of w h))
centre_placed w h site plane = (lies_in_centre w h site plane, centre_lies w h site plane)

-- left_over: a site past the last whole block across or down, and outside its plane's centre, lies in no area
pub left_over : (w h site : ℕ) → (12 * (h / 2 / 12) ≤ plane_row w site) ⊎ (16 * (w / 2 / 16) ≤ plane_column w site)
    → (InCentre w h site (plane_of w site) → ⊥) → (e : ℕ) → Lies w h site e → ⊥
left_over w h site past outside e l = ⊎_elim in_block at_centre (lt_or_ge (entry_area w h e) (blocks_of w h))
  where
    in_block : entry_area w h e < blocks_of w h → ⊥
    in_block k =
        let ends = block_in w h (entry_area w h e) k in
        let is = area_block w h (entry_area w h e) k in
        let row : plane_row w site < (block_of w (entry_area w h e)).bottom = rw is at l.bottom in
        let column : plane_column w site < (block_of w (entry_area w h e)).right = rw is at l.right in
        ⊎_elim (λ low. omega (arith, ends.0)) (λ low. omega (arith, ends.1)) past

    at_centre : blocks_of w h ≤ entry_area w h e → ⊥
    at_centre k =
        let is = area_centre w h (entry_area w h e) k in
        outside (record { of = refl; top = rw is at l.top; bottom = rw is at l.bottom; left = rw is at l.left; right = rw is at l.right })

-- of an accepted call, which makes of a mask, totals and counts these others (`Makes`)
module _ (w h full site code : ℕ) (frame mask totals counts mask' totals' counts' : List ℕ) (makes : Makes w h full site code frame mask totals counts mask' totals' counts') where
  -- one code: only the site's is changed
  pub one_code : OneCode site code mask mask'
  one_code =
      let m = made makes in
      let inside : site < length mask = omega (arith, m.of.inside, m.of.masked) in
      rw m.mask_is (record { long = recoded-long site code mask; here = recoded_here site code mask inside; elsewhere = recoded_else site code mask })

  -- afresh: of the table of the old mask it makes the table of the new one and the same frame (`TableOf`), so any number of recodes do
  pub afresh : TableOf w h full mask frame totals counts → TableOf w h full mask' frame totals' counts'
  afresh is = summed_table w h full mask' frame totals' counts' (still_summed (made makes) (table_summed w h full mask frame totals counts is))

  -- there and back: with any table (`Words`: a u32 is always below 2^32), recoding the site with its old code is accepted, and makes mask and table what they were before both
  pub there_and_back : Words totals → Words counts → Makes w h full site (held mask site) frame mask' totals' counts' mask totals counts
  there_and_back = undone w h full site code frame mask totals counts mask' totals' counts' makes

  -- 0 to 0, and another to another, leave the table as it was
  pub unmoved : (held mask site ≡ 0 → code ≡ 0) → (code ≡ 0 → held mask site ≡ 0) → Words totals → Words counts
      → (totals' ≡ totals) × (counts' ≡ counts)
  unmoved to from t c =
      let m = made makes in
      let again : (x : ℕ) → seen_at code x ≡ seen_at (held mask site) x = λ x. shown_alike code (held mask site) x x from to (λ _. refl) in
      (m.totals_is ∙ rw (again (held frame site)) (amended-same w h site _ totals t), m.counts_is ∙ rw (again 1) (amended-same w h site _ counts c))

  -- so the recode of a site that is left over changes the mask alone, with any table
  pub left_over_stays : (12 * (h / 2 / 12) ≤ plane_row w site) ⊎ (16 * (w / 2 / 16) ≤ plane_column w site) → (InCentre w h site (plane_of w site) → ⊥)
      → (totals' ≡ totals) × (counts' ≡ counts)
  left_over_stays past outside =
      let m = made makes in
      let out : (e : ℕ) → lies_in w h site e ≡ false = λ e. lies_not w h site e (left_over w h site past outside e) in
      (m.totals_is ∙ amended_nowhere w h site _ _ totals out, m.counts_is ∙ amended_nowhere w h site _ _ counts out)

  -- entry e of the table
  module _ (e : ℕ) (below : e < entries_of w h) where
    entry_is : (held totals' e ≡ cond (lies_in w h site e) (amend (seen_at (held mask site) (held frame site)) (seen_at code (held frame site)) (held totals e)) (held totals e))
        × (held counts' e ≡ cond (lies_in w h site e) (amend (seen_at (held mask site) 1) (seen_at code 1) (held counts e)) (held counts e))
    entry_is =
        let m = made makes in
        (rw m.totals_is (amended_at_lem w h site _ _ totals e (omega (arith, m.of.totalled))), rw m.counts_is (amended_at_lem w h site _ _ counts e (omega (arith, m.of.counted))))

    -- another area's stays
    pub elsewhere_stays : (Lies w h site e → ⊥) → (held totals' e ≡ held totals e) × (held counts' e ≡ held counts e)
    elsewhere_stays out = rw (lies_not w h site e out) at entry_is

    -- of an area in which the site lies: 0 to another takes the sample, and 1, off, modulo 2^32
    pub taken_off : Lies w h site e → held mask site ≡ 0 → (code ≡ 0 → ⊥)
        → (held totals' e ≡ (held totals e + 2 ^ 32 - held frame site) % 2 ^ 32) × (held counts' e ≡ (held counts e + 2 ^ 32 - 1) % 2 ^ 32)
    taken_off lies old new =
        let both = rw (lies_in_lem w h site e lies) at entry_is in (
          rw (seen_in (held mask site) (held frame site) old, seen_out code (held frame site) new, amend_off (held frame site) (held totals e)) at both.0,
          rw (seen_in (held mask site) 1 old, seen_out code 1 new, amend_off 1 (held counts e)) at both.1,
        )

    -- another to 0 adds them
    pub put_on : Lies w h site e → (held mask site ≡ 0 → ⊥) → code ≡ 0
        → (held totals' e ≡ (held totals e + held frame site) % 2 ^ 32) × (held counts' e ≡ (held counts e + 1) % 2 ^ 32)
    put_on lies old new =
        let both = rw (lies_in_lem w h site e lies) at entry_is in (
          rw (seen_out (held mask site) (held frame site) old, seen_in code (held frame site) new, amend_on (held frame site) (held totals e)) at both.0,
          rw (seen_out (held mask site) 1 old, seen_in code 1 new, amend_on 1 (held counts e)) at both.1,
        )

-- recode after table: an accepted recode of a table just made leaves the table made afresh under the new mask, and that call is accepted too
pub table_then_recode : (w h full site code : ℕ) (frame mask totals counts mask' totals' counts' : List ℕ)
    → table_answer w h full mask frame (length totals) (length counts) ≡ Ok nothing
    → Makes w h full site code frame mask (table_totals w h full mask frame totals counts) (table_counts w h full mask frame totals counts) mask' totals' counts'
    → TableOf w h full mask' frame totals' counts'
table_then_recode w h full site code frame mask totals counts mask' totals' counts' done makes =
    afresh w h full site code frame mask _ _ mask' totals' counts' makes (table_of w h full mask frame totals counts done)
