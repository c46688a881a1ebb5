-- The table of a mask and a frame, what a recode makes of it, and that this is the table of the new mask.
use Prim.Native.Nat.{ℕ, ◌*◌, ◌≤◌, ◌<◌}
use mathlib.Core.Bool.{false}
use mathlib.Core.List.{List}
use mathlib.Core.Path.{◌≡◌, sym, ap, ◌∙◌}
use native.Mathlib.Omega.{arith}
use lib.ListN.{length}
use Rattle.std.specs.Prelude.{Ok}
use Rattle.verdict.specs.Answer.{nothing}
use Rattle.laws.specs.Table.{held, tabulate}
use Rattle.laws.proofs.Tables.{length-tabulate}
use Rattle.verdict.specs.Verdict.{clear}
use Rattle.window.specs.View.{seen_at, seen, one}
use Rattle.window.proofs.Sides.{sides, scale}
use Rattle.window.proofs.Views.{seen_is, seen_le}
use Rattle.refusals.proofs.Judges.{Framed}
use Rattle.colour.specs.Centre.{too_small}
use Rattle.blocks.specs.Areas.{entries_of}
use Rattle.blocks.specs.Table.{entry_sums, table_verdict, table_answer, table_totals, table_counts}
use Rattle.blocks.specs.Recode.{recoded, amended, recode_answer, recode_mask, recode_totals, recode_counts, amended_totals, amended_counts}
use Rattle.blocks.proofs.Judged.{tabling, tabling_clear, table_clear, table_done, Recoding, recoding, recode_clear}
use Rattle.blocks.proofs.Amends.{recoded-long, recoded-all, amended_afresh}
use Rattle.blocks.proofs.Told.{table_accepted, recode_accepted}

-- a recode is accepted, and makes of a mask, totals and counts these others
pub record Makes (w h full site code : ℕ) (frame mask totals counts mask' totals' counts' : List ℕ) : Type 0 where
  pub accepted : recode_answer w h full site code mask frame (length totals) (length counts) ≡ Ok nothing
  pub makes_mask : recode_mask w h full site code mask frame (length totals) (length counts) ≡ mask'
  pub makes_totals : recode_totals w h full site code mask frame totals counts ≡ totals'
  pub makes_counts : recode_counts w h full site code mask frame totals counts ≡ counts'

-- so it passed its tests, and these are the recoded mask and the amended table
pub record Made (w h full site code : ℕ) (frame mask totals counts mask' totals' counts' : List ℕ) : Type 0 where
  pub of : Recoding w h full site code mask frame (length totals) (length counts)
  pub mask_is : mask' ≡ recoded site code mask
  pub totals_is : totals' ≡ amended_totals w h site code mask frame totals
  pub counts_is : counts' ≡ amended_counts w h site code mask counts

pub made : {w h full site code : ℕ} {frame mask totals counts mask' totals' counts' : List ℕ}
    → Makes w h full site code frame mask totals counts mask' totals' counts' → Made w h full site code frame mask totals counts mask' totals' counts'
made {w} {h} {full} {site} {code} {frame} {mask} {totals} {counts} m =
    let judged = recode_clear w h full site code mask frame (length totals) (length counts) m.accepted in
    record {
      of = recoding w h full site code mask frame (length totals) (length counts) judged;
      mask_is = sym m.makes_mask ∙ sym (recode_accepted w h full mask frame totals counts site code judged).1.1.0;
      totals_is = sym m.makes_totals ∙ sym (recode_accepted w h full mask frame totals counts site code judged).1.1.1.0;
      counts_is = sym m.makes_counts ∙ sym (recode_accepted w h full mask frame totals counts site code judged).1.1.1.1;
    }

-- totals and counts are the table of a mask and a frame: `shading_table` is accepted and leaves them, whatever its two buffers held
pub record TableOf (w h full : ℕ) (mask frame totals counts : List ℕ) : Type 0 where
  pub accepted : (t c : List ℕ) → length t ≡ entries_of w h → length c ≡ entries_of w h → table_answer w h full mask frame (length t) (length c) ≡ Ok nothing
  pub leaves_totals : (t c : List ℕ) → length t ≡ entries_of w h → length c ≡ entries_of w h → table_totals w h full mask frame t c ≡ totals
  pub leaves_counts : (t c : List ℕ) → length t ≡ entries_of w h → length c ≡ entries_of w h → table_counts w h full mask frame t c ≡ counts

-- that is: the window is legal and large enough, and they are each area's sums
pub record Summed (w h full : ℕ) (mask frame totals counts : List ℕ) : Type 0 where
  pub lent : Framed w h full mask frame
  pub large : too_small w h ≡ false
  pub totals_sum : totals ≡ entry_sums w h (seen mask frame)
  pub counts_sum : counts ≡ entry_sums w h (one mask)

module _ (w h full : ℕ) (mask frame totals counts : List ℕ) where
  pub summed_table : Summed w h full mask frame totals counts → TableOf w h full mask frame totals counts
  summed_table s = record {
    accepted = λ t c p q. table_done w h full mask frame (length t) (length c) (judged t c p q);
    leaves_totals = λ t c p q. sym (table_accepted w h full mask frame t c (judged t c p q)).1.1.0 ∙ sym s.totals_sum;
    leaves_counts = λ t c p q. sym (table_accepted w h full mask frame t c (judged t c p q)).1.1.1 ∙ sym s.counts_sum;
  }
    where
      judged : (t c : List ℕ) → length t ≡ entries_of w h → length c ≡ entries_of w h → table_verdict w h full mask frame (length t) (length c) ≡ clear
      judged t c p q = tabling_clear w h full mask frame (length t) (length c) (record { lent = s.lent; totalled = p; counted = q; large = s.large })

  pub table_summed : TableOf w h full mask frame totals counts → Summed w h full mask frame totals counts
  table_summed is =
      let zeros = tabulate (entries_of w h) (λ (e : ℕ). 0) in
      let long = length-tabulate (entries_of w h) (λ (e : ℕ). 0) in
      let judged = table_clear w h full mask frame (length zeros) (length zeros) (is.accepted zeros zeros long long) in
      let a = tabling w h full mask frame (length zeros) (length zeros) judged in
      record {
        lent = a.lent;
        large = a.large;
        totals_sum = sym (is.leaves_totals zeros zeros long long) ∙ sym (table_accepted w h full mask frame zeros zeros judged).1.1.0;
        counts_sum = sym (is.leaves_counts zeros zeros long long) ∙ sym (table_accepted w h full mask frame zeros zeros judged).1.1.1;
      }

-- an accepted call leaves the table of its mask and frame
pub made_summed : (w h full : ℕ) (mask frame totals counts : List ℕ) → table_answer w h full mask frame (length totals) (length counts) ≡ Ok nothing
    → Summed w h full mask frame (table_totals w h full mask frame totals counts) (table_counts w h full mask frame totals counts)
made_summed w h full mask frame totals counts done =
    let judged = table_clear w h full mask frame (length totals) (length counts) done in
    let a = tabling w h full mask frame (length totals) (length counts) judged in
    record {
      lent = a.lent;
      large = a.large;
      totals_sum = sym (table_accepted w h full mask frame totals counts judged).1.1.0;
      counts_sum = sym (table_accepted w h full mask frame totals counts judged).1.1.1;
    }

-- and an accepted recode
module _ {w h full site code : ℕ} {frame mask totals counts mask' totals' counts' : List ℕ} (m : Made w h full site code frame mask totals counts mask' totals' counts') where
  -- leaves a frame in range that was so under the old mask
  still_framed : Framed w h full mask frame → Framed w h full (recoded site code mask) frame
  still_framed f =
      let long = f.of.masked in
      record {
        of = record {
          legal = f.of.legal;
          scaled = f.of.scaled;
          masked = recoded-long site code mask ∙ long;
          codes = λ i l. recoded-all site code mask (λ (i c : ℕ). c ≤ 3) m.of.new_code (λ i l. f.of.codes i (omega arith)) i (omega arith);
        };
        framed = f.framed;
        range = λ i l. rw (seen_is (recoded site code mask) frame i)
            (recoded-all site code mask (λ (i c : ℕ). seen_at c (held frame i) ≤ full) m.of.new_low (λ i l. rw (seen_is mask frame i) at (f.range i (omega arith))) i (omega arith));
      }

  -- and amends the table of the old mask to that of the new one
  pub still_summed : Summed w h full mask frame totals counts → Summed w h full mask' frame totals' counts'
  unfolding seen one
  still_summed s =
      let legal = sides w h m.of.legal in
      let sites = legal.sites in
      let high = (scale full m.of.scaled).high in
      let f = still_framed s.lent in
      let long : length mask ≡ h * w = m.of.masked ∙ sites in
      let inside : site < h * w = omega (arith, m.of.inside) in
      rw m.mask_is
      (record {
        lent = f;
        large = s.large;
        totals_sum =
            m.totals_is
            ∙ ap (amended w h site (seen_at (held mask site) (held frame site)) (seen_at code (held frame site))) s.totals_sum
            ∙ amended_afresh w h site code mask (held frame) legal long inside (λ i l. omega (arith, f.range i (omega arith)));
        counts_sum =
            m.counts_is
            ∙ ap (amended w h site (seen_at (held mask site) 1) (seen_at code 1)) s.counts_sum
            ∙ amended_afresh w h site code mask (λ (i : ℕ). 1) legal long inside (λ i l. seen_le (held (recoded site code mask) i) 1 4095 (omega arith));
      })
