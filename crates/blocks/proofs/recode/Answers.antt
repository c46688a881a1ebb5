-- `recode` is right because it amends totals by the sample, and counts by 1, each as the two codes show it.
use mathlib.Core.Path.{◌∙◌}
use native.Mathlib.Omega.{arith}
use Rattle.blocks.proofs.Entries.{amended-found, recoded-set}
use Rattle.blocks.proofs.recode.Goals as goal

pub returns : goal.returns
returns c = let a = c.args in
    record {
      mask_after = recoded-set a.at.site a.code a.mask.now (omega arith);
      totals_after = c.amend_areas.ensures
          ∙ amended-found a.at.width a.at.height a.at.site _ _ _ _ _ _ a.totals.now a.at.legal c.requires.totals_len.0 c.block_entry-block.ensures.place c.centre_entry-centre.ensures.place (c.from-was.ensures ∙ c.seen_at.ensures) (c.from-is.ensures ∙ c.seen_at-2.ensures);
      counts_after = c.amend_areas-2.ensures
          ∙ amended-found a.at.width a.at.height a.at.site _ _ _ _ _ _ a.counts.now a.at.legal c.requires.totals_len.1 c.block_entry-block.ensures.place c.centre_entry-centre.ensures.place c.one_at.ensures.0 c.one_at-2.ensures.0;
    }
