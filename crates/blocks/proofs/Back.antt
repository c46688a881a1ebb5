-- A recode that is undone: the way back is accepted and restores mask and table.
use Prim.Native.Nat.{ℕ}
use mathlib.Core.List.{List}
use mathlib.Core.Path.{◌≡◌, sym, ap, ◌∙◌}
use native.Mathlib.Nat.{le_trans}
use native.Mathlib.Omega.{arith}
use lib.ListN.{length}
use Rattle.laws.specs.Table.{held}
use Rattle.verdict.specs.Verdict.{clear}
use Rattle.window.specs.View.{seen_at}
use Rattle.window.proofs.Sides.{scale}
use Rattle.window.proofs.Views.{seen_le}
use Rattle.blocks.specs.Recode.{recoded, amended, recode_verdict, amended_totals, amended_counts}
use Rattle.blocks.proofs.Judged.{Recoding, recoding_clear, recode_done}
use Rattle.blocks.proofs.Amends.{Words, amended-long, amended_back, recoded-long, recoded_here, recoded_back}
use Rattle.blocks.proofs.Afresh.{Makes, made}
use Rattle.blocks.proofs.Told.{recode_accepted}

module _ (w h full site code : ℕ) (mask frame totals counts : List ℕ) (a : Recoding w h full site code mask frame (length totals) (length counts))
    (total-words : Words totals) (count-words : Words counts) where
  abbrev M : List ℕ
  M = recoded site code mask

  abbrev T : List ℕ
  T = amended_totals w h site code mask frame totals

  abbrev C : List ℕ
  C = amended_counts w h site code mask counts

  here : held M site ≡ code
  here = recoded_here site code mask (omega (arith, a.inside, a.masked))

  judged : recode_verdict w h full site (held mask site) M frame (length T) (length C) ≡ clear
  judged =
      recoding_clear w h full site (held mask site) M frame (length T) (length C)
      (record {
        legal = a.legal;
        scaled = a.scaled;
        inside = a.inside;
        masked = recoded-long site code mask ∙ a.masked;
        framed = a.framed;
        totalled = amended-long w h site _ _ totals ∙ a.totalled;
        counted = amended-long w h site _ _ counts ∙ a.counted;
        old_code = rw here a.new_code;
        new_code = a.old_code;
        old_low = rw here a.new_low;
        new_low = a.old_low;
        large = a.large;
      })

  pub back : Makes w h full site (held mask site) frame M T C mask totals counts
  back =
      let high = (scale full a.scaled).high in
      let again = recode_accepted w h full M frame T C site (held mask site) judged in
      record {
        accepted = recode_done w h full site (held mask site) M frame (length T) (length C) judged;
        makes_mask = sym again.1.1.0 ∙ recoded_back site code mask (omega (arith, a.inside, a.masked));
        makes_totals =
            sym again.1.1.1.0
            ∙ ap (λ (c : ℕ). amended w h site (seen_at c (held frame site)) (seen_at (held mask site) (held frame site)) T) here
            ∙ amended_back w h site _ _ totals (le_trans a.old_low high) (le_trans a.new_low high) total-words;
        makes_counts =
            sym again.1.1.1.1
            ∙ ap (λ (c : ℕ). amended w h site (seen_at c 1) (seen_at (held mask site) 1) C) here
            ∙ amended_back w h site _ _ counts (seen_le (held mask site) 1 4095 (omega arith)) (seen_le code 1 4095 (omega arith)) count-words;
      }

pub undone : (w h full site code : ℕ) (frame mask totals counts mask' totals' counts' : List ℕ)
    → Makes w h full site code frame mask totals counts mask' totals' counts' → Words totals → Words counts
    → Makes w h full site (held mask site) frame mask' totals' counts' mask totals counts
undone w h full site code frame mask totals counts mask' totals' counts' m t c =
    let is = made m in
    rw (is.mask_is, is.totals_is, is.counts_is) (back w h full site code mask frame totals counts is.of t c)
