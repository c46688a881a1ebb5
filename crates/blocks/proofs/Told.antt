-- What the code sees of an entry, and what the verdict makes of answers and buffers.
use Prim.Native.Nat.{ℕ, ◌+◌, ◌*◌, ◌≤◌, ◌<◌}
use mathlib.Core.List.{List}
use mathlib.Core.Path.{◌≡◌, refl, ap, ◌∙◌}
use native.Mathlib.Omega.{arith}
use lib.ListN.{length}
use Rattle.verdict.specs.Answer.{nothing}
use Rattle.verdict.specs.Verdict.{clear}
use Rattle.std.specs.Prelude.{Ok}
use Rattle.window.specs.Shape.{sites_of}
use Rattle.window.specs.View.{seen, one}
use Rattle.window.proofs.Sides.{Sides}
use Rattle.plane.specs.Plane.{box_sums}
use Rattle.plane.specs.declared.PlaneBox.{PlaneBox}
use Rattle.plane.specs.declared.Sums.{Sums}
use Rattle.plane.proofs.Planes.{sums_accepted}
use Rattle.blocks.specs.Areas.{blocks_of, areas_of, area_of}
use Rattle.blocks.specs.Table.{entry_sum, entry_sums, table_verdict, table_answer, paper_of, table_paper, table_totals, table_counts}
use Rattle.blocks.specs.Recode.{recode_verdict, recode_answer, recode_paper, recoded, recode_mask, recode_totals, recode_counts, amended_totals, amended_counts}
use Rattle.blocks.proofs.Areas.{entry_plane_lem, entry_area_lem}

-- buffers that have the window's sites show what is in area k of a plane
pub entry_summed : (w h areas k : ℕ) (mask frame : List ℕ) (within : PlaneBox) → Sides w h → length mask ≡ sites_of w h → length frame ≡ sites_of w h
    → areas ≡ areas_of w h → k < areas → within ≡ area_of w h k → (plane : ℕ) (r : Sums) → r ≡ box_sums w h plane within mask frame
    → (r.total ≡ entry_sum w h (seen mask frame) (plane * areas + k)) × (r.count ≡ entry_sum w h (one mask) (plane * areas + k))
unfolding entry_sum
entry_summed w h areas k mask frame within legal m f p last q plane r s =
    let is = s ∙ sums_accepted w h plane within mask frame legal m f in
    let in-plane : k ≤ blocks_of w h = omega arith in
    rw (p, entry_plane_lem w h plane k in-plane, entry_area_lem w h plane k in-plane, ← q) (ap (λ (x : Sums). x.total) is, ap (λ (x : Sums). x.count) is)

module _ (w h full : ℕ) (mask frame totals counts : List ℕ) where
  pub table_accepted : table_verdict w h full mask frame (length totals) (length counts) ≡ clear
      → (Ok nothing ≡ table_answer w h full mask frame (length totals) (length counts)) × ((paper_of (Ok nothing) ≡ table_paper w h full mask frame (length totals) (length counts))
      × ((entry_sums w h (seen mask frame) ≡ table_totals w h full mask frame totals counts) × (entry_sums w h (one mask) ≡ table_counts w h full mask frame totals counts)))
  unfolding table_answer table_paper table_totals table_counts
  table_accepted e = rw e (refl, (refl, (refl, refl)))

  module _ (site code : ℕ) where
    pub recode_accepted : recode_verdict w h full site code mask frame (length totals) (length counts) ≡ clear
        → (Ok nothing ≡ recode_answer w h full site code mask frame (length totals) (length counts)) × ((paper_of (Ok nothing) ≡ recode_paper w h full site code mask frame (length totals) (length counts))
        × ((recoded site code mask ≡ recode_mask w h full site code mask frame (length totals) (length counts))
        × ((amended_totals w h site code mask frame totals ≡ recode_totals w h full site code mask frame totals counts)
        × (amended_counts w h site code mask counts ≡ recode_counts w h full site code mask frame totals counts))))
    unfolding recode_answer recode_paper recode_mask recode_totals recode_counts
    recode_accepted e = rw e (refl, (refl, (refl, (refl, refl))))
