-- The entries of a table: where each stands, what a ratio reads of them, and what a window leaves in them.
use Prim.Native.Nat.{ℕ, ◌+◌, ◌*◌, ◌≤◌, ◌<◌}
use mathlib.Core.Bool.{Bool, true, false, cond}
use mathlib.Core.List.{List}
use mathlib.Core.Path.{◌≡◌, refl, sym, ap, ap₂, ◌∙◌}
use native.Mathlib.Nat.{le_trans}
use native.Mathlib.Omega.{arith}
use lib.Arith.{digits_div, digits_mod}
use lib.Dec.{eqb}
use lib.ListN.{get_or}
use Rattle.laws.specs.Table.{held}
use Rattle.laws.proofs.Cases.{times_le}
use Rattle.laws.proofs.Tables.{get_d_tabulate}
use Rattle.window.specs.Shape.{sites_of}
use Rattle.window.specs.View.{surveyed, seen, one}
use Rattle.window.proofs.Sides.{sides}
use Rattle.plane.specs.Plane.{plane_of, site_at}
use Rattle.plane.proofs.Planes.{site_in, plane_of_lem, box_level}
use Rattle.colour.specs.Bayer.{mosaic, mosaic_of}
use Rattle.blocks.specs.Areas.{blocks_of, area_sites, area_of, entries_of, entry_at, entry_plane, entry_area}
use Rattle.blocks.specs.Table.{entry_sum}
use Rattle.blocks.proofs.Areas.{block_sites, centre_sites, entry_below, entry_area_lem}
use Rattle.blocks.proofs.Sites.{plane_few}
use Rattle.blocks.proofs.Afresh.{TableOf, table_summed}
use Rattle.shading.specs.Shade.{tint, shade_of, written_of}
use Rattle.shading.specs.Judge.{impossible_in, planes_of, entry_of, tint_of, shade_in, shade_at}
use Rattle.shading.specs.Walk.{Possible}
use Rattle.shading.specs.declared.Asked.{Asked}
use Rattle.shading.specs.declared.Lengths.{Lengths}
use Rattle.shading.specs.OfRatio.{Planes, Tint}
use Rattle.shading.proofs.Judging.{Accepted, credible}
use Rattle.shading.proofs.Shades.{Fits, fits}

-- a window has four planes
pub record InFour (planes : Planes) : Type 0 where
  pub colour : planes.colour < 4
  pub green : planes.green < 4

pub in_four : (order ratio : ℕ) → InFour (planes_of order ratio)
unfolding planes_of mosaic_of
in_four order ratio = by (eqb ratio 0) (eqb order 0) (eqb order 1) (eqb order 2)
  where
    of : (t : Bool) (r gr b gb : ℕ) → r < 4 → gr < 4 → b < 4 → gb < 4
        → InFour (cond t (record { colour = r; green = gr }) (record { colour = b; green = gb }))
    of true r gr b gb r-low gr-low b-low gb-low = record { colour = r-low; green = gr-low }
    of false r gr b gb r-low gr-low b-low gb-low = record { colour = b-low; green = gb-low }

    by : (t p q s : Bool)
        → let m = cond p (mosaic 0 1 3 2) (cond q (mosaic 1 0 2 3) (cond s (mosaic 3 2 0 1) (mosaic 2 3 1 0))) in
        InFour (cond t (record { colour = m.r; green = m.gr }) (record { colour = m.b; green = m.gb }))
    by t true q s = of t 0 1 3 2 (omega arith) (omega arith) (omega arith) (omega arith)
    by t false true s = of t 1 0 2 3 (omega arith) (omega arith) (omega arith) (omega arith)
    by t false false true = of t 3 2 0 1 (omega arith) (omega arith) (omega arith) (omega arith)
    by t false false false = of t 2 3 1 0 (omega arith) (omega arith) (omega arith) (omega arith)

-- ---- what a table that 11 lets pass can hold
module _ (w h full : ℕ) (totals counts : List ℕ) (scale : full ≤ 4095) (possible : impossible_in w h full totals counts ≡ false) where
  -- of area k of a plane
  pub entry_possible : (plane k : ℕ) → plane < 4 → k ≤ blocks_of w h
      → (held counts (entry_at w h plane k) ≤ area_sites w h k) × (held totals (entry_at w h plane k) ≤ 4095 * area_sites w h k)
  entry_possible plane k few last =
      let at = entry_at w h plane k in
      let of = credible w h full totals counts possible at (entry_below w h plane k last few) in
      let below = rw (entry_area_lem w h plane k last) at of.few in
      (below, omega (arith, of.low, times_le (held counts at) full (area_sites w h k) 4095 below scale))

  -- of area k of two planes
  pub tint-possible : (of : Planes) → InFour of → (k : ℕ) → k ≤ blocks_of w h
      → Possible (area_sites w h k) (tint (entry_of w h totals counts of.colour k) (entry_of w h totals counts of.green k))
  tint-possible of low k last =
      let colour = entry_possible of.colour k low.colour last in
      let green = entry_possible of.green k low.green last in
      (colour.0, colour.1, green.0, green.1)

-- ---- what a ratio reads
module _ (call : Asked) (totals counts : List ℕ) (planes : Planes) where
  -- of area k of its two planes
  abbrev pub area : ℕ → Tint
  area k = tint (entry_of call.width call.height totals counts planes.colour k) (entry_of call.width call.height totals counts planes.green k)

  pub shade_in_lem : (ratio k : ℕ) → planes_of call.order ratio ≡ planes
      → shade_in call totals counts ratio k ≡ written_of (shade_of call.black call.limit (area k) (area (blocks_of call.width call.height)))
  unfolding shade_in tint_of
  shade_in_lem ratio k e = rw e

-- block k of a ratio stands at place k of its own half of a buffer
pub shade_at_lem : (call : Asked) (totals counts : List ℕ) (ratio k : ℕ) → k < blocks_of call.width call.height
    → shade_at call totals counts (ratio * blocks_of call.width call.height + k) ≡ shade_in call totals counts ratio k
shade_at_lem call totals counts ratio k l = ap₂ (λ (x y : ℕ). shade_in call totals counts x y) (digits_div ratio l) (digits_mod ratio l)

-- of an accepted call, every block and ratio fits
module _ (call : Asked) (long : Lengths) (totals counts : List ℕ) (a : Accepted call long totals counts) where
  pub shade_fits : (ratio k : ℕ) → k < blocks_of call.width call.height → Fits (shade_in call totals counts ratio k)
  shade_fits ratio k l =
      let w = call.width in
      let h = call.height in
      let planes = planes_of call.order ratio in
      let of = in_four call.order ratio in
      let can = tint-possible w h call.full totals counts a.of.scale a.possible planes of in
      rw (shade_in_lem call totals counts planes ratio k refl)
      (fits call.black call.limit (area call totals counts planes k) (area call totals counts planes (blocks_of w h)) (le_trans a.of.dark a.of.scale)
      (rw (block_sites w h k l) at (can k (omega arith)))
      (rw (centre_sites w h (blocks_of w h) (omega arith)) at (can (blocks_of w h) (omega arith))))

-- ---- the table of a mask and a frame
module _ (w h full : ℕ) (mask frame totals counts : List ℕ) (is : TableOf w h full mask frame totals counts) where
  -- where all surveyed samples of a plane are equal, its totals are that sample × count
  pub even_entry : (s : ℕ → ℕ) → ((i : ℕ) → i < sites_of w h → surveyed (get_or mask i 0) ≡ true → get_or frame i 0 ≡ s (plane_of w i))
      → (e : ℕ) → e < entries_of w h → held totals e ≡ s (entry_plane w h e) * held counts e
  unfolding entry_sum
  even_entry s same e l =
      let summed = table_summed w h full mask frame totals counts is in
      let sites = (sides w h summed.lent.of.legal).sites in
      let plane = entry_plane w h e in
      let total : held totals e ≡ entry_sum w h (seen mask frame) e = rw summed.totals_sum (get_d_tabulate (entries_of w h) (entry_sum w h (seen mask frame)) e l) in
      let count : held counts e ≡ entry_sum w h (one mask) e = rw summed.counts_sum (get_d_tabulate (entries_of w h) (entry_sum w h (one mask)) e l) in
      total
      ∙ box_level w h plane (area_of w h (entry_area w h e)) mask frame (s plane)
      (λ u v p q t. same (site_at w plane u v) (omega (arith, site_in w h plane u p v q)) t ∙ ap s (plane_of_lem w plane u v q (plane_few w h e l)))
      ∙ sym (ap (λ (n : ℕ). s plane * n) count)
