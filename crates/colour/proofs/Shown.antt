-- What is seen in the four centres: by colour, and how much it can be.
use Prim.Native.Nat.{ℕ, ◌+◌, ◌-◌, ◌*◌, ◌/◌, ◌≤◌, ◌<◌}
use mathlib.Core.List.{List}
use mathlib.Core.Path.{◌≡◌, ap, fun_ext}
use native.Mathlib.Nat.{le_trans}
use native.Mathlib.Omega.{arith}
use lib.ListN.{length}
use Rattle.laws.proofs.Cases.{times_le}
use Rattle.window.specs.Shape.{sites_of}
use Rattle.window.specs.View.{seen, one}
use Rattle.window.proofs.Sides.{Sides}
use Rattle.window.proofs.Views.{one_le, seen_counted}
use Rattle.plane.specs.Plane.{box_sums}
use Rattle.plane.specs.declared.PlaneBox.{PlaneBox}
use Rattle.plane.specs.declared.Sums.{Sums}
use Rattle.plane.proofs.Planes.{box_few, box_at_most, sums_accepted}
use Rattle.colour.specs.Bayer.{mosaic_of, centres_of}
use Rattle.colour.specs.Centre.{centre_of, centre_sums}
use Rattle.colour.specs.Colour.{centres_seen}
use Rattle.colour.specs.Mosaic.{Mosaic}

-- where the centre begins tells where it ends
pub centre_is : (w h top left : ℕ) → top ≡ (h / 2 - 24) / 2 → left ≡ (w / 2 - 32) / 2
    → record { top = top; bottom = top + 24; left = left; right = left + 32 } ≡ centre_of w h
centre_is w h top left p q = rw (p, q)

-- the sums of four planes, by colour
pub by_colour : (order : ℕ) (shown : PlaneBox → ℕ → Sums) (planes : Mosaic) (within box : PlaneBox) (r gr b gb : Sums)
    → planes ≡ mosaic_of order → within ≡ box
    → r ≡ shown within planes.r → gr ≡ shown within planes.gr → b ≡ shown within planes.b → gb ≡ shown within planes.gb
    → record { r = r; gr = gr; b = b; gb = gb } ≡ centres_of order (shown box)
by_colour order shown planes within box r gr b gb p q e₁ e₂ e₃ e₄ = rw (e₁, e₂, e₃, e₄, p, q)

-- buffers that have the window's sites show what is in the centres
pub shown_whole : (w h order : ℕ) (mask frame : List ℕ) → Sides w h → length mask ≡ sites_of w h → length frame ≡ sites_of w h
    → centres_of order (λ (plane : ℕ). box_sums w h plane (centre_of w h) mask frame) ≡ centres_seen w h order mask frame
shown_whole w h order mask frame legal m f =
    ap (λ (shown : ℕ → Sums). centres_of order shown) (fun_ext (λ plane. sums_accepted w h plane (centre_of w h) mask frame legal m f))

-- a centre has 768 sites, and what is seen there is at most full scale for each that is counted
module _ (w h : ℕ) (mask frame : List ℕ) (plane : ℕ) where
  pub few : (centre_sums w h (seen mask frame) (one mask) plane).count ≤ 768
  few =
      let high : (centre_of w h).bottom - (centre_of w h).top ≤ 24 = omega arith in
      let wide : (centre_of w h).right - (centre_of w h).left ≤ 32 = omega arith in
      le_trans (box_few w h plane (centre_of w h) (one mask) (one_le mask)) (times_le _ _ 24 32 high wide)

  pub low : (full : ℕ) → ((i : ℕ) → i < h * w → seen mask frame i ≤ full)
      → (centre_sums w h (seen mask frame) (one mask) plane).total ≤ full * (centre_sums w h (seen mask frame) (one mask) plane).count
  low full within =
      box_at_most w h plane (centre_of w h) full (one mask) (seen mask frame) (λ i l. seen_counted mask frame full i (within i l))
