-- Where the areas of a plane lie, in numbers.
use Prim.Native.Nat.{ℕ, ◌+◌, ◌-◌, ◌*◌, ◌/◌, ◌%◌, ◌≤◌, ◌<◌}
use mathlib.Core.Bool.{false}
use mathlib.Core.Path.{◌≡◌, sym, ap, ◌∙◌}
use native.Mathlib.Nat.{mul_comm}
use native.Mathlib.Omega.{arith}
use lib.Arith.{digits_div, digits_mod, digits_lt}
use Rattle.window.specs.Shape.{bad_sides}
use Rattle.plane.specs.Plane.{plane_of, plane_row, plane_column}
use Rattle.plane.specs.declared.PlaneBox.{PlaneBox}
use Rattle.colour.specs.Centre.{centre_of}
use Rattle.blocks.specs.Areas.{blocks_of, block_of, area_of, entry_at, entry_plane, entry_area}
use Rattle.blocks.proofs.Areas.{blocks_are, area_block, area_centre, entry_plane_lem, entry_area_lem}
use Rattle.blocks.proofs.Sites.{Lies}

-- a site of row r and column c of the grid of a plane's blocks
pub record InBlock (w site plane r c : ℕ) : Type 0 where
  pub of : plane_of w site ≡ plane
  pub row : plane_row w site / 12 ≡ r
  pub column : plane_column w site / 16 ≡ c

-- a site of the centre of a plane
pub record InCentre (w h site plane : ℕ) : Type 0 where
  pub of : plane_of w site ≡ plane
  pub top : (h / 2 - 24) / 2 ≤ plane_row w site
  pub bottom : plane_row w site < (h / 2 - 24) / 2 + 24
  pub left : (w / 2 - 32) / 2 ≤ plane_column w site
  pub right : plane_column w site < (w / 2 - 32) / 2 + 32

-- the block of row r and column c of the grid is block r × (w / 2 / 16) + c
module _ (w h site plane r c : ℕ) (legal : bad_sides w h ≡ false) (low : r < h / 2 / 12) (near : c < w / 2 / 16) where
  abbrev block : ℕ
  block = r * (w / 2 / 16) + c

  in_blocks : block < blocks_of w h
  in_blocks = omega (arith, digits_lt low near, blocks_are w h legal, mul_comm (w / 2 / 16) (h / 2 / 12))

  -- the plane and the box of its entry
  of_plane : entry_plane w h (entry_at w h plane block) ≡ plane
  of_plane = entry_plane_lem w h plane block (omega (arith, in_blocks))

  of_box : area_of w h (entry_area w h (entry_at w h plane block)) ≡ block_of w block
  of_box = ap (area_of w h) (entry_area_lem w h plane block (omega (arith, in_blocks))) ∙ area_block w h block in_blocks

  rows : block / (w / 2 / 16) ≡ r
  rows = digits_div r near

  columns : block % (w / 2 / 16) ≡ c
  columns = digits_mod r near

  pub lies_in_block : Lies w h site (entry_at w h plane block) → InBlock w site plane r c
  lies_in_block l = record {
    of = l.plane ∙ of_plane;
    row = omega (arith, l.top, l.bottom, ap (λ (b : PlaneBox). b.top) of_box, ap (λ (b : PlaneBox). b.bottom) of_box, rows);
    column = omega (arith, l.left, l.right, ap (λ (b : PlaneBox). b.left) of_box, ap (λ (b : PlaneBox). b.right) of_box, columns);
  }

  pub block_lies : InBlock w site plane r c → Lies w h site (entry_at w h plane block)
  block_lies i = record {
    plane = i.of ∙ sym of_plane;
    top = omega (arith, i.row, ap (λ (b : PlaneBox). b.top) of_box, rows);
    bottom = omega (arith, i.row, ap (λ (b : PlaneBox). b.bottom) of_box, rows);
    left = omega (arith, i.column, ap (λ (b : PlaneBox). b.left) of_box, columns);
    right = omega (arith, i.column, ap (λ (b : PlaneBox). b.right) of_box, columns);
  }

-- the centre comes after the blocks
module _ (w h site plane : ℕ) where
  centre_plane : entry_plane w h (entry_at w h plane (blocks_of w h)) ≡ plane
  centre_plane = entry_plane_lem w h plane (blocks_of w h) (omega arith)

  centre_box : area_of w h (entry_area w h (entry_at w h plane (blocks_of w h))) ≡ centre_of w h
  centre_box = ap (area_of w h) (entry_area_lem w h plane (blocks_of w h) (omega arith)) ∙ area_centre w h (blocks_of w h) (omega arith)

  pub lies_in_centre : Lies w h site (entry_at w h plane (blocks_of w h)) → InCentre w h site plane
  lies_in_centre l = record {
    of = l.plane ∙ centre_plane;
    top = omega (arith, l.top, ap (λ (b : PlaneBox). b.top) centre_box);
    bottom = omega (arith, l.bottom, ap (λ (b : PlaneBox). b.bottom) centre_box);
    left = omega (arith, l.left, ap (λ (b : PlaneBox). b.left) centre_box);
    right = omega (arith, l.right, ap (λ (b : PlaneBox). b.right) centre_box);
  }

  pub centre_lies : InCentre w h site plane → Lies w h site (entry_at w h plane (blocks_of w h))
  centre_lies i = record {
    plane = i.of ∙ sym centre_plane;
    top = omega (arith, i.top, ap (λ (b : PlaneBox). b.top) centre_box);
    bottom = omega (arith, i.bottom, ap (λ (b : PlaneBox). b.bottom) centre_box);
    left = omega (arith, i.left, ap (λ (b : PlaneBox). b.left) centre_box);
    right = omega (arith, i.right, ap (λ (b : PlaneBox). b.right) centre_box);
  }
