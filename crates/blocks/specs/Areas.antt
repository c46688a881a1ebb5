-- Document 02 j: the areas of a plane, which are its blocks and its centre, and the table that has an entry for each.
use Rattle.std.specs.Prelude.{ℕ, ◌+◌, ◌-◌, ◌*◌, ◌/◌, ◌%◌, Bool, cond, ◌&&◌, eqb, leb, ltb}
use Rattle.verdict.specs.Verdict.{Verdict, ◌⨟◌, refuse_if}
use Rattle.verdict.specs.declared.Refusal.TheVariants.{Length}
use Rattle.window.specs.Shape.{bad_sides}
use Rattle.refusals.specs.Judge.{other_than}
use Rattle.plane.specs.Plane.{plane_of, plane_row, plane_column}
use Rattle.plane.specs.declared.PlaneBox.{PlaneBox}
use Rattle.colour.specs.Centre.{centre_of}

-- blocks are 16 wide and 12 high, from a plane's top left; what is left over at the right and lower edge is in none
abbrev pub blocks_across : ℕ → ℕ
blocks_across w = w / 2 / 16

abbrev pub blocks_down : ℕ → ℕ
blocks_down h = h / 2 / 12

-- how many blocks a plane has; sides that no window has make none
unfoldable pub blocks_of : ℕ → ℕ → ℕ
blocks_of w h = cond (bad_sides w h) 0 (blocks_across w * blocks_down h)

-- block k of a plane, in row order
abbrev pub block_of : ℕ → ℕ → PlaneBox
block_of w k = record {
  top = 12 * (k / blocks_across w);
  bottom = 12 * (k / blocks_across w) + 12;
  left = 16 * (k % blocks_across w);
  right = 16 * (k % blocks_across w) + 16;
}

-- the areas of a plane: its blocks, then its centre, which is document 01's
abbrev pub areas_of : ℕ → ℕ → ℕ
areas_of w h = blocks_of w h + 1

unfoldable pub area_of : ℕ → ℕ → ℕ → PlaneBox
area_of w h k = cond (ltb k (blocks_of w h)) (block_of w k) (centre_of w h)

-- how many sites a box has, and so an area
abbrev pub box_sites : PlaneBox → ℕ
box_sites within = (within.bottom - within.top) * (within.right - within.left)

unfoldable pub area_sites : ℕ → ℕ → ℕ → ℕ
area_sites w h k = box_sites (area_of w h k)

-- a table has an entry for each area of each plane, the areas of plane (0,0), (0,1), (1,0), (1,1) in turn
abbrev pub entries_of : ℕ → ℕ → ℕ
entries_of w h = 4 * areas_of w h

-- the entry of area k of a plane; and the plane and the area of entry e
abbrev pub entry_at : ℕ → ℕ → ℕ → ℕ → ℕ
entry_at w h plane k = plane * areas_of w h + k

abbrev pub entry_plane : ℕ → ℕ → ℕ → ℕ
entry_plane w h e = e / areas_of w h

abbrev pub entry_area : ℕ → ℕ → ℕ → ℕ
entry_area w h e = e % areas_of w h

-- whether row u and column v of a plane are in a box
abbrev pub in_box : PlaneBox → ℕ → ℕ → Bool
in_box within u v =
    (leb within.top u && ltb u within.bottom) && (leb within.left v && ltb v within.right)

-- whether a site lies in the area of entry e
unfoldable pub lies_in : ℕ → ℕ → ℕ → ℕ → Bool
lies_in w h site e =
    eqb (plane_of w site) (entry_plane w h e) && in_box (area_of w h (entry_area w h e)) (plane_row w site) (plane_column w site)

-- 4 of a table's two buffers, by their lengths
abbrev pub table_lengths : ℕ → ℕ → ℕ → ℕ → Verdict
table_lengths w h totals counts =
    refuse_if Length (other_than (entries_of w h) totals) ⨟ refuse_if Length (other_than (entries_of w h) counts)
