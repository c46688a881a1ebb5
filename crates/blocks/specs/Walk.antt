-- What the inner functions promise: the entries in whose areas a site lies, found by dividing, and entries of which one is amended.
use Rattle.std.specs.Prelude.{ℕ, ◌+◌, ◌*◌, ◌/◌, ◌<◌, ◌≡◌, Bool, false, cond, ◌&&◌, Option, Some, None, List, eqb, ltb, length, set, zero, suc}
use Rattle.laws.specs.Table.{held, tabulate}
use Rattle.plane.specs.Plane.{plane_of, plane_row, plane_column}
use Rattle.colour.specs.Centre.{centre_of}
use Rattle.blocks.specs.Areas.{blocks_across, blocks_down, blocks_of, entry_at, in_box}
use Rattle.blocks.specs.Recode.{amend}

-- entries of which those of area k are written, of the first n planes
unfoldable pub stores : List ℕ → ℕ → ℕ → List ℕ → ℕ → List ℕ
stores entries areas k of_planes zero = entries
stores entries areas k of_planes (suc n) = set (stores entries areas k of_planes n) (n * areas + k) (held of_planes n)

-- the entry of the block in which a site lies, if it lies in one
unfoldable pub block_entry : ℕ → ℕ → ℕ → Option ℕ
block_entry w h site =
    let row = plane_row w site / 12 in
    let column = plane_column w site / 16 in
    cond (ltb row (blocks_down h) && ltb column (blocks_across w)) (Some (entry_at w h (plane_of w site) (row * blocks_across w + column))) None

-- the entry of its plane's centre, if a site lies in it
unfoldable pub centre_entry : ℕ → ℕ → ℕ → Option ℕ
centre_entry w h site =
    cond (in_box (centre_of w h) (plane_row w site) (plane_column w site)) (Some (entry_at w h (plane_of w site) (blocks_of w h))) None

-- whether an entry is the one at a place, if there is a place
abbrev pub is_at : ℕ → Option ℕ → Bool
is_at e None = false
is_at e (Some at) = eqb e at

-- a place is before the end, if there is one
abbrev pub Before : Option ℕ → ℕ → Type 0
Before at n = (e : ℕ) → at ≡ Some e → e < n

-- entries, of which the one at a place is amended; none where there is no place
unfoldable pub amended_at : Option ℕ → ℕ → ℕ → List ℕ → List ℕ
amended_at at old new entries =
    tabulate (length entries) (λ (e : ℕ). cond (is_at e at) (amend old new (held entries e)) (held entries e))
