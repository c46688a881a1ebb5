-- Document 01, "Defective sites", "Colour ratios": the four planes of a window, by site parity, and a box of one plane's coordinates.
use Rattle.std.specs.Prelude.{ℕ, ◌+◌, ◌*◌, ◌/◌, ◌%◌, min, cond, List, eqb, length}
use Rattle.laws.specs.Sum.{sum_box}
use Rattle.window.specs.View.{seen, one}
use Rattle.window.specs.Walk.{walked}
use Rattle.plane.specs.declared.Pair.{Pair}
use Rattle.plane.specs.declared.PlaneBox.{PlaneBox}
use Rattle.plane.specs.declared.Sums.{Sums}

-- the planes of row and column parity (0,0), (0,1), (1,0), (1,1) are 0, 1, 2, 3
abbrev pub row_parity : ℕ → ℕ
row_parity plane = plane / 2 % 2

abbrev pub column_parity : ℕ → ℕ
column_parity plane = plane % 2

-- the plane of a site, in a window w wide
abbrev pub plane_of : ℕ → ℕ → ℕ
plane_of w i = 2 * (i / w % 2) + i % w % 2

-- and its row and column there
abbrev pub plane_row : ℕ → ℕ → ℕ
plane_row w i = i / w / 2

abbrev pub plane_column : ℕ → ℕ → ℕ
plane_column w i = i % w / 2

-- the site at row u and column v of a plane
abbrev pub site_at : ℕ → ℕ → ℕ → ℕ → ℕ
site_at w plane u v = (2 * u + row_parity plane) * w + column_parity plane + 2 * v

-- a view summed over a box of a plane, cut off at the edges of the plane, which has h / 2 rows and w / 2 columns
unfoldable pub box_sum : ℕ → ℕ → ℕ → PlaneBox → (ℕ → ℕ) → ℕ
box_sum w h plane within view =
    sum_box within.top (min within.bottom (h / 2)) within.left (min within.right (w / 2)) (λ (u v : ℕ). view (site_at w plane u v))

abbrev pub sums : ℕ → ℕ → Sums
sums count total = record { count = count; total = total }

-- how many sites of a box are surveyed, and the sum of their samples; 0 and 0 of buffers that have not the window's sites
unfoldable pub box_sums : ℕ → ℕ → ℕ → PlaneBox → List ℕ → List ℕ → Sums
box_sums w h plane within mask frame =
    cond (eqb (min (walked w h (length mask)) (walked w h (length frame))) 0)
    (sums 0 0)
    (sums (box_sum w h plane within (one mask)) (box_sum w h plane within (seen mask frame)))

-- the same of the two planes that share the rows of one parity: of even and of odd columns
abbrev pub pair : Sums → Sums → Pair
pair even odd = record { even = even; odd = odd }

abbrev pub pair_sums : ℕ → ℕ → ℕ → PlaneBox → List ℕ → List ℕ → Pair
pair_sums w h row within mask frame =
    pair (box_sums w h (2 * (row % 2)) within mask frame) (box_sums w h (2 * (row % 2) + 1) within mask frame)
