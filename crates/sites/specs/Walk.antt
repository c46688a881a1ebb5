-- What the search holds while it walks: running totals down the columns of the planes and along a row, for sums over boxes.
use Rattle.std.specs.Prelude.{ℕ, ◌+◌, ◌-◌, ◌*◌, ◌/◌, ◌%◌, ◌<◌, ◌≤◌, min, cond, List, ◌≡◌, length, replicate}
use Rattle.laws.specs.Sum.{sum_to}
use Rattle.laws.specs.Table.{held}
use Rattle.window.specs.View.{seen_at, seen, one}
use Rattle.window.specs.declared.View.{View}
use Rattle.sites.specs.Find.{far, marked}
use Rattle.sites.specs.declared.ColumnTotals.{ColumnTotals}
use Rattle.sites.specs.declared.RowTotals.{RowTotals}

-- Pair u is rows 2u and 2u + 1 of the window, 2 × w sites one after the other: row u of all four planes.

-- a view's sum at site k of the pairs before the b-th
unfoldable pub down_to : ℕ → (ℕ → ℕ) → ℕ → ℕ → ℕ
down_to w view b k = sum_to b (λ (u : ℕ). view (2 * w * u + k))

-- a list that holds these
abbrev pub Down : ℕ → (ℕ → ℕ) → ℕ → List ℕ → Type 0
Down w view b l = (k : ℕ) → k < 2 * w → held l k ≡ down_to w view b k

-- two such lists, of how many sites are surveyed and of their samples, which have 16 bits: so a total has no more than 65535 a pair
pub record Totals (v : View) (c : ColumnTotals) : Type 0 where
  pub counted : Down v.width (one v.mask.now) c.pairs c.counts
  pub added : Down v.width (seen v.mask.now v.frame.now) c.pairs c.totals
  pub most : (k : ℕ) → k < 2 * v.width → held c.totals k ≤ c.pairs * 65535

-- those of no pair
abbrev pub no_columns : ColumnTotals
no_columns = record { pairs = 0; counts = replicate 256 0; totals = replicate 256 0 }

-- two lists of totals: at each site of a pair the first is no more than the second, and that no more than 64 samples of 16 bits come to
pub record Nested (w : ℕ) (above below : List ℕ) : Type 0 where
  pub within : (k : ℕ) → k < 2 * w → (held above k ≤ held below k) × (held below k ≤ 64 * 65535)

-- so of counts and of samples
abbrev pub NestedColumns : ℕ → ColumnTotals → ColumnTotals → Type 0
NestedColumns w above below = Nested w above.counts below.counts × Nested w above.totals below.totals

-- what they differ by at column x of the row that begins at `start`: a sum over the pairs between
abbrev pub strip : List ℕ → List ℕ → ℕ → ℕ → ℕ
strip above below start x = held below (start + x) - held above (start + x)

-- the sum of f along a row before j, over the columns of j's parity
unfoldable pub along_to : (ℕ → ℕ) → ℕ → ℕ
along_to f j = sum_to (j / 2) (λ (v : ℕ). f (2 * v + j % 2))

-- so along row y, by lists of totals down the columns
abbrev pub along_row : ℕ → List ℕ → List ℕ → ℕ → ℕ → ℕ
along_row w above below y = along_to (strip above below (y % 2 * w))

-- a list that holds totals along a row w wide
pub record Along (w : ℕ) (f : ℕ → ℕ) (l : List ℕ) : Type 0 where
  pub told : (j : ℕ) → j < w + 2 → held l j ≡ along_to f j

-- two lists that hold such totals along row y, of counts and of samples
abbrev pub AlongRow : ℕ → ColumnTotals → ColumnTotals → ℕ → RowTotals → Type 0
AlongRow w above below y r =
    Along w (strip above.counts below.counts (y % 2 * w)) r.counts × Along w (strip above.totals below.totals (y % 2 * w)) r.totals

-- the column where the box around column x of a row w wide begins, and the first of its parity past it, which may be past the row
abbrev pub box_first : ℕ → ℕ
box_first x = 2 * (x / 2 - 15) + x % 2

abbrev pub box_end : ℕ → ℕ → ℕ
box_end w x = 2 * min (x / 2 + 15 + 1) (w / 2) + x % 2

-- totals along a row that do not fall from where a box begins to where it ends
pub record Rising (w : ℕ) (l : List ℕ) : Type 0 where
  pub rises : (x : ℕ) → x < w → held l (box_first x) ≤ held l (box_end w x)

-- the sum over the box around column x, by totals along the row
abbrev pub between : ℕ → (ℕ → ℕ) → ℕ → ℕ
between w along x = along (box_end w x) - along (box_first x)

-- what `found_at` decides, by numbers alone: 1 at a surveyed site whose sample is far from the mean of `count` samples, 0 at any other
unfoldable pub found_by : ℕ → ℕ → ℕ → ℕ → ℕ → ℕ
unfolding far
found_by t code sample count total = seen_at code (cond (far t sample count total) 1 0)

-- row y, w wide, by running totals of counts and of samples along it
module _ (w t : ℕ) (mask frame : List ℕ) (counts totals : ℕ → ℕ) (y : ℕ) where
  -- 1 where the site at column x is newly found, and the code that is written there
  unfoldable pub found_along : ℕ → ℕ
  found_along x = found_by t (held mask (y * w + x)) (held frame (y * w + x)) (between w counts x) (between w totals x)

  unfoldable pub marked_along : ℕ → ℕ
  marked_along x = marked (held mask (y * w + x)) (found_along x)

  -- so many of its sites are newly found; earlier rows of the mask are kept, and this one is written
  pub record MarkedBy (count : ℕ) (before after : List ℕ) : Type 0 where
    pub found : count ≡ sum_to w found_along
    pub few : count ≤ w
    pub long : length after ≡ length before
    pub kept : (j : ℕ) → j < y * w → held after j ≡ held before j
    pub written : (x : ℕ) → x < w → held after (y * w + x) ≡ marked_along x

-- so row y of a view, by totals that lists hold
abbrev pub RowMarked : View → ℕ → RowTotals → ℕ → ℕ → List ℕ → List ℕ → Type 0
RowMarked v t along = MarkedBy v.width t v.mask.now v.frame.now (held along.counts) (held along.totals)
