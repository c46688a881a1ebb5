-- Document 01, "Defective rows and columns": the lines of a plane, and which of them is defective. "Columns likewise": one definition, over the lines.
use Rattle.std.specs.Prelude.{ℕ, ◌+◌, ◌-◌, ◌*◌, ◌/◌, ◌%◌, Bool, cond, ◌&&◌, ltb}
use Rattle.laws.specs.Sum.{sum_in}
use Rattle.laws.specs.Signed.{apart}
use Rattle.plane.specs.Plane.{box_sum}
use Rattle.plane.specs.declared.PlaneBox.{PlaneBox}

-- the lines of a plane in one direction: how many, and line l as a box of the plane's coordinates
pub record Lines : Type 0 where
  pub count : ℕ
  pub line : ℕ → PlaneBox

-- a row is one row high and as wide as the plane, a column one column wide and as high
abbrev pub rows : ℕ → ℕ → Lines
rows w h = record { count = h / 2; line = λ (l : ℕ). record { top = l; bottom = l + 1; left = 0; right = w / 2 } }

abbrev pub columns : ℕ → ℕ → Lines
columns w h = record { count = w / 2; line = λ (l : ℕ). record { top = 0; bottom = h / 2; left = l; right = l + 1 } }

-- the line j before l, and the line j after it, of n: mirrored at the edge without repeating it, so line −1 is line 1.
-- One reflection is enough: 9 has made sure that there are more than 8 lines
unfoldable pub before : ℕ → ℕ → ℕ
before l j = apart l j

unfoldable pub after : ℕ → ℕ → ℕ → ℕ
after n l j = n - 1 - apart (n - 1) (l + j)

-- the eight lines before l and the eight after it, pooled, a line counted as often as it is met
unfoldable pub pooled : ℕ → (ℕ → ℕ) → ℕ → ℕ
pooled n of l = sum_in 1 9 (λ (j : ℕ). of (before l j) + of (after n l j))

-- c > 0 surveyed sites with sum s beside C and S, pooled: defective when C > 0 and 2 × |s × C − S × c| > 5 × c × C
unfoldable pub defective : ℕ → ℕ → ℕ → ℕ → Bool
defective c s C S = ltb 0 c && (ltb 0 C && ltb (5 * c * C) (2 * apart (s * C) (S * c)))

-- the mark of line l of n, by the count and the sum of each line: 1 where it is defective, else 0
unfoldable pub mark_of : ℕ → (ℕ → ℕ) → (ℕ → ℕ) → ℕ → ℕ
mark_of n counts totals l = cond (defective (counts l) (totals l) (pooled n counts l) (pooled n totals l)) 1 0

-- a view summed over line l of a plane
abbrev pub line_sum : Lines → ℕ → ℕ → ℕ → (ℕ → ℕ) → ℕ → ℕ
line_sum lines w h plane view l = box_sum w h plane (lines.line l) view

-- one mark a line, the lines of plane (0,0), (0,1), (1,0), (1,1) in turn
unfoldable pub mark_at : Lines → ℕ → ℕ → (ℕ → ℕ) → (ℕ → ℕ) → ℕ → ℕ
mark_at lines w h ones view i =
    mark_of lines.count (line_sum lines w h (i / lines.count) ones) (line_sum lines w h (i / lines.count) view) (i % lines.count)
