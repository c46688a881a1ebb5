-- What the inner functions of both calls ask and promise: the totals while the sums are walked row by row, and what an accepted call leaves room for.
use Rattle.std.specs.Prelude.{ℕ, ◌+◌, ◌*◌, ◌<◌, ◌≤◌, cond, List, ◌≡◌, eqb, length}
use Rattle.laws.specs.Sum.{sum_to}
use Rattle.laws.specs.Table.{held, tabulate}
use Rattle.window.specs.declared.Lines as window
use Rattle.window.specs.declared.Lines.TheVariants.{Rows, Columns}
use Rattle.pattern.specs.Lines.{Lines, columns, rows}

-- the lines that a call asks of, which way they run
abbrev pub lined : window.Lines → ℕ → ℕ → Lines
lined Rows = rows
lined Columns = columns

-- the line that the site in row y and column x is on
abbrev pub line_of : window.Lines → ℕ → ℕ → ℕ
line_of Rows y x = y
line_of Columns y x = x

-- what the site in row y and column x gives to the total of line i
unfoldable pub share : window.Lines → ℕ → (ℕ → ℕ) → ℕ → ℕ → ℕ → ℕ
share way w view i y x = cond (eqb (line_of way y x) i) (view (y * w + x)) 0

-- the 128 totals with row y added
unfoldable pub with_row : window.Lines → ℕ → (ℕ → ℕ) → ℕ → List ℕ → List ℕ
with_row way w view y totals = tabulate 128 (λ (i : ℕ). held totals i + sum_to w (share way w view i y))

-- totals that 100 frames of 128 sites can have
abbrev pub Possible : List ℕ → Type 0
Possible totals = (i : ℕ) → i < length totals → held totals i ≤ 52416000

-- what is known of the numbers and the sums of an accepted call
pub record Accepted (w h full k : ℕ) (sums : List ℕ) : Type 0 where
  pub wide : w ≤ 128
  pub high : h ≤ 128
  pub scale : full ≤ 4095
  pub frames : k ≤ 100
  pub long : length sums ≡ h * w
  pub possible : (i : ℕ) → i < h * w → held sums i ≤ k * full
