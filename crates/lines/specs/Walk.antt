-- What the inner functions promise: rows and columns by the direction that one code for both is given, and what is held of every line.
use Rattle.std.specs.Prelude.{ℕ, ◌/◌, ◌%◌, List}
use Rattle.window.specs.declared.Lines as window
use Rattle.window.specs.declared.Lines.TheVariants.{Rows, Columns}
use Rattle.plane.specs.declared.Sums.{Sums}
use Rattle.plane.specs.Plane.{sums, box_sums}
use Rattle.lines.specs.Lines.{Lines, rows, columns, pooled}
use Rattle.lines.specs.declared.Layout.{Layout}
use Rattle.lines.specs.declared.Pooled.{Pooled}

-- the lines that a call asks of, which way they run
abbrev pub lined : window.Lines → ℕ → ℕ → Lines
lined Rows = rows
lined Columns = columns

abbrev pub laid : Layout → Lines
laid y = lined y.lines y.width y.height

-- what is read past the end of an array, where no answer looks
abbrev pub no_sums : Sums
no_sums = sums 0 0

-- what the i-th line counts and sums, of lines that are held plane after plane, n to a plane
abbrev pub sums_held : Lines → ℕ → ℕ → ℕ → List ℕ → List ℕ → ℕ → Sums
sums_held lines w h n mask frame i = box_sums w h (i / n) (lines.line (i % n)) mask frame

-- what is pooled around line l of n
abbrev pub sums_pooled : ℕ → (ℕ → Sums) → ℕ → Pooled
sums_pooled n of l = record { count = pooled n (λ (m : ℕ). (of m).count) l; total = pooled n (λ (m : ℕ). (of m).total) l }
