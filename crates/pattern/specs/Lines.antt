-- Document 01, "Pattern noise": column totals, and "Horizontal is the same with rows". Columns and rows are lines by one definition.
use Rattle.std.specs.Prelude.{ℕ, ◌+◌, ◌*◌}
use Rattle.laws.specs.Sum.{sum_to}

-- the lines of a window: how many, how many sites on each, and which site of the window is site t of line i
pub record Lines : Type 0 where
  pub count : ℕ
  pub long : ℕ
  pub site : ℕ → ℕ → ℕ

abbrev pub columns : ℕ → ℕ → Lines
columns w h = record { count = w; long = h; site = λ (i t : ℕ). t * w + i }

abbrev pub rows : ℕ → ℕ → Lines
rows w h = record { count = h; long = w; site = λ (i t : ℕ). i * w + t }

-- the total of line i
unfoldable pub line_total : Lines → (ℕ → ℕ) → ℕ → ℕ
line_total l view i = sum_to l.long (λ (t : ℕ). view (l.site i t))
