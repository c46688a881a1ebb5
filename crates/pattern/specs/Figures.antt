-- Document 01, "Pattern noise", as document 02 c amends it: the figures of n lines with totals C, where `unit` is the sites of a line × k × full scale.
use Rattle.std.specs.Prelude.{ℕ, ◌+◌, ◌-◌, ◌*◌}
use Rattle.laws.specs.Sum.{sum_to, sum_in}
use Rattle.laws.specs.Greatest.{greatest_in}
use Rattle.laws.specs.Signed.{apart}
use Rattle.pattern.specs.declared.Figures.{Figures}

-- (C[i] − C[i+1])²
unfoldable pub step_of : (ℕ → ℕ) → ℕ → ℕ
step_of C i = apart (C i) (C (i + 1)) * apart (C i) (C (i + 1))

-- their sum for i from 0 to n−2
abbrev pub level_of : ℕ → (ℕ → ℕ) → ℕ
level_of n C = sum_to (n - 1) (step_of C)

-- the sum of the ten totals around line i: C[i−5..i−1] and C[i+1..i+5]
unfoldable pub ten_around : (ℕ → ℕ) → ℕ → ℕ
ten_around C i = sum_in (i - 5) i C + sum_in (i + 1) (i + 6) C

-- how far ten times a total is from the sum of the ten around it, above or below
unfoldable pub stands_out : ℕ → ℕ → ℕ
stands_out tenfold around = apart tenfold around

-- |10 × C[i] less the ten totals around line i|
unfoldable pub deviation : (ℕ → ℕ) → ℕ → ℕ
unfolding stands_out ten_around
deviation C i = stands_out (10 * C i) (ten_around C i)

-- the greatest of these for i from 5 to n−6
abbrev pub max_of : ℕ → (ℕ → ℕ) → ℕ
max_of n C = greatest_in 5 (n - 5) (deviation C)

-- level squared over (n−1) × unit², and Max over 10 × unit
unfoldable pub figures_of : ℕ → ℕ → (ℕ → ℕ) → Figures
figures_of n unit C = record {
  level_numerator = level_of n C;
  level_denominator = (n - 1) * (unit * unit);
  max_numerator = max_of n C;
  max_denominator = 10 * unit;
}

-- every number 0: what stands beside a refusal
abbrev pub no_figures : Figures
no_figures = record { level_numerator = 0; level_denominator = 0; max_numerator = 0; max_denominator = 0 }
