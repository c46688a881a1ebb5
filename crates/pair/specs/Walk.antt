-- What the one walk promises: its sums, in whole numbers, of which the law `spread_from` makes n and P.
use Rattle.std.specs.Prelude.{ℕ, ◌*◌}
use Rattle.laws.specs.Sum.{sum_to}
use Rattle.laws.specs.Signed.{apart}
use Rattle.pair.specs.declared.Totals.{Totals}

-- over so many sites, `one` being 1 at a surveyed site, and first and second what is seen of each frame
abbrev pub totals_of : ℕ → (ℕ → ℕ) → (ℕ → ℕ) → (ℕ → ℕ) → Totals
totals_of sites one first second = record {
  n = sum_to sites one;
  first = sum_to sites first;
  second = sum_to sites second;
  squares = sum_to sites (λ (i : ℕ). apart (second i) (first i) * apart (second i) (first i));
}
