-- Document 01, "Pair noise", as document 02 f merges its two calls: n, P, Q, r and both figures of two frames.
use Rattle.std.specs.Prelude.{ℕ, ◌*◌, ℤ, pos, nat_abs, ◌-ℤ◌, ◌*ℤ◌}
use Rattle.std.specs.Float.{binary64}
use Rattle.std.specs.Float.Ieee.{of_bits}
use Rattle.laws.specs.Sum.{sum_to}
use Rattle.laws.specs.Signed.{◌⊖◌, sum_toℤ}
use Rattle.exact.specs.Root.{root}
use Rattle.exact.specs.Quotient.{quotient}
use Rattle.pair.specs.declared.Spread.{Spread}
use Rattle.pair.specs.declared.PairFigures.{PairFigures}

-- d: second frame minus first, as each is seen: at a site that is not surveyed 0 less 0
abbrev pub difference : (ℕ → ℕ) → (ℕ → ℕ) → ℕ → ℤ
difference first second i = second i ⊖ first i

-- P = n × (sum of d²) − (sum of d)², over so many sites
unfoldable pub numerator : ℕ → ℕ → (ℕ → ℤ) → ℤ
numerator sites n d = pos n *ℤ sum_toℤ sites (λ (i : ℕ). d i *ℤ d i) -ℤ sum_toℤ sites d *ℤ sum_toℤ sites d

-- n, the count of surveyed sites, and P as a whole number: it is never below 0 (the law `whole`), so its size is P itself
unfoldable pub spread_of : ℕ → (ℕ → ℕ) → (ℕ → ℕ) → (ℕ → ℕ) → Spread
spread_of sites one first second =
    record { n = sum_to sites one; p = nat_abs (numerator sites (sum_to sites one) (difference first second)) }

-- Q = 2 × n²; r, the greatest whole number with r² ≤ 2048 × P; the variance P/Q; the noise r / (64 × n)
abbrev pub figures_of : Spread → PairFigures
figures_of s =
    let q = 2 * (s.n * s.n) in
    let r = root (2048 * s.p) in
    record { n = s.n; p = s.p; q = q; r = r; variance = quotient s.p q; noise = quotient r (64 * s.n) }

-- every number 0: what stands beside a refusal
abbrev pub no_figures : PairFigures
no_figures = record { n = 0; p = 0; q = 0; r = 0; variance = of_bits binary64 0; noise = of_bits binary64 0 }
