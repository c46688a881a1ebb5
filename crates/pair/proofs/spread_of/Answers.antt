-- `spread_of` is right because the sum of d is the difference of the two frames' sums, and its square is at most what it is taken off.
use Prim.Native.Nat.{◌*◌, ◌^◌, ◌<◌, ◌≤◌}
use native.Mathlib.Omega.{arith}
use Rattle.pair.proofs.Spreads.{enough, spread_from, product_fits}
use Rattle.pair.proofs.spread_of.Goals as goal
use Rattle.pair.proofs.spread_of.Goals.{After-abs_diff-d, After-sums-t}

-- n × (sum of d²) fits, and (sum of d)² is no greater
product : (c : After-sums-t) → c.sums-t.result.n * c.sums-t.result.squares < 2 ^ 64
product c = product_fits _ _ c.sums-t.ensures.n_bound.0 c.sums-t.ensures.n_bound.1

square : (c : After-abs_diff-d) → c.abs_diff-d.result * c.abs_diff-d.result ≤ c.sums-t.result.n * c.sums-t.result.squares
square c = rw c.abs_diff-d.ensures (enough _ _ _ _ _ c.sums-t.ensures.value)

pub overflow_mul-result-2 : goal.overflow_mul-result-2
overflow_mul-result-2 c = omega (arith, product (goal.at.overflow_mul-result-2 c).After-sums-t, square (goal.at.overflow_mul-result-2 c).After-abs_diff-d)

pub overflow_sub-result : goal.overflow_sub-result
overflow_sub-result c = omega (arith, square (goal.at.overflow_sub-result c).After-abs_diff-d)

pub returns : goal.returns
returns c = spread_from _ _ _ _ _ c.sums-t.ensures.value _ (omega arith)
