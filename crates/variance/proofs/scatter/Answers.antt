use Prim.Native.Nat.{◌*◌, ◌≤◌}
use native.Mathlib.Omega.{arith}
use Rattle.std.proofs.Common.{rules}
use lib.ListN.{get_or}
use Rattle.variance.proofs.Turns.{scatter_small, scatter_none, scatter_more}
use Rattle.variance.proofs.scatter.Goals as goal
use Rattle.variance.proofs.scatter.Goals.{After-scatter_at-total}

-- what is added is small
small : (c : After-scatter_at-total) → c.scatter_at-total.result ≤ 127 * 4294967295
small c = let a = c.args in
    scatter_small a.frames (get_or a.mask.now c.loop-i.i 0) (get_or a.squares.now c.loop-i.i 0) _ _ (omega arith) (search rules) c.scatter_at-total.ensures

pub loop-i-init : goal.loop-i-init
loop-i-init c = (omega arith, omega arith, scatter_none _ _ _ _)

pub overflow_add-total : goal.overflow_add-total
overflow_add-total c = omega (arith, small (goal.at.overflow_add-total c).After-scatter_at-total)

pub loop-i-preserved : goal.loop-i-preserved
loop-i-preserved c = (omega arith, omega (arith, small (goal.at.loop-i-preserved c).After-scatter_at-total), scatter_more _ _ _ _ _ _ _ c.loop-i.invariant.2 c.scatter_at-total.ensures)
