use Prim.Native.Nat.{◌<◌}
use native.Mathlib.Omega.{arith}
use Rattle.pattern.proofs.Totals.{line_in, adding_none, adding_more, adding_done, adding_le}
use Rattle.pattern.proofs.add_row.Goals as goal
use Rattle.pattern.proofs.add_row.Goals.{After-line_of-line}

-- the line is one of the 128
inside : (c : After-line_of-line) → c.line_of-line.result < 128
inside c = rw c.line_of-line.ensures (line_in c.args.lines c.args.y c.loop-x.x 128 (omega arith) (omega arith))

pub loop-x-init : goal.loop-x-init
loop-x-init c = adding_none _ _ _ _ _ c.requires.3

pub overflow_add-totals : goal.overflow_add-totals
overflow_add-totals c = omega (arith, adding_le _ _ _ c.loop-x.invariant 4294967295 (λ k. omega (arith, c.shared_slice_known-1.given k)) c.line_of-line.result (inside (goal.at.overflow_add-totals c).After-line_of-line), c.requires.4 c.line_of-line.result (inside (goal.at.overflow_add-totals c).After-line_of-line), c.from)

pub loop-x-preserved : goal.loop-x-preserved
loop-x-preserved c = adding_more _ _ _ c.loop-x.invariant _ _ c.line_of-line.ensures (inside (goal.at.loop-x-preserved c).After-line_of-line) c.loop-x-test.true c.from.ensures

pub returns : goal.returns
returns c = adding_done _ _ _ c.loop-x.invariant c.loop-x-test.false
