-- `add_row` is right because each turn adds one site of the row to the total of the line that it is on, and leaves the others.
use Prim.Native.Nat.{◌-◌}
use Rattle.laws.specs.Table.{held}
use Rattle.pattern.proofs.Totals.{Adding}
use Rattle.pattern.proofs.add_row.Given as goal

abbrev pub invariant-loop-x : goal.invariant-loop-x
invariant-loop-x l = Adding l.lines l.width (held l.sums) l.y l.x l.initial.totals l.totals

abbrev pub decreases-loop-x : goal.decreases-loop-x
decreases-loop-x l = l.width - l.x
