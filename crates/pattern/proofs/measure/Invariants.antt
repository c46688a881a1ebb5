-- `measure` is right because after each row the totals are what the rows so far give to their lines, and after the last they are the lines' own.
use Prim.Native.Nat.{◌-◌, ◌≤◌}
use mathlib.Core.Path.{◌≡◌}
use Rattle.laws.specs.Table.{held, tabulate}
use Rattle.pattern.proofs.Totals.{passed}
use Rattle.pattern.proofs.measure.Given as goal

abbrev pub invariant-loop-y : goal.invariant-loop-y
invariant-loop-y l = (l.y ≤ l.height) × (l.totals ≡ tabulate 128 (passed l.lines l.width (held l.sums) l.y))

abbrev pub decreases-loop-y : goal.decreases-loop-y
decreases-loop-y l = l.height - l.y
