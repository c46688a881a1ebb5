-- `some_above` is right because each turn asks the test of one sum more.
use mathlib.Core.Path.{◌≡◌}
use Rattle.laws.specs.First.{some_to}
use Rattle.laws.specs.Table.{held}
use Rattle.window.specs.View.{above}
use Rattle.pattern.proofs.some_above.Given as goal

abbrev pub invariant-loop-sum : goal.invariant-loop-sum
invariant-loop-sum l = l.found ≡ some_to l.sum-index (above l.most (held l.sums))
