-- `add_pairs` is right because each turn adds one more pair.
use mathlib.Core.Path.{◌≡◌}
use Rattle.sites.specs.Walk.{Totals}
use Rattle.sites.proofs.ColumnTotals.add_pairs.Given as goal

abbrev pub invariant-loop : goal.invariant-loop
invariant-loop l = Totals l.view l.self × (l.self.pairs ≡ l.counter)
