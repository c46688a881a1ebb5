-- `mark` is right because each turn decides one more site of the row by what the totals differ by, and stores its code.
use Prim.Native.Nat.{◌*◌, ◌≤◌}
use mathlib.Core.Path.{◌≡◌}
use Rattle.laws.specs.Sum.{sum_to}
use Rattle.laws.specs.Table.{held}
use Rattle.laws.proofs.Tables.{Storing}
use Rattle.sites.specs.Walk.{found_along, marked_along}
use Rattle.sites.proofs.RowTotals.mark.Given as goal

abbrev pub invariant-loop-x : goal.invariant-loop-x
invariant-loop-x l =
    Storing (marked_along l.view.width l.t l.view.mask.now l.view.frame.now (held l.self.counts) (held l.self.totals) l.y) l.initial.out l.out (l.y * l.view.width) l.x
    × (l.found ≡ sum_to l.x (found_along l.view.width l.t l.view.mask.now l.view.frame.now (held l.self.counts) (held l.self.totals) l.y)) × (l.found ≤ l.x)
