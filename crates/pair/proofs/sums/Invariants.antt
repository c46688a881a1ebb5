-- `sums` is right because each turn adds to every sum what is seen at one more site.
use Prim.Native.Nat.{◌-◌, ◌≤◌}
use mathlib.Core.Path.{◌≡◌}
use lib.ListN.{length}
use Rattle.pair.proofs.Walk.{Walked}
use Rattle.pair.proofs.sums.Given as goal

abbrev pub invariant-loop-i : goal.invariant-loop-i
invariant-loop-i l = (l.i ≤ l.i-end) × (l.i-end ≡ length l.mask) × Walked l.mask l.first l.second l.i l.n l.of_first l.of_second l.squares

abbrev pub decreases-loop-i : goal.decreases-loop-i
decreases-loop-i l = l.i-end - l.i
