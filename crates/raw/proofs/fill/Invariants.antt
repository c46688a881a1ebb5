-- `fill` is right because each turn stores the four samples of one group, and whole groups are all there is.
use Prim.Native.Nat.{◌*◌, ◌/◌, ◌-◌, ◌≤◌}
use mathlib.Core.Path.{◌≡◌}
use lib.ListN.{length}
use Rattle.laws.proofs.Tables.{Filling}
use Rattle.raw.specs.Packed.{sample10}
use Rattle.raw.proofs.fill.Given as goal

abbrev pub invariant-loop-group : goal.invariant-loop-group
invariant-loop-group l = (l.group ≤ l.group-end) × (l.group-end ≡ length l.initial.out / 4) × Filling (sample10 l.bytes) l.initial.out l.out (4 * l.group)

abbrev pub decreases-loop-group : goal.decreases-loop-group
decreases-loop-group l = l.group-end - l.group
