-- `sum_areas` is right because each turn stores what is seen in one more area, of all four planes.
use Prim.Native.Nat.{◌-◌, ◌*◌, ◌≤◌}
use mathlib.Core.Path.{◌≡◌}
use lib.ListN.{length}
use Rattle.window.specs.View.{seen, one}
use Rattle.blocks.specs.Table.{entry_sum}
use Rattle.blocks.proofs.Stores.{Stored}
use Rattle.blocks.proofs.sum_areas.Given as goal

abbrev pub invariant-loop-k : goal.invariant-loop-k
invariant-loop-k l = (l.k ≤ l.areas) × (length l.initial.totals ≡ 4 * l.areas) × (length l.initial.counts ≡ 4 * l.areas)
    × Stored (entry_sum l.width l.height (seen l.view.mask.now l.view.frame.now)) l.areas l.initial.totals l.totals l.k
    × Stored (entry_sum l.width l.height (one l.view.mask.now)) l.areas l.initial.counts l.counts l.k

abbrev pub decreases-loop-k : goal.decreases-loop-k
decreases-loop-k l = l.areas - l.k
