-- `mark` is right because at each row the totals are brought down to before its boxes and to their end, and then mark it.
use Prim.Native.Nat.{◌+◌, ◌-◌, ◌*◌, ◌/◌, ◌≤◌, min}
use mathlib.Core.Path.{◌≡◌}
use lib.ListN.{length}
use Rattle.sites.specs.Walk.{Totals}
use Rattle.sites.proofs.Marks.{Marked}
use Rattle.sites.proofs.mark.Given as goal

abbrev pub invariant-loop-y : goal.invariant-loop-y
invariant-loop-y l = (l.above.pairs ≤ l.y / 2 - 15) × (l.below.pairs ≤ min (l.y / 2 + 15 + 1) (l.view.height / 2))
    × Totals l.view l.above × Totals l.view l.below
    × (length l.out ≡ length l.initial.out) × Marked l.view.width l.view.height l.t l.view.mask.now l.view.frame.now (l.y * l.view.width) l.out l.found
