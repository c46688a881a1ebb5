-- `some_impossible` is right because each turn asks the test of one entry more.
use Prim.Native.Nat.{◌%◌}
use mathlib.Core.Path.{◌≡◌}
use lib.ListN.{length}
use Rattle.laws.specs.First.{some_to}
use Rattle.blocks.specs.Areas.{areas_of}
use Rattle.shading.specs.Judge.{impossible_at}
use Rattle.shading.proofs.some_impossible.Given as goal

abbrev pub invariant-loop-total : goal.invariant-loop-total
invariant-loop-total l = (l.k ≡ length l.yielded % areas_of l.asked.width l.asked.height)
    × (l.found ≡ some_to (length l.yielded) (impossible_at l.asked.width l.asked.height l.asked.full l.totals l.counts))
