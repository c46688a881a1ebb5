-- `count_blinking` is right because each turn adds 1 at a site that blinks and 0 at any other, and a window has fewer sites than 16 bits can count.
use Prim.Native.Nat.{◌≤◌}
use mathlib.Core.Path.{◌≡◌}
use lib.ListN.{length}
use Rattle.laws.specs.First.{count_to}
use Rattle.blinking.specs.Blinking.{blinks}
use Rattle.blinking.proofs.count_blinking.Given as goal

abbrev pub invariant-loop-i : goal.invariant-loop-i
invariant-loop-i l = (l.i ≤ l.i-end) × (l.i-end ≡ length l.mask) × (l.count ≡ count_to l.i (blinks l.spread l.mask l.least l.greatest))
