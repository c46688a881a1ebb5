-- `scatter` is right because each turn adds one site's k × q − s², as they are seen there.
use Prim.Native.Nat.{◌*◌, ◌≤◌}
use mathlib.Core.Path.{◌≡◌}
use lib.ListN.{length}
use Rattle.window.specs.View.{seen}
use Rattle.variance.specs.Variance.{scatter}
use Rattle.variance.proofs.scatter.Given as goal

abbrev pub invariant-loop-i : goal.invariant-loop-i
invariant-loop-i l = (l.i ≤ length l.mask) × (l.total ≤ l.i * (127 * 4294967295)) × (l.total ≡ scatter l.i l.frames (seen l.mask l.sums) (seen l.mask l.squares))
