-- `fill` is right because each turn decides one more site on the mask and frame that came in, and stores its sample and code.
use Prim.Native.Nat.{◌≤◌}
use mathlib.Core.Path.{◌≡◌}
use Rattle.laws.specs.Sum.{sum_to}
use Rattle.laws.proofs.Tables.{Filling}
use Rattle.window.specs.View.{seen}
use Rattle.repair.specs.Repair.{filled_at, sample_after, code_after}
use Rattle.repair.proofs.fill.Given as goal

abbrev pub invariant-loop-i : goal.invariant-loop-i
invariant-loop-i l = Filling (sample_after l.view.width l.view.height l.view.mask.now (seen l.view.mask.now l.view.frame.now) l.view.frame.now) l.initial.out_frame l.out_frame l.i
    × Filling (code_after l.view.width l.view.height l.view.mask.now) l.initial.out_mask l.out_mask l.i
    × (l.filled ≡ sum_to l.i (filled_at l.view.width l.view.height l.view.mask.now)) × (l.filled ≤ l.i)
