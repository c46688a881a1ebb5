-- `above_black` is right because each turn adds sample minus black level at a surveyed site and 0 at any other, far inside an i64.
use Prim.Native.Nat.{◌*◌}
use mathlib.Core.Path.{◌≡◌}
use lib.ListN.{length}
use Rattle.laws.specs.Signed.{◌⊖◌}
use Rattle.laws.specs.Sum.{sum_to}
use Rattle.window.specs.View.{seen, one}
use Rattle.dark.proofs.above_black.Given as goal

abbrev pub invariant-loop-code : goal.invariant-loop-code
invariant-loop-code l = l.sum ≡ sum_to (length l.yielded) (seen l.mask l.frame) ⊖ l.black_level * sum_to (length l.yielded) (one l.mask)
