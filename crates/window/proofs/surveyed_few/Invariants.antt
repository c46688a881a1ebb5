-- `surveyed_few` is right because each turn adds 1 at a surveyed site and 0 at any other, and a window has fewer sites than 16 bits can count.
use mathlib.Core.Path.{◌≡◌}
use Rattle.laws.specs.Sum.{sum_to}
use Rattle.window.specs.View.{one}
use Rattle.window.proofs.surveyed_few.Given as goal

abbrev pub invariant-loop-code : goal.invariant-loop-code
invariant-loop-code l = l.count ≡ sum_to l.code-index (one l.mask)
