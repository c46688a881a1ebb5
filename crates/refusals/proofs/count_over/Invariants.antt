use mathlib.Core.Path.{◌≡◌}
use lib.ListN.{length}
use Rattle.laws.specs.First.{count_to}
use Rattle.window.specs.View.{above, seen}
use Rattle.refusals.proofs.count_over.Given as goal

abbrev pub invariant-loop-code : goal.invariant-loop-code
invariant-loop-code l = l.count ≡ count_to (length l.yielded) (above l.full_scale (seen l.view.mask.now l.view.frame.now))
