-- `some_code_above` is right because each turn asks the test of one code more.
use mathlib.Core.Path.{◌≡◌}
use Rattle.laws.specs.First.{some_to}
use Rattle.window.specs.View.{code_above}
use Rattle.window.proofs.some_code_above.Given as goal

abbrev pub invariant-loop-other : goal.invariant-loop-other
invariant-loop-other l = l.found ≡ some_to l.other-index (code_above l.code l.mask)
