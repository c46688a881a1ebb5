-- `over` is right because there is nothing to count where nothing is over.
use mathlib.Core.Path.{sym, ◌∙◌}
use native.Mathlib.Omega.{arith}
use Rattle.laws.proofs.Firsts.{nowhere_counted}
use Rattle.refusals.proofs.over.Goals as goal

pub returns-else-some_over : goal.returns-else-some_over
returns-else-some_over c = (sym (nowhere_counted _ _ (sym c.some_over.ensures ∙ c.if-some_over.false)), omega arith)
