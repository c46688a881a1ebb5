-- `with_point` is right because it adds a point only where that is within limits.
use mathlib.Core.Path.{sym, ◌∙◌}
use Rattle.verdict.proofs.Verdicts.{unless}
use Rattle.gain.proofs.Walks.{limits}
use Rattle.gain.proofs.with_point.Goals as goal

pub with_sums-requires-clause-x_bound : goal.with_sums-requires-clause-x_bound
with_sums-requires-clause-x_bound c = limits c.args.p.mean c.args.p.variance (sym c.out_of_limits.ensures ∙ unless _ _ (sym c.in_ok-refuse_if.ensures))
