use Rattle.laws.proofs.Firsts.{some_more}
use Rattle.pattern.proofs.some_above.Goals as goal

pub loop-sum-preserved : goal.loop-sum-preserved
loop-sum-preserved c = rw c.loop-sum.invariant (some_more _ _)
