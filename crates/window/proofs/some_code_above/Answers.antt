use Rattle.laws.proofs.Firsts.{some_more}
use Rattle.window.proofs.some_code_above.Goals as goal

pub loop-other-preserved : goal.loop-other-preserved
loop-other-preserved c = rw c.loop-other.invariant (some_more _ _)
