use mathlib.Core.Path.{refl, ◌∙◌}
use native.Mathlib.Omega.{arith}
use Rattle.laws.specs.Greatest.{lesser, greater}
use Rattle.laws.proofs.Tables.{filling_none, filling_done}
use Rattle.laws.proofs.Greatests.{min_lesser, max_greater}
use Rattle.adding.specs.After.{renewed}
use Rattle.adding.proofs.Turns.{extreme_chosen, one_widened}
use Rattle.adding.proofs.widen.Goals as goal

pub loop-i-init : goal.loop-i-init
loop-i-init c = (omega arith, filling_none _ _, filling_none _ _)

pub loop-i-preserved : goal.loop-i-preserved
loop-i-preserved c = let a = c.args in (
  omega arith,
  one_widened lesser a.frames a.mask.now a.frame.now c.loop-i.invariant.1 (c.extreme_with.ensures ∙ extreme_chosen lesser _ _ _ _ (c.min.ensures ∙ min_lesser _ _)) (omega arith),
  one_widened greater a.frames a.mask.now a.frame.now c.loop-i.invariant.2 (c.extreme_with-in-loop-i.ensures ∙ extreme_chosen greater _ _ _ _ (c.max.ensures ∙ max_greater _ _)) (omega arith),
)

pub returns-clause-least : goal.returns-clause-least
unfolding renewed
returns-clause-least c = filling_done _ c.loop-i.invariant.1 (omega arith) refl

pub returns-clause-greatest : goal.returns-clause-greatest
unfolding renewed
returns-clause-greatest c = filling_done _ c.loop-i.invariant.2 (omega arith) refl
