use mathlib.Core.Path.{◌∙◌}
use native.Mathlib.Omega.{arith}
use borrow.Author.Rules.{rules}
use Rattle.laws.proofs.Tables.{filling_none}
use Rattle.raw.proofs.Samples.{four, in_group}
use Rattle.raw.proofs.fill.Goals as goal

pub loop-group-init : goal.loop-group-init
loop-group-init c = (search rules, search rules, filling_none _ _)

pub loop-group-preserved : goal.loop-group-preserved
loop-group-preserved c = let g = c.loop-group.group in (
  omega arith,
  c.loop-group.invariant.1,
  four g _ _ _ _ c.loop-group.invariant.2 (omega arith)
      (c.join10.ensures ∙ in_group 2 4 _ g 0 _ _ (omega arith) (omega arith) (omega arith))
      (c.join10-in-loop-group.ensures ∙ in_group 2 4 _ g 1 _ _ (omega arith) (omega arith) (omega arith))
      (c.join10-in-loop-group-2.ensures ∙ in_group 2 4 _ g 2 _ _ (omega arith) (omega arith) (omega arith))
      (c.join10-in-loop-group-3.ensures ∙ in_group 2 4 _ g 3 _ _ (omega arith) (omega arith) (omega arith)),
)
