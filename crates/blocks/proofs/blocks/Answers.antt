-- `blocks` is right because it divides only sides that a window has.
use mathlib.Core.Path.{sym, ◌∙◌}
use native.Mathlib.Omega.{arith}
use borrow.Author.Rules.{rules}
use Rattle.blocks.proofs.Areas.{blocks_are, no_blocks, few-blocks}
use Rattle.blocks.proofs.blocks.Goals as goal

pub returns-then-bad_sides : goal.returns-then-bad_sides
returns-then-bad_sides c = (sym (no_blocks _ _ (sym c.bad_sides.ensures ∙ c.if-bad_sides.true)), search rules)

pub overflow_mul-result : goal.overflow_mul-result
overflow_mul-result c = let a = c.args in omega (arith, few-blocks a.width a.height (sym c.bad_sides.ensures ∙ c.if-bad_sides.false))

pub returns : goal.returns
returns c = let legal = sym c.bad_sides.ensures ∙ c.if-bad_sides.false in (sym (blocks_are _ _ legal), few-blocks _ _ legal)
