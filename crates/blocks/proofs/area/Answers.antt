-- `area` is right because the areas before the last are blocks, and where there is a block there is one across.
use mathlib.Core.Path.{sym, ◌∙◌}
use native.Mathlib.Omega.{arith}
use borrow.Author.Tests.{lt-ltb, le-ltb}
use Rattle.blocks.specs.Areas.{area_of}
use Rattle.blocks.proofs.Areas.{some_across}
use Rattle.blocks.proofs.area.Goals as goal

pub block-requires : goal.block-requires
block-requires c = let a = c.args in
    (some_across a.width a.height (omega (arith, c.blocks-2.ensures.0)), omega (arith, c.blocks-2.ensures.1))

pub returns-then-k-blocks : goal.returns-then-k-blocks
unfolding area_of
returns-then-k-blocks c = c.block.ensures ∙ rw (sym c.blocks-2.ensures.0, lt-ltb _ _ c.if-k-blocks.true)

pub returns-else-k-blocks : goal.returns-else-k-blocks
unfolding area_of
returns-else-k-blocks c = c.centre.ensures ∙ rw (sym c.blocks-2.ensures.0, le-ltb _ _ c.if-k-blocks.false)
