-- `area_sites` is right because the areas before the last are blocks.
use mathlib.Core.Path.{sym}
use native.Mathlib.Omega.{arith}
use Rattle.blocks.proofs.Areas.{block_sites, centre_sites}
use Rattle.blocks.proofs.area_sites.Goals as goal

pub returns-then-k-blocks : goal.returns-then-k-blocks
returns-then-k-blocks c = let a = c.args in sym (block_sites a.width a.height a.k (omega (arith, c.blocks-2.ensures.0)))

pub returns-else-k-blocks : goal.returns-else-k-blocks
returns-else-k-blocks c = let a = c.args in sym (centre_sites a.width a.height a.k (omega (arith, c.blocks-2.ensures.0)))
