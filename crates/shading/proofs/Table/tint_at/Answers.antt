-- `tint_at` is right because the entries of an area of a whole table can be read, and 11 lets them pass.
use Rattle.shading.proofs.Walks.{read_at, tint_is}
use Rattle.shading.proofs.Table.tint_at.Goals as goal
use Rattle.shading.proofs.Table.tint_at.Goals.{After-blocks-areas}

pub sums_at-requires : goal.sums_at-requires
sums_at-requires c = read_at c.args.self.asked c.args.self.totals.now c.args.self.counts.now c.args.self.whole c.args.k _ c.requires.2 c.blocks-areas.ensures.0 _ c.requires.0

pub sums_at-requires-2 : goal.sums_at-requires-2
sums_at-requires-2 c = read_at c.args.self.asked c.args.self.totals.now c.args.self.counts.now c.args.self.whole c.args.k _ c.requires.2 c.blocks-areas.ensures.0 _ c.requires.1

pub returns : goal.returns
returns c = let r = tint_is c.args.self.asked c.args.self.totals.now c.args.self.counts.now c.args.self.whole c.args.k _ c.requires.2 c.blocks-areas.ensures.0
    c.args.of (record { colour = c.requires.0; green = c.requires.1 }) _ _ c.sums_at.ensures c.sums_at-2.ensures in
    record { value = r.0; possible = r.1 }
