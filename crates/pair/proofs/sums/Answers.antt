use mathlib.Core.Path.{◌∙◌}
use native.Mathlib.Omega.{arith}
use borrow.Author.Rules.{rules}
use Rattle.pair.proofs.Walk.{walk_begins, walk_more, walk_ends}
use Rattle.pair.proofs.sums.Goals as goal

pub loop-i-init : goal.loop-i-init
loop-i-init c = (search rules, search rules, walk_begins _ _ _)

pub loop-i-preserved : goal.loop-i-preserved
loop-i-preserved c = let loop = c.loop-i in
    let i = loop.i in (
      omega arith,
      loop.invariant.1,
      walk_more _ _ _ _ _ _ _ loop.invariant.2
          (c.shared_slice_known-in-loop-i-2-1.given i).fits
          (c.shared_slice_known-in-loop-i-3-1.given i).fits
          c.one_at-n.ensures.0
          (c.from-of_first.ensures ∙ c.seen_at-x.ensures)
          (c.from-of_second.ensures ∙ c.seen_at-y.ensures)
          (rw (c.from-of_first.ensures, c.from-of_second.ensures) c.squared-squares.ensures),
    )

pub returns-clause-value : goal.returns-clause-value
returns-clause-value c =
    walk_ends _ _ _ _ c.loop-i.invariant.2 (omega arith) c.from.ensures c.from-2.ensures c.from-3.ensures
