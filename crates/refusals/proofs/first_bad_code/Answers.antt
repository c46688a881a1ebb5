use borrow.Author.Tests.{lt-ltb, le-ltb}
use Rattle.refusals.proofs.Searches.{search_begins, site_passed, search_stops}
use Rattle.refusals.proofs.first_bad_code.Goals as goal
use Rattle.refusals.proofs.first_bad_code.Goals.{In-loop-x}

pub rows-init : goal.rows-init
rows-init c = search_begins _ _ _

pub loop-x-preserved : goal.loop-x-preserved
loop-x-preserved c = site_passed c.loop-x.invariant c.loop-x-test.true (le-ltb _ _ c.if-mask-at-gt3.false)

pub returns-then-mask-at-gt3 : goal.returns-then-mask-at-gt3
returns-then-mask-at-gt3 c = search_stops c.loop-x.invariant c.rows-test.true c.loop-x-test.true (lt-ltb _ _ c.if-mask-at-gt3.true)
