use mathlib.Core.Path.{◌≡◌, sym, ap, ◌∙◌}
use Prim.Native.Nat.{◌<◌}
use native.Mathlib.Omega.{arith}
use lib.ListN.{length}
use lib.Dec.{ltb}
use borrow.Author.Tests.{lt-ltb, le-ltb}
use Rattle.window.proofs.Sides.{sides, sites-few}
use Rattle.window.specs.View.{seen}
use Rattle.window.proofs.Views.{seen_is}
use Rattle.refusals.proofs.Searches.{search_begins, site_in, site_passed, search_stops}
use Rattle.refusals.proofs.first_over.Goals as goal
use Rattle.refusals.proofs.first_over.Goals.{After-seen_at, In-loop-column}

-- what the test compares is what is seen at the site
seen_here : (c : After-seen_at) → c.seen_at.result ≡ seen c.args.view.now.mask.now c.args.view.now.frame.now c.loop-column.site
seen_here c = c.seen_at.ensures ∙ sym (seen_is _ _ _)

-- a site that is walked is one of the window's
inside : (c : In-loop-column) → (c.loop-column.site < length c.args.view.now.mask.now) × (c.loop-column.site < length c.args.view.now.frame.now) × (c.loop-column.site < 16384)
inside c =
    let v = c.args.view.now in
    let rows = (sides v.width v.height v.legal).sites in
    let low = site_in c.loop-column.invariant c.rows-test.true c.loop-column-test.true in
    (omega (arith, low, rows, v.masked), omega (arith, low, rows, v.framed), omega (arith, low, rows, sites-few v.width v.height))

pub bounds-view-site : goal.bounds-view-site
bounds-view-site c = (inside (goal.at.bounds-view-site c).In-loop-column).0

pub offset_bounds-view-site : goal.offset_bounds-view-site
offset_bounds-view-site c = omega (arith, (inside (goal.at.offset_bounds-view-site c).In-loop-column).2)

pub bounds-view-site-in-loop-column : goal.bounds-view-site-in-loop-column
bounds-view-site-in-loop-column c = (inside (goal.at.bounds-view-site-in-loop-column c).In-loop-column).1

pub overflow_add-site : goal.overflow_add-site
overflow_add-site c = omega (arith, (inside (goal.at.overflow_add-site c).In-loop-column).2)

pub rows-init : goal.rows-init
rows-init c = search_begins _ _ _

pub loop-column-preserved : goal.loop-column-preserved
loop-column-preserved c = site_passed c.loop-column.invariant c.loop-column-test.true (sym (ap (ltb _) (seen_here (goal.at.loop-column-preserved c).After-seen_at)) ∙ le-ltb _ _ c.if-full_scale-seen_at.false)

pub returns-then-full_scale-seen_at : goal.returns-then-full_scale-seen_at
returns-then-full_scale-seen_at c = search_stops c.loop-column.invariant c.rows-test.true c.loop-column-test.true (sym (ap (ltb _) (seen_here (goal.at.returns-then-full_scale-seen_at c).After-seen_at)) ∙ lt-ltb _ _ c.if-full_scale-seen_at.true)
