use mathlib.Core.Path.{refl, ◌∙◌}
use native.Mathlib.Omega.{arith}
use Rattle.window.proofs.Sides.{sides}
use Rattle.sites.proofs.Totals.{totals_none, both_nested, rising}
use Rattle.sites.proofs.Marks.{marked_none, marked_all, row_marked}
use Rattle.sites.proofs.Rows.{row_in}
use Rattle.sites.proofs.mark.Goals as goal

pub loop-y-init : goal.loop-y-init
loop-y-init c = let none = totals_none c.args.view.now in
    rw (c.new-above.ensures, c.new-below.ensures)
    (omega arith, omega arith, none, none, refl, marked_none _ _ _ _ _ _)

pub run-requires : goal.run-requires
run-requires c = let l = sides _ _ c.args.view.now.legal in
    let above = c.add_pairs.ensures in
    let below = c.add_pairs-in-loop-y.ensures in (
      l.wide.high,
      both_nested _ _ _ (omega (arith, above.1, below.1, c.saturating_sub.ensures, c.min.ensures)) (omega (arith, below.1, c.min.ensures, l.high.high)) above.0 below.0,
    )

pub mark-found-requires-clause-rising : goal.mark-found-requires-clause-rising
mark-found-requires-clause-rising c = (rising c.run.ensures.0, rising c.run.ensures.1)

pub overflow_add-found : goal.overflow_add-found
overflow_add-found c = let l = sides _ _ c.args.view.now.legal in
    omega (arith, c.loop-y.invariant.5.few, c.mark-found.ensures.few, l.few, (row_in c.args.view.now c.loop-y.y (omega arith)).inside, l.sites)

pub loop-y-preserved : goal.loop-y-preserved
loop-y-preserved c = let row = c.mark-found.ensures in
    let above = c.add_pairs.ensures in
    let below = c.add_pairs-in-loop-y.ensures in (
      omega (arith, above.1, c.saturating_sub.ensures),
      omega (arith, below.1, c.min.ensures),
      above.0,
      below.0,
      row.long ∙ c.loop-y.invariant.4,
      row_marked _ _ _ _ _ _ (omega arith) (above.1 ∙ c.saturating_sub.ensures) (below.1 ∙ c.min.ensures) above.0 below.0 c.run.ensures _ _ _ _ c.loop-y.invariant.5 row,
    )

pub returns : goal.returns
returns c = let r = marked_all _ _ _ _ _ _ _ _ (omega arith) (sides _ _ c.args.view.now.legal) (c.loop-y.invariant.4 ∙ c.requires.1) c.loop-y.invariant.5 in
    record { value = r.0; out_after = r.1 }
