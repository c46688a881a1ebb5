-- `first_over` is right because nothing that is seen at a site passed is above full scale: it stops at the first that is, or past the last.
use Prim.Native.Nat.{◌-◌}
use Rattle.window.specs.View.{above, seen}
use Rattle.refusals.proofs.Searches.{AtRow, AtSite}
use Rattle.refusals.proofs.first_over.Given as goal

abbrev pub invariant-loop-column : goal.invariant-loop-column
invariant-loop-column l = AtSite (above l.full_scale (seen l.view.mask.now l.view.frame.now)) l.view.width l.row l.column l.site

abbrev pub decreases-loop-column : goal.decreases-loop-column
decreases-loop-column l = l.view.width - l.column

abbrev pub invariant-rows : goal.invariant-rows
invariant-rows l = AtRow (above l.full_scale (seen l.view.mask.now l.view.frame.now)) l.view.width l.view.height l.row l.site

abbrev pub decreases-rows : goal.decreases-rows
decreases-rows l = l.view.height - l.row
