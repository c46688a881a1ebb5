-- `first_bad_code` is right because every site passed has a code of at most 3: it stops at the first that has not, or past the last.
use Prim.Native.Nat.{◌-◌}
use Rattle.window.specs.View.{bad_code}
use Rattle.refusals.proofs.Searches.{AtRow, AtSite}
use Rattle.refusals.proofs.first_bad_code.Given as goal

abbrev pub invariant-loop-x : goal.invariant-loop-x
invariant-loop-x l = AtSite (bad_code l.mask) l.width l.y l.x l.at

abbrev pub decreases-loop-x : goal.decreases-loop-x
decreases-loop-x l = l.width - l.x

abbrev pub invariant-rows : goal.invariant-rows
invariant-rows l = AtRow (bad_code l.mask) l.width l.height l.y l.at

abbrev pub decreases-rows : goal.decreases-rows
decreases-rows l = l.height - l.y
