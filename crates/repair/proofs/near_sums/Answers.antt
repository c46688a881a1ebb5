-- `near_sums` is right because it sums the definition's box of the site's own plane.
use native.Mathlib.Omega.{arith}
use Rattle.window.proofs.Sides.{Sides, sides, sites-few}
use Rattle.near.proofs.Nears.{near-told}
use Rattle.repair.proofs.near_sums.Goals as goal
use Rattle.repair.proofs.near_sums.Goals.{Start}

legal : (c : Start) → Sides c.args.view.now.width c.args.view.now.height
legal c = sides _ _ c.args.view.now.legal

pub nonzero_div-plane : goal.nonzero_div-plane
nonzero_div-plane c = omega (arith, (legal (goal.at.nonzero_div-plane c).Start).wide.low)

pub nonzero_rem-plane-2 : goal.nonzero_rem-plane-2
nonzero_rem-plane-2 c = omega (arith, (legal (goal.at.nonzero_rem-plane-2 c).Start).wide.low)

pub box_around-around-requires : goal.box_around-around-requires
box_around-around-requires c = omega (arith, (legal (goal.at.box_around-around-requires c).Start).wide.low, sites-few c.args.view.now.width c.args.view.now.height)

pub returns-clause-count_value : goal.returns-clause-count_value
returns-clause-count_value c = near-told _ _ _ _ _ _ _ _ (legal (goal.at.returns-clause-count_value c).Start) c.args.view.now.masked c.args.view.now.framed c.box_around-around.ensures c.box_sums.ensures.value
