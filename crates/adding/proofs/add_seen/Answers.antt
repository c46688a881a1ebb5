use Prim.Native.Nat.{ℕ, ◌*◌}
use mathlib.Core.Path.{◌≡◌, refl, sym, ap₂, ◌∙◌}
use native.Mathlib.Omega.{arith}
use Rattle.laws.proofs.Tables.{filling_none, filling_done}
use Rattle.window.proofs.Views.{seen_is}
use Rattle.window.specs.View.{seen}
use Rattle.adding.proofs.Turns.{has_room, one_added}
use Rattle.adding.specs.After.{renewed, squared}
use Rattle.adding.proofs.add_seen.Goals as goal
use Rattle.adding.proofs.add_seen.Goals.{After-from-sample}

-- what is added is what is seen at the site
seen_here : (c : After-from-sample)
    → c.from-sample.result ≡ seen c.args.mask.now c.args.frame.now c.loop-i.i
seen_here c = c.from-sample.ensures ∙ c.seen_at.ensures ∙ sym (seen_is _ _ _)

squared-here : (c : After-from-sample)
    → c.from-sample.result * c.from-sample.result ≡ squared (seen c.args.mask.now c.args.frame.now) c.loop-i.i
squared-here c = ap₂ (λ (x y : ℕ). x * y) (seen_here c) (seen_here c)

pub loop-i-init : goal.loop-i-init
loop-i-init c = (omega arith, filling_none _ _, filling_none _ _)

pub overflow_add-sums : goal.overflow_add-sums
overflow_add-sums c = omega (arith, has_room _ c.loop-i.invariant.1 (seen_here (goal.at.overflow_add-sums c).After-from-sample) (c.requires.3 c.loop-i.i (omega arith)))

pub overflow_add-squares : goal.overflow_add-squares
overflow_add-squares c = omega (arith, has_room _ c.loop-i.invariant.2 (squared-here (goal.at.overflow_add-squares c).After-from-sample) (c.requires.4 c.loop-i.i (omega arith)))

pub loop-i-preserved : goal.loop-i-preserved
loop-i-preserved c = (omega arith, one_added _ c.loop-i.invariant.1 (seen_here (goal.at.loop-i-preserved c).After-from-sample) (omega arith), one_added _ c.loop-i.invariant.2 (squared-here (goal.at.loop-i-preserved c).After-from-sample) (omega arith))

pub returns-clause-sums : goal.returns-clause-sums
unfolding renewed
returns-clause-sums c = filling_done _ c.loop-i.invariant.1 (omega arith) refl

pub returns-clause-squares : goal.returns-clause-squares
unfolding renewed
returns-clause-squares c = filling_done _ c.loop-i.invariant.2 (omega arith) refl
