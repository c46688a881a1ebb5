use Prim.Native.Nat.{ℕ, ◌+◌}
use mathlib.Core.Path.{◌≡◌, refl, ap, ap₂, ◌∙◌}
use native.Mathlib.Omega.{arith}
use mir.Val.{bool_byte}
use Rattle.laws.specs.First.{count_to}
use Rattle.laws.proofs.Firsts.{count_most}
use Rattle.laws.proofs.Sums.{sum_none, sum_more}
use Rattle.laws.proofs.Cases.{bit_is}
use Rattle.blinking.specs.Blinking.{blinks}
use Rattle.blinking.proofs.count_blinking.Goals as goal
use Rattle.blinking.proofs.count_blinking.Goals.{After-from-count}

-- a turn
counted : (c : After-from-count)
    → let a = c.args in
    c.loop-i.count + c.from-count.result ≡ count_to (c.loop-i.i + 1) (blinks a.spread a.mask.now a.least.now a.greatest.now)
counted c = ap₂ (λ (x y : ℕ). x + y) c.loop-i.invariant.2 (c.from-count.ensures ∙ ap bool_byte c.blinks_at.ensures ∙ bit_is _) ∙ sum_more _ _

pub loop-i-init : goal.loop-i-init
loop-i-init c = (omega arith, refl, sum_none _)

pub overflow_add-count : goal.overflow_add-count
overflow_add-count c = let a = c.args in
    omega (arith, counted (goal.at.overflow_add-count c).After-from-count, count_most (blinks a.spread a.mask.now a.least.now a.greatest.now) (c.loop-i.i + 1))

pub loop-i-preserved : goal.loop-i-preserved
loop-i-preserved c = (omega arith, refl, counted (goal.at.loop-i-preserved c).After-from-count)
