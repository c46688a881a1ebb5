use Prim.Native.Nat.{ℕ, ◌+◌}
use mathlib.Core.Path.{ap₂, ◌≡◌, sym, ◌∙◌}
use native.Mathlib.Omega.{arith}
use Rattle.laws.proofs.Sums.{sum_none, sum_more}
use Rattle.window.proofs.Views.{one_is, one_le, surveyed-few}
use Rattle.window.specs.View.{one}
use Rattle.window.proofs.surveyed_few.Goals as goal
use Rattle.window.proofs.surveyed_few.Goals.{After-seen_at-count}

-- what is added is 1 or 0, as the site is surveyed or not
counted : (c : After-seen_at-count) → c.seen_at-count.result ≡ one c.args.mask.now c.loop-code.code-index
counted c = c.seen_at-count.ensures ∙ sym (one_is _ _)

pub loop-code-init : goal.loop-code-init
loop-code-init c = sum_none _

pub overflow_add-count : goal.overflow_add-count
overflow_add-count c = let m = c.args.mask.now in
    let i = c.loop-code.code-index in
    omega (arith, counted (goal.at.overflow_add-count c).After-seen_at-count, one_le m i, surveyed-few m i)

pub loop-code-preserved : goal.loop-code-preserved
loop-code-preserved c = ap₂ (λ (x y : ℕ). x + y) c.loop-code.invariant (counted (goal.at.loop-code-preserved c).After-seen_at-count) ∙ sum_more _ _
