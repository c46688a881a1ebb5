use Prim.Native.Nat.{ℕ, ◌+◌, ◌*◌, ◌<◌, ◌≤◌}
use mathlib.Core.Path.{◌≡◌, ap, ◌∙◌}
use native.Mathlib.Omega.{arith}
use Rattle.laws.specs.Table.{held}
use Rattle.laws.proofs.Tables.{storing_more}
use Rattle.sites.specs.Walk.{strip, along_to}
use Rattle.sites.proofs.Totals.{along_more, along_most, along_read, begun}
use Rattle.sites.proofs.run.Goals as goal
use Rattle.sites.proofs.run.Goals.{At-loop-x}

-- what is held after so many turns, and that it is no more than a window holds
module _ (c : At-loop-x) where
  abbrev step : ℕ → ℕ
  step = strip c.args.above.now c.args.below.now c.args.start

  total : (j : ℕ) → j < c.loop-x.x + 2 → held c.loop-x.along j ≡ along_to step j
  total = along_read step c.loop-x.invariant (begun c.args.along.now)

  few : (k : ℕ) → k < c.args.width → step k ≤ 64 * 65535
  few k inside = omega (arith, (c.requires.2.within (c.args.start + k) (omega arith)).1)

pub overflow_add-along-in-loop-x-2 : goal.overflow_add-along-in-loop-x-2
overflow_add-along-in-loop-x-2 c = let t = (goal.at.overflow_add-along-in-loop-x-2 c).At-loop-x in
    let x = c.loop-x.x in
    omega (arith, total t x (omega arith), along_most (step t) (64 * 65535) x (λ k low. few t k (omega arith)), few t x (omega arith))

pub loop-x-preserved : goal.loop-x-preserved
loop-x-preserved c = let t = (goal.at.loop-x-preserved c).At-loop-x in
    let x = c.loop-x.x in
    storing_more _ c.loop-x.invariant (omega arith) (ap (λ (k : ℕ). k + step t x) (total t x (omega arith)) ∙ along_more (step t) x)

pub returns : goal.returns
returns c = let t = (goal.at.returns c).At-loop-x in record { told = λ j low. total t j (omega arith) }
