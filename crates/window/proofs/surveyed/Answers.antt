-- `surveyed` is right because it counts the whole mask where that has the window's sites, and nothing otherwise.
use Prim.Native.Nat.{ℕ}
use mathlib.Core.Path.{sym, ap, ◌∙◌}
use native.Mathlib.Omega.{arith}
use lib.ListN.{length}
use Rattle.laws.proofs.Sums.{sum_none}
use Rattle.laws.specs.Sum.{sum_to}
use Rattle.window.proofs.Walks.{Whole, walked_some}
use Rattle.window.specs.View.{one}
use Rattle.window.proofs.surveyed.Goals as goal
use Rattle.window.proofs.surveyed.Goals.{Else-walkable-eq0}

masked : (c : Else-walkable-eq0) → Whole c.args.width c.args.height (length c.args.mask.now)
masked c = walked_some _ _ _ (λ e. c.if-walkable-eq0.false (c.walkable.ensures ∙ e))

pub returns-then-walkable-eq0 : goal.returns-then-walkable-eq0
returns-then-walkable-eq0 c = sum_none (one _) ∙ ap (λ (n : ℕ). sum_to n (one c.args.mask.now)) (sym (sym c.walkable.ensures ∙ c.if-walkable-eq0.true))

pub surveyed_few-requires : goal.surveyed_few-requires
surveyed_few-requires c = omega (arith, (masked (goal.at.surveyed_few-requires c).Else-walkable-eq0).holds, (masked (goal.at.surveyed_few-requires c).Else-walkable-eq0).legal.few)

pub returns : goal.returns
returns c = c.from.ensures ∙ c.surveyed_few.ensures
    ∙ ap (λ (n : ℕ). sum_to n (one c.args.mask.now)) ((masked (goal.at.returns c).Else-walkable-eq0).holds ∙ sym (masked (goal.at.returns c).Else-walkable-eq0).sites)
