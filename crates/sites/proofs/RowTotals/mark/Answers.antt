use Prim.Native.Nat.{ℕ, ◌+◌}
use mathlib.Core.Path.{ap, ap₂, ◌∙◌}
use native.Mathlib.Omega.{arith}
use borrow.Author.Rules.{rules}
use Rattle.laws.proofs.Sums.{sum_none, sum_more}
use Rattle.laws.proofs.Tables.{storing_none, storing_more}
use Rattle.laws.proofs.Cases.{bit_is, bit_few}
use Rattle.sites.specs.Find.{marked}
use Rattle.sites.specs.Walk.{found_by, found_along, marked_along}
use Rattle.sites.proofs.Rows.{row_in}
use Rattle.sites.proofs.RowTotals.mark.Goals as goal
use Rattle.sites.proofs.RowTotals.mark.Goals.{After-code_of}

pub loop-x-init : goal.loop-x-init
loop-x-init c = (storing_none _ _ _, sum_none _, search rules)

pub loop-x-preserved : goal.loop-x-preserved
unfolding found_along marked_along
loop-x-preserved c = let l = c.loop-x in
    let f = c.is_found-newly.ensures ∙ ap₂ (found_by _ _ _) c.box_along-count.ensures c.box_along-total.ensures in (
      storing_more _ l.invariant.0 (omega (arith, l.invariant.0.long, (row_in c.args.view.now c.args.y (omega arith)).inside)) (c.code_of.ensures ∙ ap (marked _) f),
      ap₂ (λ (x y : ℕ). x + y) l.invariant.1 (c.from-found.ensures ∙ bit_is _ ∙ f) ∙ sum_more l.x _,
      omega (arith, c.from-found.ensures, bit_few c.is_found-newly.result),
    )
