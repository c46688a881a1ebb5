use Prim.Native.Nat.{ℕ, ◌+◌}
use mathlib.Core.Path.{ap₂, ◌∙◌}
use native.Mathlib.Omega.{arith}
use borrow.Author.Rules.{rules}
use Rattle.laws.proofs.Tables.{filling_none, filling_more}
use Rattle.laws.proofs.Sums.{sum_none, sum_more}
use Rattle.laws.proofs.Cases.{bit_is, bit_few}
use Rattle.repair.proofs.fill.Goals as goal

pub loop-i-init : goal.loop-i-init
loop-i-init c = (filling_none _ _, filling_none _ _, sum_none _, search rules)

pub loop-i-preserved : goal.loop-i-preserved
loop-i-preserved c = let l = c.loop-i in
    let s = c.fill_at-site.ensures in (
      filling_more _ l.invariant.0 (omega arith) s.sample_value,
      filling_more _ l.invariant.1 (omega arith) s.code_value,
      ap₂ (λ (x y : ℕ). x + y) l.invariant.2 (c.from-filled.ensures ∙ bit_is _ ∙ s.filled_value) ∙ sum_more l.i _,
      omega (arith, c.from-filled.ensures, bit_few c.fill_at-site.result.filled),
    )
