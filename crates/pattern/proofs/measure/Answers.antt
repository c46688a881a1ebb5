use Prim.Native.Nat.{ℕ}
use mathlib.Core.Path.{◌≡◌, refl, ap, ◌∙◌}
use native.Mathlib.Omega.{arith}
use Rattle.laws.specs.Table.{held, tabulate}
use Rattle.laws.specs.Sum.{sum_to}
use Rattle.pattern.specs.Walk.{with_row}
use Rattle.pattern.proofs.Measures.{row_ready, lent_possible, lent_enough, lent_figures}
use Rattle.pattern.proofs.Totals.{passed, row_more}
use Rattle.pattern.proofs.measure.Goals as goal
use Rattle.pattern.proofs.measure.Goals.{After-line_of}

-- after the last row
ended : (c : After-line_of)
    → c.loop-y.totals
    ≡ tabulate 128 (passed c.args.lines c.args.width (held c.args.sums.now) c.args.height)
ended c =
    let e : c.loop-y.y ≡ c.args.height = omega arith in
    c.loop-y.invariant.1 ∙ ap (λ (y : ℕ). tabulate 128 (passed c.args.lines c.args.width (held c.args.sums.now) y)) e

pub loop-y-init : goal.loop-y-init
unfolding tabulate sum_to
loop-y-init c = (omega arith, refl)

pub add_row-requires : goal.add_row-requires
add_row-requires c = row_ready _ _ _ _ _ _ c.requires.1 _ _ c.loop-y-test.true (λ i. omega (arith, c.shared_slice_known-1.given i)) c.loop-y.invariant.1

pub loop-y-preserved : goal.loop-y-preserved
loop-y-preserved c = (omega arith, c.add_row.ensures ∙ ap (with_row _ _ _ _) c.loop-y.invariant.1 ∙ row_more _ _ _ _)

pub invariant_of-lined : goal.invariant_of-lined
invariant_of-lined c =
    let done = ended (goal.at.invariant_of-lined c).After-line_of in
    record {
      enough = lent_enough _ _ _ _ _ _ c.requires.1 _ done _ c.line_of.ensures c.requires.0;
      possible = lent_possible _ _ _ _ _ _ c.requires.1 _ done _ c.line_of.ensures;
    }

pub returns : goal.returns
returns c = c.figures.ensures ∙ lent_figures _ _ _ _ _ _ c.requires.1 _ (ended (goal.at.returns c).After-line_of) _ c.line_of.ensures c.requires.0 _ c.line_of-long.ensures
