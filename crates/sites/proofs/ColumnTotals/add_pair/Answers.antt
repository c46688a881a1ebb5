use Prim.Native.Nat.{ℕ, ◌+◌, ◌*◌, ◌≤◌}
use mathlib.Core.Logic.{⊎_elim}
use mathlib.Core.Path.{◌≡◌, refl, sym, ap₂, ◌∙◌}
use native.Mathlib.Nat.{le_refl, not-suc-le-zero}
use native.Mathlib.Omega.{arith}
use Rattle.laws.specs.Table.{held}
use Rattle.laws.proofs.Cases.{lt_or_ge}
use Rattle.laws.proofs.Tables.{filling_none, filling_more, filling_read, filling_rest}
use Rattle.window.specs.View.{one, seen}
use Rattle.window.proofs.Views.{one_is, seen_is, one_le}
use Rattle.sites.specs.Walk.{down_to}
use Rattle.sites.proofs.Rows.{PairIn, pair_in}
use Rattle.sites.proofs.Totals.{down_more, down_most}
use Rattle.sites.proofs.ColumnTotals.add_pair.Goals as goal
use Rattle.sites.proofs.ColumnTotals.add_pair.Goals.{In-loop-k}

-- what is held of this site yet
module _ (c : In-loop-k) where
  in-view : PairIn c.args.view.now c.args.self.now.pairs
  in-view = pair_in _ _ c.requires.pair_in

  counted : held c.loop-k.self.counts c.loop-k.k ≡ down_to c.args.view.now.width (one c.args.view.now.mask.now) c.args.self.now.pairs c.loop-k.k
  counted = filling_rest c.loop-k.invariant.1 _ (le_refl _) ∙ c.requires.totals.counted _ (omega arith)

  added : held c.loop-k.self.totals c.loop-k.k ≡ down_to c.args.view.now.width (seen c.args.view.now.mask.now c.args.view.now.frame.now) c.args.self.now.pairs c.loop-k.k
  added = filling_rest c.loop-k.invariant.2 _ (le_refl _) ∙ c.requires.totals.added _ (omega arith)

  few : held c.loop-k.self.totals c.loop-k.k ≤ c.args.self.now.pairs * 65535
  few = rw (filling_rest c.loop-k.invariant.2 _ (le_refl _)) (c.requires.totals.most _ (omega arith))

pub overflow_mul-start : goal.overflow_mul-start
overflow_mul-start c = omega (arith, (pair_in c.args.view.now c.args.self.now.pairs c.requires.pair_in).wide)

pub overflow_mul-k-end : goal.overflow_mul-k-end
overflow_mul-k-end c = omega (arith, (pair_in c.args.view.now c.args.self.now.pairs c.requires.pair_in).wide)

pub loop-k-init : goal.loop-k-init
loop-k-init c = (refl, filling_none _ _, filling_none _ _, λ j low. absurd (not-suc-le-zero low))

pub overflow_add-self : goal.overflow_add-self
overflow_add-self c = let t = (goal.at.overflow_add-self c).In-loop-k in
    omega (arith, counted t, (in-view t).few, down_most c.args.view.now.width (one c.args.view.now.mask.now) 1 c.args.self.now.pairs c.loop-k.k (one_le c.args.view.now.mask.now), c.one_at.ensures.1)

pub overflow_add-self-in-loop-k : goal.overflow_add-self-in-loop-k
overflow_add-self-in-loop-k c = let t = (goal.at.overflow_add-self-in-loop-k c).In-loop-k in
    omega (arith, few t, (in-view t).few, c.from.ensures)

pub loop-k-preserved : goal.loop-k-preserved
loop-k-preserved c = let l = c.loop-k in
    let v = c.args.view.now in
    let p = c.args.self.now.pairs in
    let t = (goal.at.loop-k-preserved c).In-loop-k in
    let wide = (in-view t).wide in
    let more = ap₂ (λ (x y : ℕ). x + y) (added t) (c.from.ensures ∙ c.seen_at.ensures ∙ sym (seen_is _ _ _)) ∙ down_more v.width (seen v.mask.now v.frame.now) p l.k in (
      l.invariant.0,
      filling_more _ l.invariant.1 (omega (arith, l.invariant.1.long, wide)) (ap₂ (λ (x y : ℕ). x + y) (counted t) (c.one_at.ensures.0 ∙ sym (one_is _ _)) ∙ down_more _ (one v.mask.now) p l.k),
      filling_more _ l.invariant.2 (omega (arith, l.invariant.2.long, wide)) more,
      λ j low. ⊎_elim
          (λ before. l.invariant.3 j before)
          (λ (here : l.k ≤ j). let q : j ≡ l.k = omega arith in rw q (omega (arith, more, few t, c.from.ensures)))
          (lt_or_ge j l.k),
    )

pub returns : goal.returns
returns c = let l = c.loop-k in (
  record {
    counted = λ k low. rw l.invariant.0 (filling_read l.invariant.1 k (omega arith));
    added = λ k low. rw l.invariant.0 (filling_read l.invariant.2 k (omega arith));
    most = λ k low. rw (l.invariant.0, filling_read l.invariant.2 k (omega arith)) (l.invariant.3 k (omega arith));
  },
  omega arith,
)
