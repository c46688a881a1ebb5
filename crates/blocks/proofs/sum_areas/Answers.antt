use Prim.Native.Nat.{ℕ, ◌+◌, ◌*◌}
use mathlib.Core.Path.{◌≡◌, ap}
use native.Mathlib.Omega.{arith}
use Rattle.window.proofs.Sides.{sides}
use Rattle.plane.specs.declared.Pair.{Pair}
use Rattle.blocks.specs.Areas.{entries_of}
use Rattle.blocks.proofs.Stores.{stored_more, stored_done}
use Rattle.blocks.proofs.Told.{entry_summed}
use Rattle.blocks.proofs.sum_areas.Goals as goal

pub loop-k-preserved : goal.loop-k-preserved
loop-k-preserved c = let i = c.loop-k.invariant in
    let last = c.loop-k-test.true in
    let upper = c.pair_sums-upper.ensures in
    let lower = c.pair_sums-lower.ensures in
    let told = entry_summed _ _ _ _ _ _ _ (sides _ _ c.args.view.now.legal) c.args.view.now.masked c.args.view.now.framed
    (ap (λ (n : ℕ). n + 1) c.blocks-areas.ensures.0) last c.area-within.ensures in
    let first = told 0 _ (ap (λ (p : Pair). p.even) upper) in
    let second = told 1 _ (ap (λ (p : Pair). p.odd) upper) in
    let third = told 2 _ (ap (λ (p : Pair). p.even) lower) in
    let fourth = told 3 _ (ap (λ (p : Pair). p.odd) lower) in (
      omega arith,
      i.1,
      i.2,
      rw (c.store.ensures, c.totals_of.ensures) (stored_more _ i.3 last i.1 first.0 second.0 third.0 fourth.0),
      rw (c.store-in-loop-k.ensures, c.counts_of.ensures) (stored_more _ i.4 last i.2 first.1 second.1 third.1 fourth.1),
    )

pub returns : goal.returns
returns c = let all : entries_of c.args.view.now.width c.args.view.now.height ≡ 4 * (c.blocks-areas.result + 1) = omega (arith, c.blocks-areas.ensures.0) in
    record {
      totals_after = stored_done _ c.loop-k.invariant.3 (omega arith) (omega arith) c.requires.0 all;
      counts_after = stored_done _ c.loop-k.invariant.4 (omega arith) (omega arith) c.requires.1 all;
    }
