use Prim.Native.Nat.{ℕ, ◌+◌}
use mathlib.Core.Path.{◌≡◌, ◌∙◌}
use native.Mathlib.Omega.{arith}
use lib.ListN.{get_or}
use Rattle.laws.proofs.Sums.{in_none}
use Rattle.lines.specs.Walk.{no_sums}
use Rattle.lines.proofs.Pools.{pooled_more, pooled_all}
use Rattle.lines.proofs.pool.Goals as goal

pub loop-j-init : goal.loop-j-init
loop-j-init c = let d = c.default-around.ensures in record {
  count = d.0 ∙ in_none _ _;
  total = d.1 ∙ in_none _ _;
  count_bound = omega arith;
  total_bound = omega arith;
}

pub loop-j-preserved : goal.loop-j-preserved
loop-j-preserved c =
    let a = c.args in
    let k = c.loop-j in
    let one_line = c.with.ensures.value in
    let other = c.with-around.ensures.value in record {
      count = pooled_more k.j a.n a.l _ _ (λ (m : ℕ). (get_or a.held.now (a.first + m) no_sums).count) _ _ k.auto.j k.invariant.count c.line_before.ensures c.line_after.ensures one_line.0 other.0;
      total = pooled_more k.j a.n a.l _ _ (λ (m : ℕ). (get_or a.held.now (a.first + m) no_sums).total) _ _ k.auto.j k.invariant.total c.line_before.ensures c.line_after.ensures one_line.1 other.1;
      count_bound = omega arith;
      total_bound = omega arith;
    }

pub returns-clause-value : goal.returns-clause-value
returns-clause-value c =
    let a = c.args in
    let k = c.loop-j in
    let e : k.j ≡ 9 = omega arith in
    let count = pooled_all k.j a.n a.l (λ (m : ℕ). (get_or a.held.now (a.first + m) no_sums).count) k.around.count e k.invariant.count in
    let total = pooled_all k.j a.n a.l (λ (m : ℕ). (get_or a.held.now (a.first + m) no_sums).total) k.around.total e k.invariant.total in
    λ t. record { count = count t; total = total t }
