-- `pool` is right because each turn adds one more line on either side.
use Prim.Native.Nat.{ℕ, ◌+◌, ◌-◌, ◌*◌, ◌≤◌}
use mathlib.Core.Path.{◌≡◌}
use lib.ListN.{get_or}
use Rattle.lines.specs.Walk.{no_sums}
use Rattle.lines.proofs.Pools.{pooled_to}
use Rattle.lines.proofs.pool.Given as goal

abbrev pub invariant-loop-j : goal.invariant-loop-j
invariant-loop-j l = record {
  count : l.around.count ≡ pooled_to l.j l.n (λ (m : ℕ). (get_or l.held (l.first + m) no_sums).count) l.l;
  total : l.around.total ≡ pooled_to l.j l.n (λ (m : ℕ). (get_or l.held (l.first + m) no_sums).total) l.l;
  count_bound : l.around.count ≤ 131070 * (l.j - 1);
  total_bound : l.around.total ≤ 8589934590 * (l.j - 1);
}
