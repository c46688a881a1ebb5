-- `gather` is right because each turn holds what one more line counts and sums.
use Prim.Native.Nat.{ℕ, ◌*◌, ◌<◌}
use mathlib.Core.Path.{◌≡◌}
use lib.ListN.{length, get_or}
use Rattle.lines.specs.Walk.{laid, no_sums, sums_held}
use Rattle.lines.proofs.gather.Given as goal

abbrev pub invariant-loop-i : goal.invariant-loop-i
invariant-loop-i l = record {
  long : length l.line-items ≡ 4 * l.n;
  so_far : (k : ℕ) → k < l.i → get_or l.line-items k no_sums ≡ sums_held (laid l.layout) l.layout.width l.layout.height l.n l.mask l.frame k;
}
