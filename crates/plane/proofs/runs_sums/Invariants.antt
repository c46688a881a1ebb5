-- `runs_sums` is right because each turn adds one more run, and the run beside it.
use Prim.Native.Nat.{ℕ, ◌+◌, ◌-◌, ◌*◌}
use mathlib.Core.Path.{◌≡◌}
use Rattle.plane.specs.Walk.{Few, Runs}
use Rattle.plane.proofs.runs_sums.Given as goal

abbrev pub invariant-loop-u : goal.invariant-loop-u
invariant-loop-u g l = record {
  even : Runs l.mask l.frame (λ (u v : ℕ). l.start + l.stride * u + l.step * v) l.within.left l.within.right l.within.top l.u l.even;
  odd : g.row.PLANES ≡ 2 → Runs l.mask l.frame (λ (u v : ℕ). l.start + l.stride * u + l.step * v + 1) l.within.left l.within.right l.within.top l.u l.odd;
  few : Few (64 * (l.u - l.within.top)) l.even × Few (64 * (l.u - l.within.top)) l.odd;
}
