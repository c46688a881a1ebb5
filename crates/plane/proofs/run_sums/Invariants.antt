-- `run_sums` is right because each turn adds what is seen at one more site of the run, and of the run beside it.
use Prim.Native.Nat.{ℕ, ◌+◌, ◌-◌, ◌*◌}
use mathlib.Core.Path.{◌≡◌}
use Rattle.plane.specs.Walk.{Few, Run}
use Rattle.plane.proofs.run_sums.Given as goal

abbrev pub invariant-loop-v : goal.invariant-loop-v
invariant-loop-v g l = record {
  even : Run l.mask l.frame (λ (v : ℕ). l.start + l.step * v) l.first l.v l.even;
  odd : g.row.PLANES ≡ 2 → Run l.mask l.frame (λ (v : ℕ). l.start + l.step * v + 1) l.first l.v l.odd;
  few : Few (l.v - l.first) l.even × Few (l.v - l.first) l.odd;
}
