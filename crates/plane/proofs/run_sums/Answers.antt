use native.Mathlib.Omega.{arith}
use Rattle.plane.proofs.Runs.{run_none, run_more}
use Rattle.plane.proofs.run_sums.Goals as goal

pub loop-v-init : goal.loop-v-init
loop-v-init g c = record {
  even = run_none;
  odd = λ both. run_none;
  few = omega arith;
}

pub loop-v-preserved : goal.loop-v-preserved
loop-v-preserved g c = let s = c.loop-v in record {
  even = run_more s.invariant.even s.auto.v c.with_site-even.ensures;
  odd = λ both. run_more (s.invariant.odd both) s.auto.v (c.with_right-odd.ensures.more both);
  few = omega arith;
}
