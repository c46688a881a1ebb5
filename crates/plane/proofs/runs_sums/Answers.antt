use native.Mathlib.Omega.{arith}
use Rattle.plane.proofs.Runs.{runs_none, runs_more}
use Rattle.plane.proofs.runs_sums.Goals as goal

pub loop-u-init : goal.loop-u-init
loop-u-init g c = record {
  even = runs_none;
  odd = λ both. runs_none;
  few = omega arith;
}

pub loop-u-preserved : goal.loop-u-preserved
loop-u-preserved g c = let run = c.run_sums-run.ensures in record {
  even = runs_more c.loop-u.invariant.even c.loop-u.auto.u run.even c.with_run-even.ensures;
  odd = λ both. runs_more (c.loop-u.invariant.odd both) c.loop-u.auto.u (run.odd both) c.with_run-odd.ensures;
  few = omega arith;
}
