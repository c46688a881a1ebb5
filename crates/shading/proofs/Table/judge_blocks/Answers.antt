use native.Mathlib.Omega.{arith}
use Rattle.shading.proofs.Walks.{filled_none, filled_more, filled_done}
use Rattle.shading.proofs.Table.judge_blocks.Goals as goal

pub loop-ratio-init : goal.loop-ratio-init
loop-ratio-init c = (omega arith, filled_none _ _ _ _ _, filled_none _ _ _ _ _, filled_none _ _ _ _ _, filled_none _ _ _ _ _)

pub loop-ratio-preserved : goal.loop-ratio-preserved
loop-ratio-preserved c = let i = c.loop-ratio.invariant in
    let s = c.judge_ratio.ensures in
    (omega arith, filled_more i.1 s.numerators_stored, filled_more i.2 s.denominators_stored, filled_more i.3 s.refusals_stored, filled_more i.4 s.fails_stored)

pub returns : goal.returns
returns c = let i = c.loop-ratio.invariant in
    let long = c.requires in
    record {
      numerators_after = filled_done i.1 (omega arith) long.0;
      denominators_after = filled_done i.2 (omega arith) long.1;
      refusals_after = filled_done i.3 (omega arith) long.2;
      fails_after = filled_done i.4 (omega arith) long.3;
    }
