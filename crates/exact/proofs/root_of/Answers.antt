use mathlib.Core.Path.{sym, ap, ◌∙◌}
use native.Mathlib.Nat.{pos_of_ne-zero}
use native.Mathlib.Omega.{arith}
use Rattle.exact.specs.Root.{root}
use Rattle.exact.proofs.Roots.{is_root, root-zero}
use Rattle.exact.proofs.Newton.{stage_first, stage_next, stage_done}
use Rattle.exact.proofs.root_of.Goals as goal

pub returns-then-x-eq0 : goal.returns-then-x-eq0
returns-then-x-eq0 c = sym (ap root c.if-x-eq0.true ∙ root-zero)

pub loop-q-init : goal.loop-q-init
loop-q-init c = stage_first _ (pos_of_ne-zero c.if-x-eq0.false) c.ranges.x.fits

pub loop-q-preserved : goal.loop-q-preserved
loop-q-preserved c = stage_next _ _ _ (pos_of_ne-zero c.if-x-eq0.false) c.loop-q.invariant (omega arith)

pub returns : goal.returns
returns c = is_root (stage_done _ _ _ c.loop-q.invariant c.loop-q-test.false)
