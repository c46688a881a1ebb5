use Prim.Native.Nat.{ℕ, ◌+◌, ◌-◌, ◌%◌}
use mathlib.Core.Path.{◌≡◌, refl, sym, ap, ◌∙◌}
use native.Mathlib.Omega.{arith}
use lib.ListN.{get_or}
use Rattle.plane.specs.declared.Sums.{Sums}
use Rattle.lines.specs.Walk.{laid, no_sums}
use Rattle.laws.proofs.Tables.{filling_none, filling_more, filling_done}
use Rattle.lines.proofs.Pools.{sums_marked, mark_at_lem}
use Rattle.lines.proofs.mark.Goals as goal

pub loop-i-init : goal.loop-i-init
loop-i-init c = filling_none _ _

pub loop-i-preserved : goal.loop-i-preserved
loop-i-preserved c =
    let a = c.args in
    let k = c.loop-i in
    let held : ℕ → Sums = λ x. get_or c.gather-held.result x no_sums in
    let own : k.i - k.i % a.n + k.i % a.n ≡ k.i = omega arith in
    filling_more _ k.invariant (omega arith)
    (c.from.ensures
    ∙ sums_marked a.n (k.i % a.n) (λ (m : ℕ). held (k.i - k.i % a.n + m)) (held k.i) c.pool.result c.stands_out.result (ap held (sym own)) c.pool.ensures.value c.stands_out.ensures
    ∙ mark_at_lem (laid a.layout) a.layout.width a.layout.height a.n k.i a.mask.now a.frame.now held c.requires.4 c.requires.5 c.requires.0 c.requires.1 (omega (arith, c.requires.3)) c.gather-held.ensures)

pub returns : goal.returns
returns c = filling_done _ c.loop-i.invariant (omega arith) refl
