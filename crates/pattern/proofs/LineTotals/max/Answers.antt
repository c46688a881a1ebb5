use Prim.Native.Nat.{◌+◌, ◌-◌}
use mathlib.Core.Path.{◌≡◌, ◌∙◌}
use native.Mathlib.Omega.{arith}
use lib.ListN.{length}
use Rattle.std.proofs.Common.{rules}
use Rattle.std.specs.Slice.Iter.{windows_rest}
use Rattle.std.proofs.lemmas.Iterator.{window_more}
use Rattle.laws.specs.Table.{held}
use Rattle.pattern.proofs.Elevens.{middle, max_turn}
use Rattle.pattern.proofs.LineTotals.max.Goals as goal

pub loop-eleven-preserved : goal.loop-eleven-preserved
loop-eleven-preserved c =
    let all = c.args.self.each.now in
    let was = c.loop-eleven.invariant in
    let i = length all - length (windows_rest c.loop-eleven.eleven-iterator) in
    let h = window_more all c.loop-eleven.eleven-iterator c.next.new.self _ _ c.in-Some.is c.next.ensures.steps (search rules) (search rules) (search rules) in
    let e : length all - length (windows_rest c.next.new.self) ≡ i + 1 = omega (arith, h.0, was.2) in
    let here = c.deviation_of.ensures ∙ middle (held c.in-Some.eleven.now) (held all) i (λ k l. h.3 k 0 (omega (arith, was.0))) in (
      search rules,
      search rules,
      search rules,
      h.1,
      λ z. absurd (omega (arith, e)),
      λ l. c.max-greatest.ensures ∙ rw e (max_turn (held all) i _ _ was.4 was.5 here),
    )
