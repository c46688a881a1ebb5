use Prim.Native.Nat.{ℕ, ◌+◌, ◌-◌, ◌*◌}
use mathlib.Core.Path.{◌≡◌, ap, ap₂, ◌∙◌}
use native.Mathlib.Omega.{arith}
use lib.ListN.{length}
use Rattle.std.proofs.Common.{rules}
use Rattle.std.specs.Slice.Iter.{windows_rest}
use Rattle.std.proofs.lemmas.Iterator.{window_more}
use Rattle.laws.specs.Signed.{apart}
use Rattle.laws.specs.Table.{held}
use Rattle.laws.proofs.Sums.{sum_none}
use Rattle.pattern.proofs.Figuring.{level_more}
use Rattle.pattern.proofs.LineTotals.level.Goals as goal

pub loop-pair-init : goal.loop-pair-init
loop-pair-init c =
    let e : length c.args.self.each.now - length (windows_rest c.into_iter-pair-iterator.result) ≡ 0 = search rules in
    (search rules, search rules, search rules, search rules, rw e (sum_none _), search rules)

pub loop-pair-preserved : goal.loop-pair-preserved
loop-pair-preserved c =
    let all = c.args.self.each.now in
    let i = length all - length (windows_rest c.loop-pair.pair-iterator) in
    let h = window_more all c.loop-pair.pair-iterator c.next.new.self _ _ c.in-Some.is c.next.ensures.steps (search rules) (search rules) (search rules) in
    let e : length all - length (windows_rest c.next.new.self) ≡ i + 1 = omega (arith, h.0, c.loop-pair.invariant.2) in
    let here : i + 0 ≡ i = omega arith in
    let square = c.step-sum.ensures.0 ∙ ap₂ (λ (a b : ℕ). apart a b * apart a b) (h.3 0 0 (search rules) ∙ ap (held all) here) (h.3 1 0 (search rules)) in (
      search rules,
      search rules,
      search rules,
      h.1,
      rw e (level_more (held all) i _ _ c.loop-pair.invariant.4 square),
      omega (arith, e, c.loop-pair.invariant.5, c.step-sum.ensures.1),
    )
