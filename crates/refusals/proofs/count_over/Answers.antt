use Prim.Native.Nat.{ℕ, ◌+◌, ◌≤◌}
use mathlib.Core.Bool.{cond}
use mathlib.Core.Path.{◌≡◌, sym, ap, ap₂, ◌∙◌}
use native.Mathlib.Omega.{arith}
use lib.Dec.{ltb}
use lib.ListN.{length}
use Rattle.std.proofs.Common.{rules, length-append}
use Rattle.std.proofs.lemmas.Slice.Zip.{zip_turn, zip_end}
use Rattle.laws.specs.First.{count_to}
use Rattle.laws.proofs.Firsts.{count_most}
use Rattle.laws.proofs.Sums.{sum_none, sum_more}
use mir.Val.{bool_byte}
use Rattle.laws.proofs.Cases.{bit_is}
use Rattle.window.specs.declared.View.{View}
use Rattle.window.proofs.Sides.{sites-few}
use Rattle.window.specs.View.{above, seen, seen_at}
use Rattle.window.proofs.Views.{seen_is}
use Rattle.refusals.proofs.count_over.Goals as goal
use Rattle.refusals.proofs.count_over.Goals.{After-from-count}

-- a turn's pair stands at the index of the turn, and 1 is added where what is seen there is above full scale
here : (c : After-from-count) → c.from-count.result ≡ cond (above c.args.full_scale (seen c.args.view.now.mask.now c.args.view.now.frame.now) (length c.loop-code.yielded)) 1 0
here c =
    let z = zip_turn c.args.view.now.mask.now c.args.view.now.frame.now c.loop-code.yielded c.into_iter-code-iterator.result c.loop-code.code-iterator c.next.new.self c.next.result (search rules) (search rules) c.loop-code.yielded_by _ c.in-Some.is c.next.ensures.steps in
    c.from-count.ensures ∙ ap (λ (s : ℕ). bool_byte (ltb c.args.full_scale s)) (c.seen_at.ensures ∙ ap₂ seen_at (z.2 0) (z.3 0) ∙ sym (seen_is _ _ _)) ∙ bit_is _

-- 16 bits count them
few : (v : View) → length v.mask.now ≤ 16384
few v = omega (arith, v.masked, sites-few v.width v.height)

counted : (c : After-from-count) → c.loop-code.count + c.from-count.result ≤ length c.args.view.now.mask.now
counted c =
    let test = above c.args.full_scale (seen c.args.view.now.mask.now c.args.view.now.frame.now) in
    let z = zip_turn c.args.view.now.mask.now c.args.view.now.frame.now c.loop-code.yielded c.into_iter-code-iterator.result c.loop-code.code-iterator c.next.new.self c.next.result (search rules) (search rules) c.loop-code.yielded_by _ c.in-Some.is c.next.ensures.steps in
    omega (arith, c.loop-code.invariant, here c, z.0, sum_more (length c.loop-code.yielded) (λ (i : ℕ). cond (test i) 1 0), count_most test (length c.loop-code.yielded + 1))

pub loop-code-init : goal.loop-code-init
loop-code-init c = sum_none _

pub overflow_add-count : goal.overflow_add-count
overflow_add-count c = omega (arith, counted (goal.at.overflow_add-count c).After-from-count, few (goal.at.overflow_add-count c).After-from-count.args.view.now)

pub loop-code-preserved : goal.loop-code-preserved
loop-code-preserved c = rw (length-append c.loop-code.yielded _, here (goal.at.loop-code-preserved c).After-from-count, c.loop-code.invariant) (sum_more _ _)

pub returns : goal.returns
returns c =
    let n = zip_end c.args.view.now.mask.now c.args.view.now.frame.now c.loop-code.yielded c.into_iter-code-iterator.result c.loop-code.code-iterator c.next.new.self c.next.result (search rules) (search rules) c.loop-code.yielded_by c.in-None.is c.next.ensures.steps in
    let e : length c.loop-code.yielded ≡ length c.args.view.now.mask.now = omega (arith, n, c.args.view.now.masked, c.args.view.now.framed) in (
      c.loop-code.invariant ∙ ap (λ (k : ℕ). count_to k (above c.args.full_scale (seen c.args.view.now.mask.now c.args.view.now.frame.now))) e,
      omega (arith, few c.args.view.now, count_most (above c.args.full_scale (seen c.args.view.now.mask.now c.args.view.now.frame.now)) (length c.loop-code.yielded), c.loop-code.invariant, e),
    )
