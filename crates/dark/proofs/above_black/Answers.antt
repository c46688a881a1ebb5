use Prim.Native.Nat.{◌<◌}
use mathlib.Core.Path.{◌≡◌, ap, ◌∙◌}
use native.Mathlib.Omega.{arith}
use lib.IntN.{pos}
use lib.ListN.{length, get_or}
use Rattle.std.proofs.Common.{rules, length-append}
use Rattle.std.proofs.lemmas.Slice.Zip.{zip_turn, zip_end}
use Rattle.dark.specs.Dark.{above_black}
use Rattle.dark.proofs.Turns.{start, turn, turn_fits}
use Rattle.dark.proofs.above_black.Goals as goal
use Rattle.dark.proofs.above_black.Goals.{In-Some}

-- a turn's pair stands at the index of the turn
here : (c : In-Some) → let i = length c.loop-code.yielded in
    (i < length c.args.mask.now) × (c.in-Some.code.now ≡ get_or c.args.mask.now i 0) × (c.in-Some.sample.now ≡ get_or c.args.frame.now i 0)
here c =
    let z = zip_turn c.args.mask.now c.args.frame.now c.loop-code.yielded c.into_iter-code-iterator.result c.loop-code.code-iterator c.next.new.self c.next.result (search rules) (search rules) c.loop-code.yielded_by _ c.in-Some.is c.next.ensures.steps in
    (z.0, z.2 0, z.3 0)

pub loop-code-init : goal.loop-code-init
loop-code-init c = (start _ _ _).val

pub overflow_add-sum : goal.overflow_add-sum
overflow_add-sum c =
    let h = here (goal.at.overflow_add-sum c).In-Some in
    turn_fits _ _ _ (length c.loop-code.yielded) _ _ _ _ (omega (arith, c.requires)) (omega (arith, h.0, c.requires)) c.type_inv.frame c.loop-code.invariant (c.from.ensures ∙ ap pos h.2) c.if_surveyed-sum.ensures

pub loop-code-preserved : goal.loop-code-preserved
loop-code-preserved c =
    let h = here (goal.at.loop-code-preserved c).In-Some in
    rw (length-append c.loop-code.yielded _)
    (turn _ _ _ (length c.loop-code.yielded) _ _ _ _ (omega (arith, c.requires)) (omega (arith, h.0, c.requires)) c.type_inv.frame c.loop-code.invariant h.1 (c.from.ensures ∙ ap pos h.2) c.if_surveyed-sum.ensures).val

pub returns : goal.returns
unfolding above_black
returns c =
    let n = zip_end c.args.mask.now c.args.frame.now c.loop-code.yielded c.into_iter-code-iterator.result c.loop-code.code-iterator c.next.new.self c.next.result (search rules) (search rules) c.loop-code.yielded_by c.in-None.is c.next.ensures.steps in
    let e : length c.loop-code.yielded ≡ length c.args.mask.now = omega (arith, n, c.requires) in
    rw e at c.loop-code.invariant
