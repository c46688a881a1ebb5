use Prim.Native.Nat.{◌+◌, ◌*◌, ◌<◌}
use mathlib.Core.Bool.{Bool, true, false, cond}
use mathlib.Core.Path.{◌≡◌, refl, ap, ◌∙◌}
use mir.Val.{bool_byte}
use native.Mathlib.Omega.{arith}
use lib.Arith.{digits_lt}
use Rattle.laws.proofs.Tables.{storing_more}
use Rattle.blocks.specs.Areas.{blocks_of}
use Rattle.blocks.proofs.Areas.{block_sites, centre_sites}
use Rattle.shading.specs.Judge.{shade_in}
use Rattle.shading.specs.Shade.{Written, written_of}
use Rattle.shading.proofs.Entries.{in_four}
use Rattle.shading.proofs.Table.judge_ratio.Goals as goal
use Rattle.shading.proofs.Table.judge_ratio.Goals.{After-shade_of-told, In-loop-k}

-- a test as a byte
byte : (b : Bool) → bool_byte b ≡ cond b 1 0
byte true = refl
byte false = refl

-- a place of the buffers
place : (c : In-loop-k)
    → c.args.ratio * c.blocks-blocks.result + c.loop-k.k
    < 2 * blocks_of c.args.self.asked.width c.args.self.asked.height
place c = let inside : c.args.ratio * c.blocks-blocks.result + c.loop-k.k < 2 * c.blocks-blocks.result = digits_lt c.requires.0 (omega arith) in
    omega (arith, inside, c.blocks-blocks.ensures.0)

-- the shade that is stored
is : (c : After-shade_of-told)
    → let a = c.args in
    written_of c.shade_of-told.result ≡ shade_in a.self.asked a.self.totals.now a.self.counts.now a.ratio c.loop-k.k
unfolding shade_in
is c = rw (← c.blocks-blocks.ensures.0, ← c.planes_of-of.ensures, ← c.tint_at-block.ensures.value, ← c.tint_at-centre.ensures.value) (ap written_of c.shade_of-told.ensures)

pub tint_at-centre-requires : goal.tint_at-centre-requires
tint_at-centre-requires c = let low = rw (← c.planes_of-of.ensures) at (in_four c.args.self.asked.order c.args.ratio) in
    (low.colour, low.green, omega (arith, c.blocks-blocks.ensures.0))

pub tint_at-block-requires : goal.tint_at-block-requires
tint_at-block-requires c = let low = rw (← c.planes_of-of.ensures) at (in_four c.args.self.asked.order c.args.ratio) in
    (low.colour, low.green, omega (arith, c.blocks-blocks.ensures.0))

pub shade_of-told-requires-clause-block_possible : goal.shade_of-told-requires-clause-block_possible
shade_of-told-requires-clause-block_possible c = let a = c.args in
    let counted = c.blocks-blocks.ensures.0 in
    let of-block = block_sites a.self.asked.width a.self.asked.height c.loop-k.k (omega (arith, counted)) in
    let of-centre = centre_sites a.self.asked.width a.self.asked.height c.blocks-blocks.result (omega (arith, counted)) in
    rw of-block at c.tint_at-block.ensures.possible

pub shade_of-told-requires-clause-centre_possible : goal.shade_of-told-requires-clause-centre_possible
shade_of-told-requires-clause-centre_possible c = let a = c.args in
    let counted = c.blocks-blocks.ensures.0 in
    let of-block = block_sites a.self.asked.width a.self.asked.height c.loop-k.k (omega (arith, counted)) in
    let of-centre = centre_sites a.self.asked.width a.self.asked.height c.blocks-blocks.result (omega (arith, counted)) in
    rw of-centre at c.tint_at-centre.ensures.possible

pub loop-k-preserved : goal.loop-k-preserved
loop-k-preserved c = let long = c.requires in
    let shade = is (goal.at.loop-k-preserved c).After-shade_of-told in (
      omega arith,
      c.loop-k.invariant.1,
      storing_more _ c.loop-k.invariant.2 (omega (arith, place (goal.at.loop-k-preserved c).In-loop-k, c.loop-k.invariant.2.long, long.1)) (rw c.unwrap_or-shade.ensures (ap (λ (s : Written). s.numerator) shade)),
      storing_more _ c.loop-k.invariant.3 (omega (arith, place (goal.at.loop-k-preserved c).In-loop-k, c.loop-k.invariant.3.long, long.2)) (rw c.unwrap_or-shade.ensures (ap (λ (s : Written). s.denominator) shade)),
      storing_more _ c.loop-k.invariant.4 (omega (arith, place (goal.at.loop-k-preserved c).In-loop-k, c.loop-k.invariant.4.long, long.3)) (c.number_of.ensures ∙ ap (λ (s : Written). s.number) shade),
      storing_more _ c.loop-k.invariant.5 (omega (arith, place (goal.at.loop-k-preserved c).In-loop-k, c.loop-k.invariant.5.long, long.4)) (c.from.ensures ∙ byte _ ∙ rw c.unwrap_or-shade.ensures (ap (λ (s : Written). s.fail) shade)),
    )
