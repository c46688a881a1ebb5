-- `judged_shade` is right because both products and their difference stay far inside an i64.
use Prim.Native.Nat.{◌*◌}
use Rattle.shading.proofs.Shades.{Small}
use Rattle.shading.proofs.Machine.{offset_fits, numerator-low, denominator-low, shade_is}
use Rattle.shading.proofs.judged_shade.Goals as goal
use Rattle.shading.proofs.judged_shade.Goals.{Start}

of-block : (c : Start) → Small (4095 * 192 * 192) c.args.block
of-block c = record { up = c.requires.1; down = c.requires.2 }

of-centre : (c : Start) → Small (4095 * 768 * 768) c.args.centre
of-centre c = record { up = c.requires.3; down = c.requires.4 }

pub overflow_sub-offset : goal.overflow_sub-offset
overflow_sub-offset c = offset_fits (of-block (goal.at.overflow_sub-offset c).Start) (of-centre (goal.at.overflow_sub-offset c).Start)

pub fails-requires : goal.fails-requires
fails-requires c = (c.requires.0, numerator-low (of-block (goal.at.fails-requires c).Start) (of-centre (goal.at.fails-requires c).Start) c.unsigned_abs-numerator.ensures.value c.unsigned_abs-denominator.ensures.value, denominator-low (of-block (goal.at.fails-requires c).Start) (of-centre (goal.at.fails-requires c).Start) c.unsigned_abs-numerator.ensures.value c.unsigned_abs-denominator.ensures.value)

pub returns : goal.returns
returns c = shade_is (of-block (goal.at.returns c).Start) (of-centre (goal.at.returns c).Start) c.unsigned_abs-numerator.ensures.value c.unsigned_abs-denominator.ensures.value _ _ c.fails.ensures
