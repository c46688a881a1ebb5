-- `shade_of` is right because what it divides is small.
use Rattle.shading.proofs.Shades.{small}
use Rattle.shading.proofs.shade_of.Goals as goal

pub judged_shade-requires : goal.judged_shade-requires
judged_shade-requires c = let of-block = rw (← c.over-of_block.ensures) at (small _ 192 c.args.block c.requires.black_bound.0 c.requires.block_possible) in
    let of-centre = rw (← c.over-of_centre.ensures) at (small _ 768 c.args.centre c.requires.black_bound.0 c.requires.centre_possible) in
    (c.requires.black_bound.1, of-block.up, of-block.down, of-centre.up, of-centre.down)
