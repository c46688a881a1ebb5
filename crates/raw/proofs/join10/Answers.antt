-- `join10` is right because shifting and masking are `joined` at two lower bits.
use native.Mathlib.Omega.{arith}
use Rattle.raw.proofs.Samples.{joins}
use Rattle.raw.proofs.join10.Goals as goal

pub returns : goal.returns
returns c = rw (c.from.ensures, c.from-2.ensures) (joins 2 16 c.args.upper c.args.last c.args.j c.ranges.upper.fits (omega arith))
