-- `stands_out` is right because two numbers below 2 ^ 63 are cast without loss, and the size of their difference is how far they are apart.
use mathlib.Core.Path.{ap, ◌∙◌}
use native.Mathlib.Omega.{arith}
use lib.IntN.{nat_abs}
use Rattle.laws.proofs.Machine.{less_is}
use Rattle.laws.proofs.Signeds.{⊖-size}
use Rattle.pattern.specs.Figures.{stands_out}
use Rattle.pattern.proofs.stands_out.Goals as goal

pub returns : goal.returns
unfolding stands_out
returns c =
    c.size.ensures
    ∙ ap nat_abs (less_is c.args.tenfold c.args.around (omega arith) (omega arith)).val
    ∙ ⊖-size c.args.tenfold c.args.around
