-- `slope_of` is right because both numbers are cast without loss, and one division of those is their quotient.
use lib.IntN.{nat_abs}
use mir.Facts.{to_z-of_z}
use Rattle.exact.proofs.Quotients.{Ranged}
use Rattle.exact.proofs.Division.{signed_division}
use Rattle.gain.proofs.slope_of.Goals as goal
use Rattle.gain.proofs.slope_of.Goals.{Start}

legal : (c : Start) → Ranged (nat_abs c.args.z) c.args.q
legal c = record { top = c.requires.0; some = c.requires.1; bottom = c.requires.2 }

pub returns : goal.returns
returns c = rw (to_z-of_z c.ranges.z) (signed_division c.args.z c.args.q (legal (goal.at.returns c).Start))
