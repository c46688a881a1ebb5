-- `unpack_raw10` is right because it writes only where nothing is refused, and then every sample.
use mathlib.Core.Path.{sym}
use Rattle.raw.proofs.Unpacks.{accepted}
use Rattle.raw.proofs.unpack_raw10.Goals as goal

pub fill-requires : goal.fill-requires
fill-requires c = (accepted _ _ _ _ (sym c.in_ok-judge.ensures)).groups
