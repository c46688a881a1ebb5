-- `defective_by` is right because it writes only where nothing is refused, and then every mark.
use mathlib.Core.Path.{sym}
use Rattle.lines.proofs.Marking.{ready}
use Rattle.lines.proofs.defective_by.Goals as goal

pub mark-requires : goal.mark-requires
mark-requires c = ready c.args.layout.lines _ _ _ _ _ _ _ (sym c.in_ok-judge.ensures) c.count.ensures
