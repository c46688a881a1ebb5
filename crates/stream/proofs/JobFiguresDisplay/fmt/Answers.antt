-- `fmt` is right because it writes one line after the other.
use Rattle.std.proofs.Common.{refl}
use Rattle.std.proofs.Output.{has_written_append}
use Rattle.stream.proofs.JobFiguresDisplay.fmt.Goals as goal

pub returns-clause-writes : goal.returns-clause-writes
returns-clause-writes g c = λ plain ok.
    let sites = c.in_ok-write.ensures.writes plain refl in
    let variance = has_written_append _ _ _ _ _ _ sites (c.in_ok-write-2.ensures.writes sites.plain refl) in
    let noise = has_written_append _ _ _ _ _ _ variance (c.in_ok-write-3.ensures.writes variance.plain refl) in
    has_written_append _ _ _ _ _ _ noise (c.write-4.ensures.writes noise.plain ok)
