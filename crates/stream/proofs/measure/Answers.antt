-- `measure` is right because the library is asked of the frames that its bodies hold, and stops at the first refusal.
use mathlib.Core.Path.{sym}
use Rattle.stream.proofs.Answers.{pair_few_told}
use Rattle.stream.proofs.measure.Goals as goal

pub printed-requires : goal.printed-requires
printed-requires c = pair_few_told _ _ _ _ _ _ _ (sym c.in_ok-pair.ensures.answer)
