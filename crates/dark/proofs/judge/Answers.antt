-- `judge` is right because it asks the definition's tests in its order, and counts the surveyed sites of a whole mask.
use mathlib.Core.Path.{refl, ◌∙◌}
use Rattle.verdict.proofs.Verdicts.{moved_on}
use Rattle.refusals.proofs.Judges.{frame_of}
use Rattle.dark.proofs.Levels.{judged}
use Rattle.dark.proofs.judge.Goals as goal

pub returns : goal.returns
returns c = c.refuse_if.ensures ∙ moved_on _ (frame_of _ _ _ _ _ c.in_ok-judge_frame.ensures c.refuse_if-black.ensures refl) ∙ judged _ _ _ _ _ _ _ c.requires
