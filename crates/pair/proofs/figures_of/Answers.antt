-- `figures_of` is right because n is from 2 to 16,384 and P below 2 ^ 53: no product overflows, no cast loses a bit, and each division, by a number above 0, is rounded once.
use Rattle.pair.proofs.Answers.{figures_are}
use Rattle.pair.proofs.figures_of.Goals as goal
use Rattle.pair.proofs.figures_of.Goals.{Start}

pub returns : goal.returns
returns c = figures_are _ c.requires _ _ _ c.root_of-r.ensures c.ratio-variance.ensures c.ratio-noise.ensures
