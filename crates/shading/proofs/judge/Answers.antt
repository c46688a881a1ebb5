-- `judge` is right because 11 is asked only of a table that 1 to 4 and 9 let pass.
use mathlib.Core.Path.{sym}
use Rattle.shading.proofs.Judging.{lent}
use Rattle.shading.proofs.judge.Goals as goal

pub some_impossible-requires : goal.some_impossible-requires
some_impossible-requires c = let l = lent _ _ _ _ (sym c.in_ok-judge_lent.ensures) in
    (l.scale, l.totals_long, l.counts_long)
