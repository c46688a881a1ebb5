-- `mark` is right because each turn stores the mark of one more line, by what all lines were found to count and sum.
use Rattle.laws.proofs.Tables.{Filling}
use Rattle.window.specs.View.{seen, one}
use Rattle.lines.specs.Lines.{mark_at}
use Rattle.lines.specs.Walk.{laid}
use Rattle.lines.proofs.mark.Given as goal

abbrev pub invariant-loop-i : goal.invariant-loop-i
invariant-loop-i l = Filling (mark_at (laid l.fn.layout) l.fn.layout.width l.fn.layout.height (one l.mask) (seen l.mask l.frame)) l.initial.marks l.marks l.i
