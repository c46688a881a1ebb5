-- `root_of` is right because every step of Newton's stays at the root or above it and goes down, until x / r is no longer below r: there r² ≤ x.
use Rattle.exact.proofs.Newton.{Stage}
use Rattle.exact.proofs.root_of.Given as goal

abbrev pub invariant-loop-q : goal.invariant-loop-q
invariant-loop-q l = Stage l.x l.r l.q

abbrev pub decreases-loop-q : goal.decreases-loop-q
decreases-loop-q l = l.r
