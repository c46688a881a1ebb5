-- `widen` is right because each turn makes a least and a greatest sample anew, from what is seen at their site.
use Prim.Native.Nat.{ℕ, ◌≤◌}
use lib.ListN.{length, get_or}
use Rattle.laws.specs.Greatest.{lesser, greater}
use Rattle.laws.proofs.Tables.{Filling}
use Rattle.window.specs.View.{seen}
use Rattle.adding.specs.After.{extreme_at}
use Rattle.adding.proofs.widen.Given as goal

abbrev pub invariant-loop-i : goal.invariant-loop-i
invariant-loop-i l = (l.i ≤ length l.mask)
    × Filling (λ (j : ℕ). extreme_at lesser l.frames (get_or l.mask j 0) (get_or l.initial.least j 0) (seen l.mask l.frame j)) l.initial.least l.least l.i
    × Filling (λ (j : ℕ). extreme_at greater l.frames (get_or l.mask j 0) (get_or l.initial.greatest j 0) (seen l.mask l.frame j)) l.initial.greatest l.greatest l.i
