-- `add_seen` is right because each turn adds to one sum and to one sum of squares what is seen at their site, and every sum has room.
use Prim.Native.Nat.{ℕ, ◌+◌, ◌≤◌}
use lib.ListN.{length, get_or}
use Rattle.laws.proofs.Tables.{Filling}
use Rattle.window.specs.View.{seen}
use Rattle.adding.specs.After.{squared}
use Rattle.adding.proofs.add_seen.Given as goal

abbrev pub invariant-loop-i : goal.invariant-loop-i
invariant-loop-i l = (l.i ≤ length l.mask)
    × Filling (λ (k : ℕ). get_or l.initial.sums k 0 + seen l.mask l.frame k) l.initial.sums l.sums l.i
    × Filling (λ (k : ℕ). get_or l.initial.squares k 0 + squared (seen l.mask l.frame) k) l.initial.squares l.squares l.i
