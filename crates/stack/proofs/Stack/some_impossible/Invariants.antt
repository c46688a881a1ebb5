-- `some_impossible` is right because each turn asks 11 of one site more, by limits that are the same at every site.
use Prim.Native.Nat.{◌≤◌}
use mathlib.Core.Path.{◌≡◌}
use lib.ListN.{length}
use Rattle.stack.specs.State.{stack_of, impossible_in}
use Rattle.stack.proofs.Stack.some_impossible.Given as goal

abbrev pub invariant-loop-i : goal.invariant-loop-i
invariant-loop-i l =
    let s = l.self-inside in
    (l.i ≤ l.i-end) × (l.i-end ≡ length l.mask) × (l.found ≡ impossible_in l.i l.full_scale l.mask (stack_of l.frames s.sums.now s.squares.now s.least.now s.greatest.now))
