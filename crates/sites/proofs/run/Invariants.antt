-- `run` is right because each turn adds what stands at one more column to the total of its parity so far, two places before.
use Prim.Native.Nat.{ℕ, ◌+◌}
use Rattle.laws.proofs.Tables.{Storing}
use Rattle.sites.specs.Walk.{strip, along_to}
use Rattle.sites.proofs.run.Given as goal

abbrev pub invariant-loop-x : goal.invariant-loop-x
invariant-loop-x l = Storing (λ (j : ℕ). along_to (strip l.above l.below l.start) (2 + j)) l.initial.along l.along 2 l.x
