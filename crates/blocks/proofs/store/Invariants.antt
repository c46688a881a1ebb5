-- `store` is right because each turn writes the entry of one plane more.
use Prim.Native.Nat.{◌*◌, ◌≤◌}
use mathlib.Core.Path.{◌≡◌}
use lib.ListN.{length}
use Rattle.blocks.specs.Walk.{stores}
use Rattle.blocks.proofs.store.Given as goal

abbrev pub invariant-loop-plane : goal.invariant-loop-plane
invariant-loop-plane l = (l.plane ≤ 4) × (length l.entries ≡ 4 * l.areas) × (l.entries ≡ stores l.initial.entries l.areas l.k l.of_planes l.plane)
