-- `add_pair` is right because each turn adds what is seen at one more site of the pair.
use Prim.Native.Nat.{ℕ, ◌+◌, ◌*◌, ◌<◌, ◌≤◌}
use mathlib.Core.Path.{◌≡◌}
use Rattle.laws.proofs.Tables.{Filling}
use Rattle.window.specs.View.{one, seen}
use Rattle.sites.specs.Walk.{down_to}
use Rattle.sites.proofs.ColumnTotals.add_pair.Given as goal

abbrev pub invariant-loop-k : goal.invariant-loop-k
invariant-loop-k l = (l.self.pairs ≡ l.initial.self.pairs)
    × Filling (down_to l.view.width (one l.view.mask.now) (l.initial.self.pairs + 1)) l.initial.self.counts l.self.counts l.k
    × Filling (down_to l.view.width (seen l.view.mask.now l.view.frame.now) (l.initial.self.pairs + 1)) l.initial.self.totals l.self.totals l.k
    × ((j : ℕ) → j < l.k → down_to l.view.width (seen l.view.mask.now l.view.frame.now) (l.initial.self.pairs + 1) j ≤ (l.initial.self.pairs + 1) * 65535)
