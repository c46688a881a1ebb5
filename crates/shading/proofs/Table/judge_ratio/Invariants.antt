-- `judge_ratio` is right because each turn stores the shade of one block more, beside the centre of the same two planes.
use Prim.Native.Nat.{ℕ, ◌-◌, ◌*◌, ◌≤◌}
use mathlib.Core.Path.{◌≡◌}
use Rattle.laws.proofs.Tables.{Storing}
use Rattle.shading.specs.Judge.{shade_in}
use Rattle.shading.proofs.Table.judge_ratio.Given as goal

abbrev pub invariant-loop-k : goal.invariant-loop-k
invariant-loop-k l = (l.k ≤ l.blocks) × (l.first ≡ l.ratio * l.blocks)
    × Storing (λ (i : ℕ). (shade_in l.self.asked l.self.totals.now l.self.counts.now l.ratio i).numerator) l.initial.numerators l.numerators l.first l.k
    × Storing (λ (i : ℕ). (shade_in l.self.asked l.self.totals.now l.self.counts.now l.ratio i).denominator) l.initial.denominators l.denominators l.first l.k
    × Storing (λ (i : ℕ). (shade_in l.self.asked l.self.totals.now l.self.counts.now l.ratio i).number) l.initial.refusals l.refusals l.first l.k
    × Storing (λ (i : ℕ). (shade_in l.self.asked l.self.totals.now l.self.counts.now l.ratio i).fail) l.initial.fails l.fails l.first l.k

abbrev pub decreases-loop-k : goal.decreases-loop-k
decreases-loop-k l = l.blocks - l.k
