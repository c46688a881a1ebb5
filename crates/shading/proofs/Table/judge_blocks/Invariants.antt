-- `judge_blocks` is right because each turn stores the half of one ratio more.
use Prim.Native.Nat.{◌≤◌}
use Rattle.shading.specs.Shade.{Written}
use Rattle.shading.proofs.Walks.{Filled}
use Rattle.shading.proofs.Table.judge_blocks.Given as goal

abbrev pub invariant-loop-ratio : goal.invariant-loop-ratio
invariant-loop-ratio l = (l.ratio ≤ 2)
    × Filled (λ (s : Written). s.numerator) l.self.asked l.self.totals.now l.self.counts.now l.initial.numerators l.numerators l.ratio
    × Filled (λ (s : Written). s.denominator) l.self.asked l.self.totals.now l.self.counts.now l.initial.denominators l.denominators l.ratio
    × Filled (λ (s : Written). s.number) l.self.asked l.self.totals.now l.self.counts.now l.initial.refusals l.refusals l.ratio
    × Filled (λ (s : Written). s.fail) l.self.asked l.self.totals.now l.self.counts.now l.initial.fails l.fails l.ratio
