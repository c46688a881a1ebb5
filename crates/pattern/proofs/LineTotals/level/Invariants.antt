-- `level` is right because each turn adds the squared step from one total to the next.
use Prim.Native.Nat.{◌-◌, ◌*◌, ◌≤◌}
use mathlib.Core.Path.{◌≡◌}
use lib.ListN.{length, drop}
use Rattle.std.specs.Slice.Iter.{windows_size, windows_rest}
use Rattle.laws.specs.Sum.{sum_to}
use Rattle.laws.specs.Table.{held}
use Rattle.pattern.specs.Figures.{step_of}
use Rattle.pattern.proofs.LineTotals.level.Given as goal

-- after i pairs
abbrev pub invariant-loop-pair : goal.invariant-loop-pair
invariant-loop-pair l =
    let all = l.self.each.now in
    let rest = windows_rest l.pair-iterator in
    let i = length all - length rest in
    (windows_size l.pair-iterator ≡ windows_size l.initial.pair-iterator) × (1 ≤ length rest) × (length rest ≤ length all) × (rest ≡ drop i all)
    × (l.sum ≡ sum_to i (step_of (held all))) × (l.sum ≤ i * 2747437056000000)
