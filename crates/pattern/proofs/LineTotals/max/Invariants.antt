-- `max` is right because each turn takes the greater of what it has and the deviation of one line more.
use Prim.Native.Nat.{◌+◌, ◌-◌, ◌<◌, ◌≤◌}
use mathlib.Core.Path.{◌≡◌}
use lib.ListN.{length, drop}
use Rattle.std.specs.Slice.Iter.{windows_size, windows_rest}
use Rattle.laws.specs.Greatest.{greatest_in}
use Rattle.laws.specs.Table.{held}
use Rattle.pattern.specs.Figures.{deviation}
use Rattle.pattern.proofs.LineTotals.max.Given as goal

-- after i lines
abbrev pub invariant-loop-eleven : goal.invariant-loop-eleven
invariant-loop-eleven l =
    let all = l.self.each.now in
    let rest = windows_rest l.eleven-iterator in
    let i = length all - length rest in
    (windows_size l.eleven-iterator ≡ 11) × (10 ≤ length rest) × (length rest ≤ length all) × (rest ≡ drop i all)
    × (i ≡ 0 → l.greatest ≡ 0) × (0 < i → l.greatest ≡ greatest_in 5 (i + 5) (deviation (held all)))
