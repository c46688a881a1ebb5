-- `above_black` is right because 16 bits times 16 bits fit 32, and a difference of two such numbers fits an i64.
use Prim.Native.Nat.{◌*◌, ◌≤◌}
use native.Mathlib.Omega.{arith}
use Rattle.laws.proofs.Machine.{less_is}
use Rattle.laws.proofs.Cases.{times_le}
use Rattle.colour.specs.Colour.{above_black}
use Rattle.colour.proofs.above_black.Goals as goal

pub returns : goal.returns
unfolding above_black
returns c =
    let a = c.args in
    let dark : a.black_level * a.seen.count ≤ 65535 * 65535 = times_le a.black_level a.seen.count 65535 65535 (omega arith) (omega arith) in
    rw (c.from.ensures, c.from-4.ensures, c.from-2.ensures, c.from-3.ensures) (less_is a.seen.total (a.black_level * a.seen.count) (omega arith) (omega (arith, dark))).val
