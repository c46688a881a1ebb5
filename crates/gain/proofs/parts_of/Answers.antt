-- `parts_of` is right because no product reaches 2 ^ 56, so both casts and the difference fit, and the size of the other difference is how far its products are apart.
use Prim.Native.Nat.{ℕ, ◌*◌, ◌≤◌}
use native.Mathlib.Omega.{arith}
use Rattle.laws.proofs.Cases.{times_le}
use Rattle.laws.proofs.Machine.{less_is}
use Rattle.laws.proofs.Signeds.{⊖-size}
use Rattle.gain.specs.Walk.{Room}
use Rattle.gain.specs.declared.Sums.{Sums}
use Rattle.gain.proofs.parts_of.Goals as goal

-- the four products
module _ (m : ℕ) (t : Sums) (few : m ≤ 64) (r : Room 64 t) where
  up : m * t.xy ≤ 72040001851883520
  up = times_le m t.xy 64 (17587891077120 * 64) few r.of_xy

  down : t.x * t.y ≤ 72040001851883520
  down = times_le t.x t.y (65520 * 64) (268435456 * 64) r.of_x r.of_y

  squares : m * t.xx ≤ 17583597158400
  squares = times_le m t.xx 64 (4292870400 * 64) few r.of_xx

  square : t.x * t.x ≤ 17583597158400
  square = times_le t.x t.x (65520 * 64) (65520 * 64) r.of_x r.of_x

pub returns : goal.returns
returns c =
    let m = c.args.m in
    let t = c.args.t in
    let up_is : m * t.xy ≤ 72040001851883520 = up m t c.requires.0 c.requires.1 in
    let down_is : t.x * t.y ≤ 72040001851883520 = down m t c.requires.0 c.requires.1 in
    rw (
      (less_is (m * t.xy) (t.x * t.y) (omega (arith, up_is)) (omega (arith, down_is))).val,
      c.abs_diff.ensures,
      ⊖-size (m * t.xx) (t.x * t.x),
    )
