-- `stack_add` is right because it adds only where nothing is refused, and there every sum has room.
use mathlib.Core.Path.{sym, ◌∙◌}
use native.Mathlib.Omega.{arith}
use Rattle.std.proofs.Common.{rules}
use Rattle.stack.specs.State.{Stack, stack_of}
use Rattle.adding.proofs.Adds.{Accepted, accepted, sum_room, square_room}
use Rattle.adding.proofs.stack_add.Goals as goal
use Rattle.adding.proofs.stack_add.Goals.{In_ok-judge_add, After-from_residual}

abbrev Lent : In_ok-judge_add → Stack
Lent c = stack_of c.args.frames c.args.sums.now c.args.squares.now c.args.least.now c.args.greatest.now

known : (c : In_ok-judge_add)
    → Accepted c.args.width c.args.height c.args.full_scale c.args.mask.now c.args.frame.now (Lent c)
known c = accepted _ _ _ _ _ _ (sym c.in_ok-judge_add.ensures)

pub add_seen-requires : goal.add_seen-requires
add_seen-requires c = let a = known (goal.at.add_seen-requires c).In_ok-judge_add in (
  a.lent.framed ∙ sym a.lent.of.masked,
  a.long.of_sums ∙ sym a.lent.of.masked,
  a.long.of_squares ∙ sym a.lent.of.masked,
  λ i l. sum_room _ _ _ _ _ _ a i l (search rules),
  λ i l. square_room _ _ _ _ _ _ a i l (search rules),
)

pub widen-requires : goal.widen-requires
widen-requires c = let a = known (goal.at.widen-requires c).In_ok-judge_add in
    (a.lent.framed ∙ sym a.lent.of.masked, a.long.of_least ∙ sym a.lent.of.masked, a.long.of_greatest ∙ sym a.lent.of.masked)

pub overflow_add-result : goal.overflow_add-result
overflow_add-result c = omega (arith, (known (goal.at.overflow_add-result c).In_ok-judge_add).room)
