-- `measure` is right because it divides only where 7, 13 and 14 refuse nothing, so that both numbers have a float and the denominator is not 0.
use mathlib.Core.Path.{◌≡◌, sym}
use mir.Syntax.{w64}
use mir.Val.{to_z, of_z}
use borrow.Author.Rules.{rules}
use Rattle.gain.proofs.Walks.{parts_clear}
use Rattle.gain.proofs.measure.Goals as goal

pub slope_of-requires : goal.slope_of-requires
slope_of-requires c =
    let back : to_z w64 (of_z w64 c.args.p.numerator) ≡ c.args.p.numerator = search rules in
    rw back (parts_clear c.args.m c.args.p (sym c.in_ok-judge_parts.ensures))
