-- `ratio` is right because it divides only numbers that were cast without loss, and one division of those is their quotient.
use mathlib.Core.Path.{sym, ◌∙◌}
use native.Mathlib.Nat.{pos_of_ne-zero}
use native.Mathlib.Omega.{arith}
use Rattle.exact.proofs.Quotients.{Ranged, ranged-quotient}
use Rattle.exact.proofs.Division.{division}
use Rattle.exact.proofs.ratio.Goals as goal

pub returns : goal.returns
returns c = let ranged : Ranged c.args.p c.args.q = record { top = omega arith; some = pos_of_ne-zero c.if-q-eq0.false; bottom = omega arith } in
    division _ _ ranged ∙ sym (ranged-quotient _ _ ranged)
