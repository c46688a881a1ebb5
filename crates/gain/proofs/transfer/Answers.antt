-- `transfer` is right because 3 leaves at most 64 points, the chosen ones among them, and the walk adds just those.
use Prim.Native.Nat.{ℕ, ◌+◌, ◌-◌}
use mathlib.Core.Bool.{false}
use mathlib.Core.List.{map}
use mathlib.Core.Path.{◌≡◌, sym, ap, ◌∙◌}
use native.Mathlib.Omega.{arith}
use lib.ListN.{length, length-map}
use Rattle.std.proofs.lemmas.Result.{err_from_is_err_and}
use Rattle.verdict.proofs.Verdicts.{unless}
use Rattle.gain.specs.Gain.{curve_of, bad_length, bad_ends}
use Rattle.gain.specs.Walk.{parts_of, measured_of}
use Rattle.gain.specs.declared.Parts.{Parts}
use Rattle.gain.proofs.Walks.{Reached, reached, walk_stops, walk_ends}
use Rattle.gain.proofs.transfer.Goals as goal
use Rattle.gain.proofs.transfer.Goals.{In_ok-refuse_if-2}

-- past 3, of the list's length and of the ends, which is asked of as many points as there are elements
module _ (g : _) (c : In_ok-refuse_if-2 g) where
  long : bad_length (length c.args.points.now) ≡ false
  long = sym c.bad_length.ensures ∙ unless _ _ (sym c.in_ok-refuse_if.ensures)

  ends : bad_ends (length c.args.points.now) c.args.first c.args.last ≡ false
  ends = sym c.bad_ends.ensures ∙ unless _ _ (sym c.in_ok-refuse_if-2.ensures)

  past : Reached (length c.args.points.now) c.args.first c.args.last
  past = reached _ _ _ long ends

pub walk-requires : goal.walk-requires
walk-requires g c = (past g (goal.at.walk-requires g c).In_ok-refuse_if-2).few

pub invariant_of-walk : goal.invariant_of-walk
invariant_of-walk g c = record { forward = (past g (goal.at.invariant_of-walk g c).In_ok-refuse_if-2).forward }

pub returns-in_err-s : goal.returns-in_err-s
returns-in_err-s g c = λ point h.
    let a = c.args in
    let here = (goal.at.returns-in_err-s g c).In_ok-refuse_if-2 in
    let p = err_from_is_err_and c.from_residual-in_err-s.result c.from_residual-in_err-s.ensures.1 in
    rw (p.1, p.2)
    (walk_stops (curve_of (map point a.points.now)) a.first a.last c.in_err-s.field-0.0
    (rw length-map (long g here)) (rw length-map (ends g here))
    (c.in_err-s.ensures.fit point h))

pub overflow_sub-m : goal.overflow_sub-m
overflow_sub-m g c = (past g (goal.at.overflow_sub-m g c).In_ok-refuse_if-2).forward

pub overflow_add-m : goal.overflow_add-m
overflow_add-m g c = let p = past g (goal.at.overflow_add-m g c).In_ok-refuse_if-2 in omega (arith, p.inside, p.few)

pub parts_of-requires : goal.parts_of-requires
parts_of-requires g c =
    let p = past g (goal.at.parts_of-requires g c).In_ok-refuse_if-2 in
    (omega (arith, p.inside, p.few), c.in_ok-s.ensures.room)

pub returns : goal.returns
returns g c = λ point h.
    let a = c.args in
    let here = (goal.at.returns g c).In_ok-refuse_if-2 in
    let p = past g here in
    let counted : a.last - a.first + 1 ≡ a.last + 1 - a.first = omega (arith, p.forward) in
    c.measure.ensures
    ∙ ap (λ (q : Parts). measured_of (a.last - a.first + 1) q c.in_ok-s.s.peak.place) c.parts_of.ensures
    ∙ ap (λ (m : ℕ). measured_of m (parts_of m c.in_ok-s.s.sums) c.in_ok-s.s.peak.place) counted
    ∙ walk_ends (curve_of (map point a.points.now)) a.first a.last c.in_ok-s.s
    (rw length-map (long g here)) (rw length-map (ends g here))
    (c.in_ok-s.ensures.fit point h)
