use mathlib.Core.List.{map}
use mathlib.Core.Path.{◌≡◌, subst}
use native.Mathlib.Omega.{arith}
use borrow.Author.Rules.{rules}
use lib.ListN.{length, length-map}
use Rattle.std.specs.Prelude.{Ok, Err}
use Rattle.std.proofs.lemmas.Result.{err_from_is_err_and}
use Rattle.laws.proofs.Firsts.{some_none}
use Rattle.gain.specs.Gain.{curve_of}
use Rattle.gain.specs.Walk.{with_point, fit_to}
use Rattle.gain.specs.declared.Point.{Point}
use Rattle.gain.proofs.Walks.{point_at, fit_more, fit_stops, fit_ends, room_turn}
use Rattle.gain.proofs.walk.Goals as goal

pub loop-i-init : goal.loop-i-init
unfolding fit_to
loop-i-init g c = record {
  room = let h = c.default-s.ensures in record { of_x = omega arith; of_y = omega arith; of_xy = omega arith; of_xx = omega arith };
  so_far = λ point h. (some_none _, search rules);
}

pub loop-i-preserved : goal.loop-i-preserved
loop-i-preserved g c = record {
  room = room_turn _ _ _ _ _ _ _ c.loop-i.invariant.room c.in_ok-s.ensures;
  so_far = λ point h.
      let known = c.loop-i.invariant.so_far point h in
      let here = point_at point c.args.points.now c.loop-i.i c.index-points-i.result c.into.result c.loop-i-test.true c.index-points-i.is (h _ _ c.into.ensures) in
      fit_more (curve_of (map point c.args.points.now)) c.args.ends.first c.args.ends.last c.loop-i.i c.loop-i.s known.0 known.1 c.in_ok-s.s
      (subst (λ (p : Point). Ok c.in_ok-s.s ≡ with_point c.loop-i.s p.mean p.variance c.loop-i.i c.args.ends.first c.args.ends.last) here c.in_ok-s.ensures);
}

pub returns-in_err-s-clause-fit : goal.returns-in_err-s-clause-fit
returns-in_err-s-clause-fit g c = λ point h.
    let known = c.loop-i.invariant.so_far point h in
    let here = point_at point c.args.points.now c.loop-i.i c.index-points-i.result c.into.result c.loop-i-test.true c.index-points-i.is (h _ _ c.into.ensures) in
    let p = err_from_is_err_and c.from_residual.result c.from_residual.ensures.1 in
    rw (p.1, p.2)
    (fit_stops (curve_of (map point c.args.points.now)) c.args.ends.first c.args.ends.last c.loop-i.i c.loop-i.s known.0 known.1 c.in_err-s.field-0.0 (rw length-map c.loop-i-test.true)
    (subst (λ (q : Point). Err c.in_err-s.field-0.0 ≡ with_point c.loop-i.s q.mean q.variance c.loop-i.i c.args.ends.first c.args.ends.last) here c.in_err-s.ensures))

pub returns-clause-fit : goal.returns-clause-fit
returns-clause-fit g c = λ point h.
    let known = c.loop-i.invariant.so_far point h in
    let all : c.loop-i.i ≡ length c.args.points.now = omega arith in
    fit_ends (curve_of (map point c.args.points.now)) c.args.ends.first c.args.ends.last c.loop-i.i c.loop-i.s known.0 known.1 (rw length-map all)
