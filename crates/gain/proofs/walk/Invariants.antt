-- `walk` is right because each turn adds the next point, as long as none is out of limits.
use mathlib.Core.Bool.{false}
use mathlib.Core.List.{map}
use mathlib.Core.Path.{◌≡◌}
use Rattle.gain.specs.Gain.{curve_of}
use Rattle.gain.specs.Walk.{Room, ConvertsBy, some_out, fit_to}
use Rattle.gain.proofs.walk.Given as goal

abbrev pub invariant-loop-i : goal.invariant-loop-i
invariant-loop-i g l = record {
  room : Room l.i l.s.sums;
  so_far : (point : _) → ConvertsBy g.P.Into.converts point
      → (some_out (curve_of (map point l.points)) l.i ≡ false) × (l.s ≡ fit_to (curve_of (map point l.points)) l.ends.first l.ends.last l.i);
}
