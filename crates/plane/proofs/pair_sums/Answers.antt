-- `pair_sums` is right because the sites of a row and those right of them are those of two planes, each summed as `box_sums` sums it.
use mathlib.Core.Path.{refl, ap₂}
use native.Mathlib.Omega.{arith}
use Rattle.plane.specs.Plane.{pair}
use Rattle.plane.proofs.Planes.{both_whole, sums_none, sums-told}
use Rattle.plane.proofs.pair_sums.Goals as goal

pub returns-then-walkable-eq0 : goal.returns-then-walkable-eq0
returns-then-walkable-eq0 c = ap₂ pair (sums_none _ _ _ _ _ _ c.walkable.ensures c.if-walkable-eq0.true) (sums_none _ _ _ _ _ _ c.walkable.ensures c.if-walkable-eq0.true)

pub inner_sums-requires : goal.inner_sums-requires
inner_sums-requires c = let whole = both_whole _ _ _ _ c.walkable.ensures c.if-walkable-eq0.false in
    let legal = whole.0.legal in
    record {
      planes = omega arith;
      height_bound = omega (arith, legal.wide.high, legal.high.high);
      mask_len = (whole.0.holds, whole.1.holds);
    }

pub returns : goal.returns
returns c = let s = c.inner_sums.ensures in
    ap₂ pair
    (sums-told _ _ _ _ _ _ _ c.inner-part.ensures s.even c.walkable.ensures c.if-walkable-eq0.false)
    (sums-told _ _ _ _ _ _ _ c.inner-part.ensures (s.odd refl) c.walkable.ensures c.if-walkable-eq0.false)
