-- `box_sums` is right because the part of a box that lies inside the plane is all that is seen of it.
use native.Mathlib.Omega.{arith}
use Rattle.plane.proofs.Planes.{both_whole, sums_none, sums-told, sums-low}
use Rattle.plane.proofs.box_sums.Goals as goal

pub returns-then-walkable-eq0-clause-value : goal.returns-then-walkable-eq0-clause-value
returns-then-walkable-eq0-clause-value c = sums_none _ _ _ _ _ _ c.walkable.ensures c.if-walkable-eq0.true

pub inner_sums-requires : goal.inner_sums-requires
inner_sums-requires c = let whole = both_whole _ _ _ _ c.walkable.ensures c.if-walkable-eq0.false in
    let legal = whole.0.legal in
    record {
      planes = omega arith;
      height_bound = omega (arith, legal.wide.high, legal.high.high);
      mask_len = (whole.0.holds, whole.1.holds);
    }

pub returns : goal.returns
returns c = let told = sums-told _ _ _ _ _ _ _ c.inner-part.ensures c.inner_sums.ensures.even c.walkable.ensures c.if-walkable-eq0.false in
    record {
      value = told;
      count_bound = (c.inner_sums.ensures.few, rw told (sums-low _ _ _ _ _ _ (λ i. omega (arith, c.type_inv.frame i))));
    }
