-- `over` is right because T has at most 32 bits and a sign, and a count 16, so T × c stays far inside an i64.
use native.Mathlib.Omega.{arith}
use Rattle.colour.proofs.Totals.{product_fits, product_is, ratio_is}
use Rattle.colour.proofs.over.Goals as goal

pub overflow_mul-numerator : goal.overflow_mul-numerator
overflow_mul-numerator c = let a = c.args in
    rw c.from.ensures (product_fits a.black_level a.colour a.green.count _ c.above_black.ensures (omega arith) (omega arith) (omega arith) (omega arith))

pub overflow_mul-denominator : goal.overflow_mul-denominator
overflow_mul-denominator c = let a = c.args in
    rw c.from-2.ensures (product_fits a.black_level a.green a.colour.count _ c.above_black-2.ensures (omega arith) (omega arith) (omega arith) (omega arith))

pub returns : goal.returns
returns c = let a = c.args in
    rw c.from.ensures (ratio_is a.black_level a.colour a.green _ _
    (product_is a.black_level a.colour a.green.count _ c.above_black.ensures (omega arith) (omega arith) (omega arith) (omega arith))
    (product_is a.black_level a.green a.colour.count _ c.above_black-2.ensures (omega arith) (omega arith) (omega arith) (omega arith))
    _ (rw c.from-2.ensures at c.unsigned_abs.ensures.value))
