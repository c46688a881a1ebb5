-- `deviation_of` is right because the five totals on either side of the middle one are the ten of the definition, and no sum of five outgrows its bound.
use Prim.Native.Nat.{ℕ, ◌+◌, ◌-◌, ◌≤◌}
use mathlib.Core.Path.{◌≡◌, ap, ◌∙◌}
use native.Mathlib.Omega.{arith}
use lib.ListN.{length, take, drop}
use Rattle.std.specs.List.{sum}
use Rattle.std.proofs.lemmas.Iterator.{YieldsList-from_slice}
use Rattle.std.proofs.lemmas.Iterator.Consumers.{sum_from_yields_List, fits_from_yields_list}
use Rattle.laws.specs.Sum.{sum_in}
use Rattle.laws.specs.Table.{held}
use Rattle.pattern.proofs.Figuring.{deviation_is}
use Rattle.pattern.proofs.Elevens.{sum_run, sum_run-le}
use Rattle.pattern.proofs.deviation_of.Goals as goal
use Rattle.pattern.proofs.deviation_of.Goals.{Start, After-sum-before, After-sum-after}

-- the five before the middle one, and the five after it
low : (s : Start) → sum (take 5 s.args.eleven.now) ≤ 262080000
low s = omega (arith, sum_run-le s.args.eleven.now 0 5 (omega arith) s.requires.1)

high : (s : Start) → sum (take (length s.args.eleven.now - 6) (drop 6 s.args.eleven.now)) ≤ 262080000
high s = omega (arith, sum_run-le s.args.eleven.now 6 (length s.args.eleven.now - 6) (omega arith) s.requires.1)

before : (c : After-sum-before) → c.sum-before.result ≡ sum (take 5 c.args.eleven.now)
before c = sum_from_yields_List c.iter.result _ c.sum-before.ensures.ran (YieldsList-from_slice _ c.iter.ensures.rest)

after : (c : After-sum-after) → c.sum-after.result ≡ sum (take (length c.args.eleven.now - 6) (drop 6 c.args.eleven.now))
after c = sum_from_yields_List c.iter-2.result _ c.sum-after.ensures.ran (YieldsList-from_slice _ c.iter-2.ensures.rest)

pub sum-before-requires-clause-fits : goal.sum-before-requires-clause-fits
sum-before-requires-clause-fits c =
    fits_from_yields_list c.iter.result _ (YieldsList-from_slice _ c.iter.ensures.rest) (omega (arith, low (goal.at.sum-before-requires-clause-fits c).Start))

pub sum-after-requires-clause-fits : goal.sum-after-requires-clause-fits
sum-after-requires-clause-fits c =
    fits_from_yields_list c.iter-2.result _ (YieldsList-from_slice _ c.iter-2.ensures.rest) (omega (arith, high (goal.at.sum-after-requires-clause-fits c).Start))

pub overflow_add-before : goal.overflow_add-before
overflow_add-before c =
    let at = goal.at.overflow_add-before c in
    omega (arith, before at.After-sum-before, after at.After-sum-after, low at.Start, high at.Start)

pub stands_out-requires : goal.stands_out-requires
stands_out-requires c =
    let at = goal.at.stands_out-requires c in
    (omega (arith, c.requires.1 5 (omega arith)), omega (arith, before at.After-sum-before, after at.After-sum-after, low at.Start, high at.Start))

pub returns : goal.returns
returns c =
    let at = goal.at.returns c in
    let all = c.args.eleven.now in
    c.stands_out.ensures
    ∙ deviation_is (held all) 5 _ _ (omega arith)
    (before at.After-sum-before ∙ sum_run all 0 5 (omega arith))
    (after at.After-sum-after ∙ sum_run all 6 (length all - 6) (omega arith) ∙ ap (λ (n : ℕ). sum_in 6 (6 + (n - 6)) (held all)) c.requires.0)
