-- `stack_variance` is right because what it walks is the numerator wherever nothing is refused, and it divides only there, where both numbers have exact floats.
use Prim.Native.Nat.{◌*◌, ◌≤◌}
use mathlib.Core.Path.{◌≡◌, sym, ap}
use native.Mathlib.Omega.{arith}
use Rattle.std.specs.Prelude.{Ok}
use Rattle.verdict.specs.Verdict.{clear}
use Rattle.stack.specs.State.{Stack, stack_of}
use Rattle.variance.specs.declared.Variance.{Variance}
use Rattle.variance.specs.Variance.{variance_verdict, variance_figures, variance_answer, variance_paper}
use Rattle.variance.proofs.Variances.{told, walkable, products_fit, accepted_is}
use Rattle.variance.proofs.stack_variance.Goals as goal
use Rattle.variance.proofs.stack_variance.Goals.{In_ok-judge_variance, After-ratio}

-- the stack by its parts
abbrev Lent : In_ok-judge_variance → Stack
Lent c = let s = c.stack.inside in stack_of s.frames s.sums.now s.squares.now s.least.now s.greatest.now

passed : (c : In_ok-judge_variance)
    → variance_verdict c.args.width c.args.height c.args.full_scale c.args.mask.now (Lent c) ≡ clear
passed c = rw c.stack.view_is (sym c.in_ok-judge_variance.ensures)

-- both products of the denominator
fits : (c : In_ok-judge_variance) → let k = c.stack.inside.frames in (k * k ≤ 10000) × (c.surveyed-count.result * (k * k) ≤ 16384 * 10000)
fits c = products_fit _ _ _ _ _ (passed c) _ c.surveyed-count.ensures

pub overflow_mul-lower : goal.overflow_mul-lower
overflow_mul-lower c = omega (arith, fits (goal.at.overflow_mul-lower c).In_ok-judge_variance)

pub overflow_mul-lower-2 : goal.overflow_mul-lower-2
overflow_mul-lower-2 c = omega (arith, fits (goal.at.overflow_mul-lower-2 c).In_ok-judge_variance)

-- the figures that are answered
answered : (c : After-ratio) → let k = c.stack.inside.frames in
    told c.numerator-upper.result (c.surveyed-count.result * (k * k)) c.ratio.result
    ≡ variance_figures c.args.width c.args.height c.args.mask.now (Lent (goal.at.After-ratio c).In_ok-judge_variance)
answered c =
    let p = passed (goal.at.After-ratio c).In_ok-judge_variance in
    let walk = walkable _ _ _ _ _ p in
    accepted_is _ _ _ _ _ p _ c.surveyed-count.ensures _ _ (c.numerator-upper.ensures walk.0 walk.1 walk.2 walk.3) c.ratio.ensures

pub returns-clause-answer : goal.returns-clause-answer
unfolding variance_answer
returns-clause-answer c = rw (← c.stack.view_is, passed (goal.at.returns-clause-answer c).In_ok-judge_variance) (ap Ok (answered c))

pub returns-clause-paper : goal.returns-clause-paper
unfolding variance_paper
returns-clause-paper c =
    rw (← c.stack.view_is, passed (goal.at.returns-clause-paper c).In_ok-judge_variance) (ap (λ (f : Variance). record { number = 0; place = 0; figures = f }) (answered c))
