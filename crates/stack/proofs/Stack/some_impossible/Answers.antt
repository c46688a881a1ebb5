use Prim.Native.Nat.{ℕ, ◌*◌, ◌%◌, ◌≤◌}
use mathlib.Core.Path.{◌≡◌, refl, ◌∙◌}
use native.Mathlib.Omega.{arith}
use lib.ListN.{length}
use Rattle.laws.proofs.Cases.{times_le}
use Rattle.stack.proofs.Sites.{Readable, readable_is}
use Rattle.stack.proofs.Turns.{at_least_one, asked_none, asked_more}
use Rattle.stack.proofs.Stack.some_impossible.Goals as goal
use Rattle.stack.proofs.Stack.some_impossible.Goals.{After-max-k_or_one}

-- what is asked, of the parts of the stack
lent : (c : After-max-k_or_one) → let s = c.self.inside in
    Readable (length c.args.mask.now) c.args.full_scale (length s.sums.now) (length s.squares.now) (length s.least.now) (length s.greatest.now)
lent c = readable_is _ _ _ _ _ _ (rw (← c.self.view_is) at c.requires)

scale-squared : (c : After-max-k_or_one) → c.args.full_scale * c.args.full_scale ≤ 4095 * 4095
scale-squared c = times_le c.args.full_scale c.args.full_scale 4095 4095 (lent c).scale (lent c).scale

squares-fit : (c : After-max-k_or_one) {frames : ℕ} → frames ≡ c.self.inside.frames % 128 → frames * (c.args.full_scale * c.args.full_scale) ≤ 127 * (4095 * 4095)
squares-fit c {frames} e = times_le frames (c.args.full_scale * c.args.full_scale) 127 (4095 * 4095) (omega arith) (scale-squared c)

pub overflow_mul-most_squares : goal.overflow_mul-most_squares
overflow_mul-most_squares c = omega (arith, scale-squared (goal.at.overflow_mul-most_squares c).After-max-k_or_one)

pub overflow_mul-most_squares-2 : goal.overflow_mul-most_squares-2
overflow_mul-most_squares-2 c = omega (arith, squares-fit (goal.at.overflow_mul-most_squares-2 c).After-max-k_or_one c.from.ensures)

pub overflow_cast-most_squares : goal.overflow_cast-most_squares
overflow_cast-most_squares c = omega (arith, squares-fit (goal.at.overflow_cast-most_squares c).After-max-k_or_one c.from.ensures)

pub top-most-requires : goal.top-most-requires
top-most-requires c = (lent (goal.at.top-most-requires c).After-max-k_or_one).scale

pub loop-i-init : goal.loop-i-init
loop-i-init c = (omega arith, refl, asked_none _ _ _)

pub offset_bounds-self-inside-i : goal.offset_bounds-self-inside-i
offset_bounds-self-inside-i c = omega (arith, (lent (goal.at.offset_bounds-self-inside-i c).After-max-k_or_one).sums-long)

pub bounds-self-inside-i : goal.bounds-self-inside-i
bounds-self-inside-i c = omega (arith, (lent (goal.at.bounds-self-inside-i c).After-max-k_or_one).sums-long)

pub offset_bounds-self-inside-i-in-loop-i : goal.offset_bounds-self-inside-i-in-loop-i
offset_bounds-self-inside-i-in-loop-i c = omega (arith, (lent (goal.at.offset_bounds-self-inside-i-in-loop-i c).After-max-k_or_one).squares-long)

pub bounds-self-inside-i-in-loop-i : goal.bounds-self-inside-i-in-loop-i
bounds-self-inside-i-in-loop-i c = omega (arith, (lent (goal.at.bounds-self-inside-i-in-loop-i c).After-max-k_or_one).squares-long)

pub bounds-self-inside-i-in-loop-i-2 : goal.bounds-self-inside-i-in-loop-i-2
bounds-self-inside-i-in-loop-i-2 c = omega (arith, (lent (goal.at.bounds-self-inside-i-in-loop-i-2 c).After-max-k_or_one).least-long)

pub bounds-self-inside-i-in-loop-i-3 : goal.bounds-self-inside-i-in-loop-i-3
bounds-self-inside-i-in-loop-i-3 c = omega (arith, (lent (goal.at.bounds-self-inside-i-in-loop-i-3 c).After-max-k_or_one).greatest-long)

pub loop-i-preserved : goal.loop-i-preserved
loop-i-preserved c = (omega arith, refl, asked_more _ _ _ _ _ _ _ _ (c.max-k_or_one.ensures ∙ at_least_one _) c.top-most.ensures c.loop-i.invariant.2 (rw c.from.ensures at c.beyond-bad.ensures))
