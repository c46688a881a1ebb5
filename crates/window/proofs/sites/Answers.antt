-- `sites` is right because the product is formed of legal sides alone, where it is at most 128 × 128.
use mathlib.Core.Path.{sym, ◌∙◌}
use native.Mathlib.Omega.{arith}
use borrow.Author.Rules.{rules}
use Rattle.window.proofs.Sides.{Sides, sides, no_sites}
use Rattle.window.proofs.sites.Goals as goal
use Rattle.window.proofs.sites.Goals.{Else-bad_sides}

-- where the sides were not refused
legal : (c : Else-bad_sides) → Sides c.args.width c.args.height
legal c = sides _ _ (sym c.bad_sides.ensures ∙ c.if-bad_sides.false)

pub returns-then-bad_sides : goal.returns-then-bad_sides
returns-then-bad_sides c = (sym (no_sites _ _ (sym c.bad_sides.ensures ∙ c.if-bad_sides.true)), search rules)

pub overflow_mul-result : goal.overflow_mul-result
overflow_mul-result c = omega (arith, (legal (goal.at.overflow_mul-result c).Else-bad_sides).few)

pub returns : goal.returns
returns c = (sym (legal (goal.at.returns c).Else-bad_sides).sites, (legal (goal.at.returns c).Else-bad_sides).few)
