-- `samples` is right because a frame of which nothing is over has no 6, and else the search over all h rows of w finds the first.
use Prim.Native.Nat.{ℕ}
use mathlib.Core.Path.{sym, ◌∙◌}
use Rattle.laws.proofs.Firsts.{none_counted}
use Rattle.verdict.specs.declared.Refusal.TheVariants.{Over}
use Rattle.window.proofs.Sides.{sides}
use Rattle.refusals.proofs.Searches.{none_found}
use Rattle.refusals.proofs.Ranges.{found_over}
use Rattle.refusals.proofs.samples.Goals as goal

pub returns-then-own-eq0 : goal.returns-then-own-eq0
returns-then-own-eq0 c = none_found (λ (site : ℕ). Over site c.args.over) _ _ (none_counted _ _ (sym c.requires.1 ∙ c.if-own-eq0.true))

pub returns : goal.returns
returns c = found_over _ _ _ _ _ _ _ (c.args.view.now.masked ∙ (sides _ _ c.args.view.now.legal).sites) c.first_over-place.ensures c.requires.1 c.if-own-eq0.false
