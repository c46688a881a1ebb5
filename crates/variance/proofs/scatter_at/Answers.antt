-- `scatter_at` is right because what is seen of the difference is the difference of what is seen.
use Prim.Native.Nat.{ℕ}
use mathlib.Core.Bool.{cond}
use mathlib.Core.Path.{ap, ◌∙◌}
use Rattle.window.specs.View.{surveyed}
use Rattle.variance.proofs.Turns.{scatter_seen}
use Rattle.variance.proofs.scatter_at.Goals as goal

pub returns : goal.returns
returns c = c.if_surveyed.ensures ∙ ap (λ (x : ℕ). cond (surveyed c.args.code) x 0) (rw (c.from.ensures, c.from-2.ensures, c.from-3.ensures, c.from-4.ensures) at c.saturating_sub.ensures) ∙ scatter_seen _ _ _ _
