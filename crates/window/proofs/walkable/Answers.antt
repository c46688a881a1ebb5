-- `walkable` is right because it compares the length with the window's sites, as the definition does.
use mathlib.Core.Path.{sym, ◌∙◌}
use Rattle.window.proofs.Walks.{walked_whole, walked_none}
use Rattle.window.proofs.walkable.Goals as goal

pub returns-then-long-n : goal.returns-then-long-n
returns-then-long-n c = c.sites-n.ensures.0 ∙ sym (walked_whole _ _ _ (c.if-long-n.true ∙ c.sites-n.ensures.0))

pub returns-else-long-n : goal.returns-else-long-n
returns-else-long-n c = sym (walked_none _ _ _ (λ e. c.if-long-n.false (e ∙ sym c.sites-n.ensures.0)))
