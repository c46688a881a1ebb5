-- `refuse_impossible` is right because it heeds what it finds only of a stack of at most 100 frames that can be walked, and there the rest by 128 is the count.
use mathlib.Core.Path.{sym, ap, ◌∙◌}
use Rattle.verdict.specs.Verdict.{refuse_if}
use Rattle.verdict.specs.declared.Refusal.TheVariants.{Impossible}
use Rattle.stack.proofs.Turns.{asked-all, not_asked}
use Rattle.stack.proofs.refuse_impossible.Goals as goal

pub returns-then-readable : goal.returns-then-readable
returns-then-readable c =
    let back = c.stack.view_is in
    rw (← back)
    (c.refuse_if.ensures
    ∙ ap (refuse_if Impossible) (asked-all _ _ _ _ (rw (← back) at (sym c.readable.ensures ∙ c.if-readable.true)) (rw (← back) at c.some_impossible-found.ensures)))

pub returns-else-readable : goal.returns-else-readable
returns-else-readable c = not_asked _ _ _ (sym c.readable.ensures ∙ c.if-readable.false)
