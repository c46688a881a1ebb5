use mathlib.Core.Path.{◌≡◌, sym, ap₂, ◌∙◌}
use lib.ListN.{length}
use Rattle.std.proofs.Common.{rules, length-append}
use Rattle.std.proofs.lemmas.Slice.Zip.{zip_turn}
use Rattle.laws.proofs.Firsts.{some_more}
use Rattle.window.specs.View.{seen, seen_at}
use Rattle.window.proofs.Views.{seen_is}
use Rattle.refusals.proofs.some_over.Goals as goal
use Rattle.refusals.proofs.some_over.Goals.{After-seen_at}

-- a turn's pair stands at the index of the turn
here : (c : After-seen_at) → c.seen_at.result ≡ seen c.args.view.now.mask.now c.args.view.now.frame.now (length c.loop-code.yielded)
here c =
    let z = zip_turn c.args.view.now.mask.now c.args.view.now.frame.now c.loop-code.yielded c.into_iter-code-iterator.result c.loop-code.code-iterator c.next.new.self c.next.result (search rules) (search rules) c.loop-code.yielded_by _ c.in-Some.is c.next.ensures.steps in
    c.seen_at.ensures ∙ ap₂ seen_at (z.2 0) (z.3 0) ∙ sym (seen_is _ _ _)

pub loop-code-preserved : goal.loop-code-preserved
loop-code-preserved c = rw (length-append c.loop-code.yielded _, here (goal.at.loop-code-preserved c).After-seen_at, c.loop-code.invariant) (some_more _ _)
