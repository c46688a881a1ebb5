-- `judge` is right because it asks the definition's parts in its order, the bodies from where the sides end.
use mathlib.Core.Path.{ap, ◌∙◌}
use mathlib.Core.Bool.{Bool}
use native.Mathlib.Omega.{arith}
use Rattle.std.proofs.lemmas.Result.{err_from_is_err_and}
use Rattle.verdict.specs.Verdict.{refuse_if}
use Rattle.verdict.specs.declared.Refusal.TheVariants.{Sides, TooWide}
use Rattle.stream.proofs.Streams.{sides_past, body_fault, extra_fault}
use Rattle.stream.proofs.judge.Goals as goal

pub body_fields-requires : goal.body_fields-requires
body_fields-requires c = (omega (arith, (sides_past c.args.s.now _ c.in_ok-at.ensures).1), c.sites.ensures.1)

pub returns-in_err-end : goal.returns-in_err-end
returns-in_err-end c =
    let p = err_from_is_err_and c.from_residual-in_err-end.result c.from_residual-in_err-end.ensures.1 in
    rw (p.1, p.2)
    (body_fault c.args.s.now c.args.width c.args.height c.sites.result _ c.in_ok-at.ensures
    (c.in_ok-refuse_if.ensures ∙ ap (λ (b : Bool). refuse_if Sides b) c.bad_sides.ensures)
    (c.in_ok-refuse_if-2.ensures ∙ ap (λ (b : Bool). refuse_if TooWide b) c.wide_sides.ensures)
    c.sites.ensures.0 c.in_err-end.ensures)

pub returns : goal.returns
returns c =
    c.refuse_if-3.ensures
    ∙ extra_fault c.args.s.now c.args.width c.args.height c.sites.result _ c.in_ok-at.ensures
    (c.in_ok-refuse_if.ensures ∙ ap (λ (b : Bool). refuse_if Sides b) c.bad_sides.ensures)
    (c.in_ok-refuse_if-2.ensures ∙ ap (λ (b : Bool). refuse_if TooWide b) c.wide_sides.ensures)
    c.sites.ensures.0 _ c.in_ok-end.ensures
