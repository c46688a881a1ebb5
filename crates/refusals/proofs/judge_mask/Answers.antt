-- `judge_mask` is right because it asks the definition's tests in its order, each told in the caller's refusals, and 5 of a mask that 4 has let pass.
use mathlib.Core.Path.{◌≡◌, sym, ap, ◌∙◌}
use lib.ListN.{length}
use Rattle.std.proofs.Common.{rules}
use Rattle.verdict.specs.Verdict.{clear}
use Rattle.refusals.specs.Judge.{shape_of, length_of, told_by}
use Rattle.refusals.proofs.Judges.{mask_whole}
use Rattle.refusals.proofs.OwnRefusals.{told_clear, mask_told}
use Rattle.refusals.proofs.judge_mask.Goals as goal
use Rattle.refusals.proofs.judge_mask.Goals.{In_ok-told-2}

-- 1, 2 and 4 let pass
passed : (g : _) (c : In_ok-told-2 g) → (shape_of c.args.width c.args.height c.args.full_scale ≡ clear) × (length_of c.args.width c.args.height (length c.args.mask.now) ≡ clear)
passed g c =
    let told = g.R.Refusing.told in
    (sym c.shape.ensures ∙ told_clear told _ c.in_ok-told.ensures, sym c.length.ensures ∙ told_clear told _ c.in_ok-told-2.ensures)

pub codes-requires : goal.codes-requires
codes-requires g c = let p = passed g (goal.at.codes-requires g c).In_ok-told-2 in mask_whole _ _ _ _ p.0 p.1

pub returns : goal.returns
returns g c =
    let told = g.R.Refusing.told in
    let p = passed g (goal.at.returns g c).In_ok-told-2 in
    c.told-3.ensures ∙ ap (told_by told) c.codes.ensures ∙ mask_told told _ _ _ _ p.0 (search rules) p.1 (search rules)
