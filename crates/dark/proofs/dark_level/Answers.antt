-- `dark_level` is right because it sums only where nothing is refused, and then over the whole window.
use Prim.Native.Nat.{ℕ}
use mathlib.Core.Path.{◌≡◌, sym, ap, ◌∙◌}
use mir.Val.{to_z, of_z}
use mir.Syntax.{w64}
use native.Mathlib.Omega.{arith}
use borrow.Author.Rules.{rules}
use Rattle.laws.specs.Sum.{sum_to}
use Rattle.window.proofs.Sides.{sites-few}
use Rattle.window.proofs.Walks.{walked_whole}
use Rattle.window.specs.View.{seen, one}
use Rattle.dark.proofs.Levels.{Accepted, accepted, level_is}
use Rattle.dark.proofs.Promises.{paper_is}
use Rattle.dark.specs.Dark.{above_black, paper_of}
use Rattle.dark.proofs.dark_level.Goals as goal
use Rattle.dark.proofs.dark_level.Goals.{In_ok-judge}

passed : (c : In_ok-judge) → Accepted c.args.width c.args.height c.args.full_scale c.args.black_level c.args.mask.now c.args.frame.now
passed c = accepted _ _ _ _ _ _ (sym c.in_ok-judge.ensures)

pub above_black-requires : goal.above_black-requires
above_black-requires c = let a = passed c in
    (a.dark, a.lent.framed ∙ sym a.lent.of.masked, omega (arith, sites-few c.args.width c.args.height, a.lent.of.masked))

pub returns-clause-answer : goal.returns-clause-answer
returns-clause-answer c = let args = c.args in
    let whole = (passed (goal.at.returns-clause-answer c).In_ok-judge).lent.of.masked in
    let back : to_z w64 (of_z w64 c.above_black.result) ≡ c.above_black.result = search rules in
    level_is _ _ _ _ _ _ (sym c.in_ok-judge.ensures) _ _
    (back ∙ c.above_black.ensures ∙ ap (λ (n : ℕ). above_black n args.black_level (seen args.mask.now args.frame.now) (one args.mask.now)) whole)
    (c.surveyed-count.ensures ∙ ap (λ (n : ℕ). sum_to n (one args.mask.now)) (walked_whole _ _ _ whole))

pub returns-clause-paper : goal.returns-clause-paper
returns-clause-paper c = ap paper_of (returns-clause-answer c) ∙ paper_is _ _ _ _ _ _
