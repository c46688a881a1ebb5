-- `pair_figures` is right because 1 to 6 are judged before the walk and 7 after it, which is the definition's order, and what passes is within the bounds of `figures_of`.
use mathlib.Core.Path.{◌≡◌, sym, ap, ◌∙◌}
use Rattle.std.proofs.lemmas.Result.{err_from_is_err_and}
use Rattle.verdict.specs.Verdict.{clear}
use Rattle.refusals.specs.Judge.{frames_verdict}
use Rattle.pair.specs.Figures.{figures_of}
use Rattle.pair.specs.Pair.{pair_verdict}
use Rattle.pair.proofs.Accepts.{lent}
use Rattle.pair.proofs.Answers.{same_spread, rest, in_bounds, answers_refusal, accepted_is, paper_of_answer}
use Rattle.pair.proofs.pair_figures.Goals as goal
use Rattle.pair.proofs.pair_figures.Goals.{After-refuse_if, In_ok-judge_frames}

-- past the judge, 1 to 6 refuse nothing
cleared : (c : In_ok-judge_frames) → frames_verdict c.args.width c.args.height c.args.full_scale c.args.mask.now c.args.first.now c.args.second.now ≡ clear
cleared c = sym c.in_ok-judge_frames.ensures

-- and past the walk, 7 is the verdict
seven : (c : After-refuse_if) → let a = c.args in
    c.refuse_if.result ≡ pair_verdict a.width a.height a.full_scale a.mask.now a.first.now a.second.now
seven c = c.refuse_if.ensures ∙ rest _ _ _ _ _ _ _ (sym c.in_ok-judge_frames.ensures) c.spread_of-s.ensures

pub spread_of-s-requires : goal.spread_of-s-requires
spread_of-s-requires c = lent _ _ _ _ _ _ (cleared (goal.at.spread_of-s-requires c).In_ok-judge_frames)

pub figures_of-requires : goal.figures_of-requires
figures_of-requires c =
    in_bounds _ _ _ _ _ _ _ (cleared (goal.at.figures_of-requires c).In_ok-judge_frames) c.spread_of-s.ensures
    (sym (seven (goal.at.figures_of-requires c).After-refuse_if) ∙ c.in_ok-refuse_if.was)

pub returns-in_err-refuse_if : goal.returns-in_err-refuse_if
returns-in_err-refuse_if c =
    let p = err_from_is_err_and c.from_residual-in_err-refuse_if.result c.from_residual-in_err-refuse_if.ensures.1 in
    let answer = p.1 ∙ answers_refusal _ _ _ _ _ _ (rw p.2 (sym c.in_err-refuse_if.was ∙ seven (goal.at.returns-in_err-refuse_if c).After-refuse_if)) in
    record { answer = answer; paper = paper_of_answer _ _ _ _ _ _ answer }

pub returns : goal.returns
returns c =
    let answer = accepted_is _ _ _ _ _ _ _ (sym (seven (goal.at.returns c).After-refuse_if) ∙ c.in_ok-refuse_if.was)
    (c.figures_of.ensures ∙ ap figures_of (same_spread _ _ _ _ _ _ _ (cleared (goal.at.returns c).In_ok-judge_frames) c.spread_of-s.ensures)) in
    record { answer = answer; paper = paper_of_answer _ _ _ _ _ _ answer }
