-- `colour_ratios` is right because it sums the centres only of a frame that 1 to 6 do not refuse, and divides only where they are not refused either.
use mathlib.Core.Path.{◌≡◌}
use Rattle.std.proofs.lemmas.Result.{err_from_is_err_and}
use Rattle.colour.specs.Colour.{colour_answer}
use Rattle.colour.proofs.Judged.{told_paper, centres_refused, accepted_is}
use Rattle.colour.proofs.colour_ratios.Goals as goal

pub returns-in_err-judge_centres : goal.returns-in_err-judge_centres
returns-in_err-judge_centres c =
    let a = c.args in
    let p = err_from_is_err_and c.from_residual-in_err-judge_centres.result c.from_residual-in_err-judge_centres.ensures.1 in
    let e : c.from_residual-in_err-judge_centres.result ≡ colour_answer a.width a.height a.full_scale a.black_level a.bayer_order a.mask.now a.frame.now =
    rw (p.1, p.2) (centres_refused _ _ _ _ _ _ _ c.in_ok-judge.ensures _ c.centres_seen-seen.ensures _ c.in_err-judge_centres.ensures) in
    record { answer = e; paper = told_paper _ _ _ _ _ _ _ e }

pub returns : goal.returns
returns c =
    let e = accepted_is _ _ _ _ _ _ _ c.in_ok-judge.ensures _ c.centres_seen-seen.ensures c.in_ok-judge_centres.ensures _ _ _ c.over.ensures c.over-2.ensures c.over-3.ensures in
    record { answer = e; paper = told_paper _ _ _ _ _ _ _ e }
