-- `shading_judge` is right because it judges blocks only where nothing is refused, and there every shade fits.
use mathlib.Core.Path.{◌≡◌, sym, ap, ap₂, ◌∙◌}
use native.Mathlib.Omega.{arith}
use lib.ListN.{length}
use Rattle.std.specs.Prelude.{Err}
use Rattle.std.proofs.lemmas.Result.{err_from_is_err_and}
use Rattle.shading.specs.Judge.{asked, lengths, judge_verdict}
use Rattle.shading.specs.declared.Asked.{Asked}
use Rattle.shading.specs.declared.Lengths.{Lengths}
use Rattle.shading.proofs.Judging.{accepted, refused_is, accepted_is}
use Rattle.shading.proofs.shading_judge.Goals as goal
use Rattle.shading.proofs.shading_judge.Goals.{After-judge}

-- what `judge` answers, by the numbers and lengths that are handed in
abbrev Given : After-judge → Asked
Given c = let a = c.args in asked a.width a.height a.full_scale a.black_level a.bayer_order a.limit

abbrev Long : After-judge → Lengths
Long c = let a = c.args in lengths (length a.numerators.now) (length a.denominators.now) (length a.refusals.now) (length a.fails.now)

judged : (c : After-judge) → c.judge.result ≡ judge_verdict (Given c) (Long c) c.args.totals.now c.args.counts.now
judged c = let a = c.args in
    c.judge.ensures ∙ ap₂ (λ (g : Asked) (l : Lengths). judge_verdict g l a.totals.now a.counts.now) c.new-asked.ensures c.of-long.ensures

pub invariant_of-table : goal.invariant_of-table
invariant_of-table c = let j = (goal.at.invariant_of-table c).After-judge in
    let a = accepted (Given j) (Long j) _ _ (sym (judged j) ∙ c.in_ok-judge.was) in
    let l = a.of in
    rw c.new-asked.ensures (record { limits = (omega (arith, l.dark, l.scale), l.limit_high); whole = (l.scale, l.totals_long, l.counts_long, a.possible) })

pub judge_blocks-requires : goal.judge_blocks-requires
judge_blocks-requires c = let j = (goal.at.judge_blocks-requires c).After-judge in
    let l = (accepted (Given j) (Long j) _ _ (sym (judged j) ∙ c.in_ok-judge.was)).of in
    rw c.new-asked.ensures (l.numerators_long, l.denominators_long, l.refusals_long, l.fails-long)

pub returns-in_err-judge : goal.returns-in_err-judge
returns-in_err-judge c = let j = (goal.at.returns-in_err-judge c).After-judge in
    let a = c.args in
    let p = err_from_is_err_and c.from_residual.result c.from_residual.ensures.1 in
    let r = refused_is (Given j) (Long j) _ _ a.numerators.now a.denominators.now a.refusals.now a.fails.now _ _ (p.1 ∙ ap Err p.2) (sym c.in_err-judge.was ∙ judged j) in
    record { answer = r.0; paper = r.1.0; numerators = r.1.1.0; denominators = r.1.1.1.0; refusals = r.1.1.1.1.0; fails = r.1.1.1.1.1 }

pub returns : goal.returns
returns c = let j = (goal.at.returns c).After-judge in
    let a = c.args in
    let done = accepted_is (Given j) (Long j) _ _ a.numerators.now a.denominators.now a.refusals.now a.fails.now (sym (judged j) ∙ c.in_ok-judge.was) in
    let shades = c.judge_blocks.ensures in
    let buffers = done.1.1 in
    record {
      answer = done.0;
      paper = done.1.0;
      numerators = (rw c.new-asked.ensures at shades.numerators_after) ∙ buffers.0;
      denominators = (rw c.new-asked.ensures at shades.denominators_after) ∙ buffers.1.0;
      refusals = (rw c.new-asked.ensures at shades.refusals_after) ∙ buffers.1.1.0;
      fails = (rw c.new-asked.ensures at shades.fails_after) ∙ buffers.1.1.1;
    }
