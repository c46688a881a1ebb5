-- `job` is right because a fault of the stream is its answer, and without one the answer is that of the library's calls.
use mathlib.Core.Path.{sym, ap, ◌∙◌}
use Rattle.std.proofs.lemmas.Result.{err_from_is_err_and}
use Rattle.stream.proofs.Answers.{fault_is}
use Rattle.stream.proofs.Promises.{paper_is}
use Rattle.stream.proofs.Streams.{judged}
use Rattle.stream.specs.Job.{paper_of}
use Rattle.stream.proofs.job.Goals as goal

pub returns-in_err-judge-clause-answer : goal.returns-in_err-judge-clause-answer
returns-in_err-judge-clause-answer c =
    let p = err_from_is_err_and c.from_residual.result c.from_residual.ensures.1 in
    rw (p.1, p.2) (fault_is _ (sym (judged c.args.input.now c.in_err-judge.ensures (c.from-width.ensures ∙ c.word_at.ensures) (c.from-height.ensures ∙ c.word_at-2.ensures))))

pub returns-in_err-judge-clause-paper : goal.returns-in_err-judge-clause-paper
returns-in_err-judge-clause-paper c = ap paper_of (returns-in_err-judge-clause-answer c) ∙ paper_is _

pub returns-clause-paper : goal.returns-clause-paper
returns-clause-paper c = ap paper_of c.work.ensures ∙ paper_is _
