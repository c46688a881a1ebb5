-- Document 01, "Job program": what a job answers.
use Rattle.std.specs.Prelude.{ℕ, ◌*◌, List, ◌++◌, codes, pos, Result}
use Rattle.std.specs.Fmt.{decimal, signed_decimal}
use Rattle.verdict.specs.Verdict.{Verdict, ◌⨟◌}
use Rattle.verdict.specs.Answer.{answer_of, CountedPaper, answer_counted, counted_for}
use Rattle.verdict.specs.declared.Refusal.{Refusal}
use Rattle.pair.specs.Pair.{pair_verdict, pair_figures}
use Rattle.pair.specs.declared.PairFigures.{PairFigures}
use Rattle.dark.specs.Dark.{dark_verdict, dark_figures}
use Rattle.dark.specs.declared.Level.{Level}
use Rattle.stream.specs.Stream.{width_of, height_of, full_of, black_of, mask_of, first_of, second_of, stream_verdict}
use Rattle.stream.specs.declared.JobFigures.{JobFigures}

-- the stream's faults, then the library's refusals: pair noise, and then dark level of the first frame
unfoldable pub job_verdict : List ℕ → Verdict
job_verdict s =
    stream_verdict s
    ⨟ pair_verdict (width_of s) (height_of s) (full_of s) (mask_of s) (first_of s) (second_of s)
    ⨟ dark_verdict (width_of s) (height_of s) (full_of s) (black_of s) (mask_of s) (first_of s)

-- ---- the figures of the library's calls on what stands in the stream, whether they refuse it or not
abbrev pub pair_in : List ℕ → PairFigures
pair_in s = pair_figures (width_of s) (height_of s) (mask_of s) (first_of s) (second_of s)

abbrev pub dark_in : List ℕ → Level
dark_in s = dark_figures (width_of s) (height_of s) (black_of s) (mask_of s) (first_of s)

-- what four lines print of a pair's figures and a level: sites n, variance P/Q, noise r/(64 × n), and the dark level's two numbers
abbrev pub printed : PairFigures → Level → JobFigures
printed pair level = record {
  sites = pair.n;
  p = pair.p;
  q = pair.q;
  r = pair.r;
  r_over = 64 * pair.n;
  dark = level.numerator;
  dark_over = level.denominator;
}

-- two numbers as a fraction prints them
abbrev pub fraction : List ℕ → List ℕ → List ℕ
fraction above below = above ++ (codes "/" ++ below)

-- the four lines, the last without its end
abbrev pub figures_text : JobFigures → List ℕ
figures_text f =
    (codes "sites " ++ decimal f.sites)
    ++ (codes "\nvariance " ++ fraction (decimal f.p) (decimal f.q))
    ++ (codes "\nnoise " ++ fraction (decimal f.r) (decimal f.r_over))
    ++ (codes "\ndark " ++ fraction (signed_decimal f.dark) (decimal f.dark_over))

-- every number 0: what stands beside a refusal
abbrev pub no_figures : JobFigures
no_figures = record { sites = 0; p = 0; q = 0; r = 0; r_over = 0; dark = pos 0; dark_over = 0 }

abbrev pub job_figures : List ℕ → JobFigures
job_figures s = printed (pair_in s) (dark_in s)

-- the answer: the figures, or the refusal
unfoldable pub job_answer : List ℕ → Result JobFigures Refusal
job_answer s = answer_of (job_verdict s) (job_figures s)

-- the paper's numbers of an answer
abbrev pub paper_of : Result JobFigures Refusal → CountedPaper JobFigures
paper_of = answer_counted no_figures

-- the paper's numbers for all inputs
unfoldable pub job_paper : List ℕ → CountedPaper JobFigures
job_paper s = counted_for (job_verdict s) (job_figures s) no_figures
