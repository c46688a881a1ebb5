-- What the inner functions promise: the library's two answers on what stands in a stream, as one. The law `direct` says that it is the job's.
use Rattle.std.specs.Prelude.{ℕ, List, Result, Ok, Err}
use Rattle.verdict.specs.declared.Refusal.{Refusal}
use Rattle.pair.specs.Pair.{pair_answer}
use Rattle.pair.specs.declared.PairFigures.{PairFigures}
use Rattle.dark.specs.Dark.{dark_answer}
use Rattle.dark.specs.declared.Level.{Level}
use Rattle.stream.specs.Job.{printed}
use Rattle.stream.specs.declared.JobFigures.{JobFigures}

-- two answers as one: the first refusal, or what is printed
abbrev pub together : Result PairFigures Refusal → Result Level Refusal → Result JobFigures Refusal
together (Err r) d = Err r
together (Ok f) (Err r) = Err r
together (Ok f) (Ok l) = Ok (printed f l)

-- the library's calls on two frames, as one answer
abbrev pub directly : ℕ → ℕ → ℕ → ℕ → List ℕ → List ℕ → List ℕ → Result JobFigures Refusal
directly w h full black mask first second =
    together (pair_answer w h full mask first second) (dark_answer w h full black mask first)
