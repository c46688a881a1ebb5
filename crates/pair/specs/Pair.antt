-- Document 01, "Pair noise", as document 02 f merges its two calls: what `pair_figures` answers.
use Rattle.std.specs.Prelude.{ℕ, List, ltb, Result}
use Rattle.verdict.specs.Verdict.{Verdict, ◌⨟◌, refuse_if}
use Rattle.verdict.specs.Answer.{answer_of, CountedPaper, answer_counted, counted_for}
use Rattle.verdict.specs.declared.Refusal.{Refusal}
use Rattle.verdict.specs.declared.Refusal.TheVariants.{TooFew}
use Rattle.window.specs.Shape.{sites_of}
use Rattle.window.specs.View.{one, seen}
use Rattle.refusals.specs.Judge.{frames_verdict}
use Rattle.pair.specs.Figures.{spread_of, figures_of, no_figures}
use Rattle.pair.specs.declared.Spread.{Spread}
use Rattle.pair.specs.declared.PairFigures.{PairFigures}

-- n and P of two frames in a window
abbrev pub pair_spread : ℕ → ℕ → List ℕ → List ℕ → List ℕ → Spread
pair_spread w h mask first second = spread_of (sites_of w h) (one mask) (seen mask first) (seen mask second)

-- the refusals in their order: 1, 2 and 4 to 6, then 7, fewer than 2 surveyed sites; there is no 14 (document 02, h)
unfoldable pub pair_verdict : ℕ → ℕ → ℕ → List ℕ → List ℕ → List ℕ → Verdict
pair_verdict w h full mask first second =
    frames_verdict w h full mask first second
    ⨟ refuse_if TooFew (ltb (pair_spread w h mask first second).n 2)

-- all six numbers of two frames in a window
abbrev pub pair_figures : ℕ → ℕ → List ℕ → List ℕ → List ℕ → PairFigures
pair_figures w h mask first second = figures_of (pair_spread w h mask first second)

-- the answer: the figures, or the refusal
unfoldable pub pair_answer : ℕ → ℕ → ℕ → List ℕ → List ℕ → List ℕ → Result PairFigures Refusal
pair_answer w h full mask first second =
    answer_of (pair_verdict w h full mask first second) (pair_figures w h mask first second)

-- the paper's numbers of an answer
abbrev pub paper_of : Result PairFigures Refusal → CountedPaper PairFigures
paper_of = answer_counted no_figures

-- the paper's numbers for all inputs
unfoldable pub pair_paper : ℕ → ℕ → ℕ → List ℕ → List ℕ → List ℕ → CountedPaper PairFigures
pair_paper w h full mask first second =
    counted_for (pair_verdict w h full mask first second) (pair_figures w h mask first second) no_figures
