-- Document 01, "Pattern noise": what `pattern_vertical` and `pattern_horizontal` answer, by one definition over the lines.
use Rattle.std.specs.Prelude.{ℕ, ◌*◌, Bool, not, List, ltb, length, get_or, Result}
use Rattle.laws.specs.First.{some_to}
use Rattle.verdict.specs.Verdict.{Verdict, ◌⨟◌, refuse_if}
use Rattle.verdict.specs.Answer.{answer_of, Paper, answer_paper, paper_for}
use Rattle.verdict.specs.declared.Refusal.{Refusal}
use Rattle.verdict.specs.declared.Refusal.TheVariants.{Parameter, Unsurveyed, TooSmall, Impossible}
use Rattle.window.specs.Shape.{sites_of, bad_count}
use Rattle.window.specs.View.{surveyed, seen, above}
use Rattle.refusals.specs.Judge.{length_of, mask_verdict}
use Rattle.pattern.specs.Lines.{Lines, line_total}
use Rattle.pattern.specs.Figures.{figures_of, no_figures}
use Rattle.pattern.specs.declared.Figures.{Figures}

-- a code that is not 0
abbrev pub unsurveyed : List ℕ → ℕ → Bool
unsurveyed mask i = not (surveyed (get_or mask i 0))

-- the refusals in their order: 1 to 5, 3 of the count, 4 of the sums too, then 8, 9 and 11
unfoldable pub pattern_verdict : (ℕ → ℕ → Lines) → ℕ → ℕ → ℕ → ℕ → List ℕ → List ℕ → Verdict
pattern_verdict lines w h full k mask sums =
    mask_verdict w h full (refuse_if Parameter (bad_count k)) mask (length_of w h (length sums))
    ⨟ refuse_if Unsurveyed (some_to (sites_of w h) (unsurveyed mask))
    ⨟ refuse_if TooSmall (ltb (lines w h).count 12)
    ⨟ refuse_if Impossible (some_to (sites_of w h) (above (k * full) (seen mask sums)))

-- the figures of the lines' totals, of which each has `long` sites of k frames
abbrev pub pattern_figures : Lines → ℕ → ℕ → (ℕ → ℕ) → Figures
pattern_figures l full k view = figures_of l.count (l.long * k * full) (line_total l view)

-- the answer: the figures, or the refusal
unfoldable pub pattern_answer : (ℕ → ℕ → Lines) → ℕ → ℕ → ℕ → ℕ → List ℕ → List ℕ → Result Figures Refusal
pattern_answer lines w h full k mask sums =
    answer_of (pattern_verdict lines w h full k mask sums) (pattern_figures (lines w h) full k (seen mask sums))

-- the paper's numbers of an answer
abbrev pub paper_of : Result Figures Refusal → Paper Figures
paper_of = answer_paper no_figures

-- the paper's numbers for all inputs
unfoldable pub pattern_paper : (ℕ → ℕ → Lines) → ℕ → ℕ → ℕ → ℕ → List ℕ → List ℕ → Paper Figures
pattern_paper lines w h full k mask sums =
    paper_for (pattern_verdict lines w h full k mask sums) (pattern_figures (lines w h) full k (seen mask sums)) no_figures
