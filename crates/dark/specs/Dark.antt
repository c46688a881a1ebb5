-- Document 01, "Dark level": what `dark_level` answers.
use Rattle.std.specs.Prelude.{ℕ, ◌*◌, List, eqb, ltb, ℤ, pos, Result}
use Rattle.laws.specs.Sum.{sum_to}
use Rattle.laws.specs.Signed.{◌⊖◌}
use Rattle.verdict.specs.Verdict.{Verdict, clear, ◌⨟◌, refuse_if}
use Rattle.verdict.specs.Answer.{answer_of, CountedPaper, answer_counted, counted_for}
use Rattle.verdict.specs.declared.Refusal.{Refusal}
use Rattle.verdict.specs.declared.Refusal.TheVariants.{Parameter, TooFew}
use Rattle.window.specs.Shape.{sites_of}
use Rattle.window.specs.View.{seen, one}
use Rattle.refusals.specs.Judge.{frame_verdict}
use Rattle.dark.specs.declared.Level.{Level}

-- sum − black level × n over n surveyed sites, signed
unfoldable pub above_black : ℕ → ℕ → (ℕ → ℕ) → (ℕ → ℕ) → ℤ
above_black sites black view ones = sum_to sites view ⊖ black * sum_to sites ones

-- the refusals in their order: 1 to 6, 3 of the black level, then 7
unfoldable pub dark_verdict : ℕ → ℕ → ℕ → ℕ → List ℕ → List ℕ → Verdict
dark_verdict w h full black mask frame =
    frame_verdict w h full (refuse_if Parameter (ltb full black)) mask frame clear
    ⨟ refuse_if TooFew (eqb (sum_to (sites_of w h) (one mask)) 0)

-- the level's two whole numbers, unreduced
abbrev pub figures : ℤ → ℕ → Level
figures numerator denominator = record { numerator = numerator; denominator = denominator }

-- every number 0: what stands beside a refusal
abbrev pub no_figures : Level
no_figures = figures (pos 0) 0

abbrev pub dark_figures : ℕ → ℕ → ℕ → List ℕ → List ℕ → Level
dark_figures w h black mask frame =
    figures (above_black (sites_of w h) black (seen mask frame) (one mask)) (sum_to (sites_of w h) (one mask))

-- the answer: the figures, or the refusal
unfoldable pub dark_answer : ℕ → ℕ → ℕ → ℕ → List ℕ → List ℕ → Result Level Refusal
dark_answer w h full black mask frame = answer_of (dark_verdict w h full black mask frame) (dark_figures w h black mask frame)

-- the paper's numbers of an answer
abbrev pub paper_of : Result Level Refusal → CountedPaper Level
paper_of = answer_counted no_figures

-- the paper's numbers for all inputs
unfoldable pub dark_paper : ℕ → ℕ → ℕ → ℕ → List ℕ → List ℕ → CountedPaper Level
dark_paper w h full black mask frame =
    counted_for (dark_verdict w h full black mask frame) (dark_figures w h black mask frame) no_figures
