-- Document 02, i: sites that jump between levels while their mean looks healthy, and what `blinking_sites` answers.
use Rattle.std.specs.Prelude.{ℕ, ◌-◌, Bool, ◌||◌, ◌&&◌, List, eqb, ltb, leb, get_or, Result}
use Rattle.laws.specs.First.{count_to}
use Rattle.verdict.specs.Verdict.{Verdict, ◌⨟◌, refuse_if}
use Rattle.verdict.specs.Answer.{answer_of, Paper, answer_paper, paper_for}
use Rattle.verdict.specs.declared.Refusal.{Refusal}
use Rattle.verdict.specs.declared.Refusal.TheVariants.{Parameter, Impossible}
use Rattle.window.specs.Shape.{sites_of, bad_count}
use Rattle.window.specs.View.{surveyed}
use Rattle.refusals.specs.Judge.{mask_verdict}
use Rattle.stack.specs.State.{Stack, stack_lengths, impossible_in}

-- 3: a spread that is not 1 to 4,095
unfoldable pub bad_spread : ℕ → Bool
bad_spread spread = eqb spread 0 || ltb 4095 spread

-- a site of this code blinks: it is surveyed, and its spread, the greatest sample less the least, is at least the one given; 11 has made sure that its least
-- is not above its greatest
unfoldable pub blinks_at : ℕ → ℕ → ℕ → ℕ → Bool
blinks_at spread code least greatest = surveyed code && leb spread (greatest - least)

-- the same by the buffers
abbrev pub blinks : ℕ → List ℕ → List ℕ → List ℕ → ℕ → Bool
blinks spread mask least greatest i = blinks_at spread (get_or mask i 0) (get_or least i 0) (get_or greatest i 0)

-- the refusals in their order: 1 to 5, where 3 asks the spread and the frame count, and 4 the stack's buffers too, then 11
unfoldable pub blinking_verdict : ℕ → ℕ → ℕ → ℕ → List ℕ → Stack → Verdict
blinking_verdict w h full spread mask s =
    mask_verdict w h full (refuse_if Parameter (bad_spread spread || bad_count s.frames)) mask (stack_lengths w h s)
    ⨟ refuse_if Impossible (impossible_in (sites_of w h) full mask s)

-- how many sites blink
abbrev pub blinking_count : ℕ → ℕ → ℕ → List ℕ → Stack → ℕ
blinking_count w h spread mask s = count_to (sites_of w h) (blinks spread mask s.least s.greatest)

-- the answer: the count, or the refusal
unfoldable pub blinking_answer : ℕ → ℕ → ℕ → ℕ → List ℕ → Stack → Result ℕ Refusal
blinking_answer w h full spread mask s = answer_of (blinking_verdict w h full spread mask s) (blinking_count w h spread mask s)

-- the paper's numbers of an answer
abbrev pub blinking_paper_of : Result ℕ Refusal → Paper ℕ
blinking_paper_of = answer_paper 0

-- the paper's numbers for all inputs
unfoldable pub blinking_paper : ℕ → ℕ → ℕ → ℕ → List ℕ → Stack → Paper ℕ
blinking_paper w h full spread mask s = paper_for (blinking_verdict w h full spread mask s) (blinking_count w h spread mask s) 0
