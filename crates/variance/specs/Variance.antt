-- Document 01, "Stack", as document 02 i amends it: what `stack_variance` answers.
use Rattle.std.specs.Prelude.{ℕ, ◌-◌, ◌*◌, Bool, ◌||◌, List, eqb, ltb, Result}
use Rattle.std.specs.Float.{binary64}
use Rattle.std.specs.Float.Ieee.{of_bits}
use Rattle.laws.specs.Sum.{sum_to}
use Rattle.exact.specs.Quotient.{quotient}
use Rattle.verdict.specs.Verdict.{Verdict, ◌⨟◌, refuse_if}
use Rattle.verdict.specs.Answer.{answer_of, Paper, answer_paper, paper_for}
use Rattle.verdict.specs.declared.Refusal.{Refusal}
use Rattle.verdict.specs.declared.Refusal.TheVariants.{Parameter, TooFew, Impossible}
use Rattle.window.specs.Shape.{sites_of, bad_count}
use Rattle.window.specs.View.{seen, one}
use Rattle.refusals.specs.Judge.{mask_verdict}
use Rattle.stack.specs.State.{Stack, stack_lengths, impossible_in}
use Rattle.variance.specs.declared.Variance.{Variance}

-- 7: no surveyed site, or fewer than 2 frames
unfoldable pub too_few : ℕ → ℕ → Bool
too_few sites k = eqb sites 0 || ltb k 2

-- the refusals in their order: 1 to 5, where 3 asks the frame count and 4 the stack's buffers too, then 7 and 11; there is no 14 (document 02, h)
unfoldable pub variance_verdict : ℕ → ℕ → ℕ → List ℕ → Stack → Verdict
variance_verdict w h full mask s =
    mask_verdict w h full (refuse_if Parameter (bad_count s.frames)) mask (stack_lengths w h s)
    ⨟ refuse_if TooFew (too_few (sum_to (sites_of w h) (one mask)) s.frames)
    ⨟ refuse_if Impossible (impossible_in (sites_of w h) full mask s)

-- the sum of k × q − s² over the sites of a window, as they are seen: 11 has made sure that no s² is above its k × q
unfoldable pub scatter : ℕ → ℕ → (ℕ → ℕ) → (ℕ → ℕ) → ℕ
scatter n k s q = sum_to n (λ (i : ℕ). k * q i - s i * s i)

-- every number 0: what stands beside a refusal
abbrev pub no_variance : Variance
no_variance = record { numerator = 0; denominator = 0; variance = of_bits binary64 0 }

-- the sum of k × q − s² over n surveyed sites, over n × k², and their quotient, rounded once
abbrev pub variance_figures : ℕ → ℕ → List ℕ → Stack → Variance
variance_figures w h mask s =
    let numerator = scatter (sites_of w h) s.frames (seen mask s.sums) (seen mask s.squares) in
    let denominator = sum_to (sites_of w h) (one mask) * (s.frames * s.frames) in
    record { numerator = numerator; denominator = denominator; variance = quotient numerator denominator }

-- the answer: the figures, or the refusal
unfoldable pub variance_answer : ℕ → ℕ → ℕ → List ℕ → Stack → Result Variance Refusal
variance_answer w h full mask s = answer_of (variance_verdict w h full mask s) (variance_figures w h mask s)

-- the paper's numbers of an answer
abbrev pub variance_paper_of : Result Variance Refusal → Paper Variance
variance_paper_of = answer_paper no_variance

-- the paper's numbers for all inputs
unfoldable pub variance_paper : ℕ → ℕ → ℕ → List ℕ → Stack → Paper Variance
variance_paper w h full mask s = paper_for (variance_verdict w h full mask s) (variance_figures w h mask s) no_variance
