-- From the verdict, n and P to what the call answers, and back: 7, which follows the walk, is the rest of the one chain,
-- and within the bounds of an accepted pair each rounded division is the exact fraction's.
use Prim.Native.Nat.{ℕ, ◌*◌, ◌^◌, ◌≤◌, ◌<◌}
use mathlib.Core.List.{List}
use mathlib.Core.Path.{◌≡◌, refl, sym, ap, ◌∙◌}
use lib.Dec.{ltb}
use lib.Ieee.{Float}
use lib.ListN.{length}
use Rattle.exact.specs.Root.{root}
use Rattle.exact.specs.Quotient.{quotient_or_zero}
use Rattle.exact.proofs.Quotients.{ranged-quotient}
use Rattle.exact.proofs.Noises.{variance-ranged, noise_ranged}
use Rattle.verdict.specs.Verdict.{clear, refuse_if}
use Rattle.verdict.specs.declared.Refusal.{Refusal}
use Rattle.verdict.proofs.Verdicts.{stopped}
use Rattle.verdict.proofs.Answers.{was_accepted, counted_is_told}
use Rattle.verdict.specs.declared.Refusal.TheVariants.{TooFew}
use Rattle.std.specs.Prelude.{Result, Ok, Err}
use Rattle.window.specs.View.{one, seen}
use Rattle.refusals.specs.Judge.{frames_verdict}
use Rattle.refusals.proofs.Frames.{frames_clear}
use Rattle.pair.specs.Figures.{spread_of, figures_of, no_figures}
use Rattle.pair.specs.Pair.{pair_spread, pair_verdict, pair_figures, pair_answer, paper_of, pair_paper}
use Rattle.pair.specs.declared.Spread.{Spread}
use Rattle.pair.specs.declared.PairFigures.{PairFigures}
use Rattle.pair.proofs.Accepts.{Accepted, accepted, measured_at}

-- the six numbers as they are worked out
pub figures_are : (s : Spread) → (2 ≤ s.n) × (s.n ≤ 16384) × (s.p < 2 ^ 53)
    → (r : ℕ) (x y : Float) → r ≡ root (2048 * s.p) → x ≡ quotient_or_zero s.p (2 * (s.n * s.n)) → y ≡ quotient_or_zero r (64 * s.n)
    → record { n = s.n; p = s.p; q = 2 * (s.n * s.n); r = r; variance = x; noise = y } ≡ figures_of s
figures_are s bounds r x y e f g =
    let m = measured_at s bounds in
    let variance-is : x ≡ (figures_of s).variance = f ∙ ranged-quotient _ _ (variance-ranged s.p s.n m) in
    let noise-is : y ≡ (figures_of s).noise = g ∙ ap (λ (t : ℕ). quotient_or_zero t (64 * s.n)) e ∙ ranged-quotient _ _ (noise_ranged s.p s.n m) in
    rw (variance-is, noise-is, e)

module _ (w h full : ℕ) (mask first second : List ℕ) where
  -- past 1 to 6, s being n and P
  module _ (s : Spread) (passed : frames_verdict w h full mask first second ≡ clear)
      (e : s ≡ spread_of (length mask) (one mask) (seen mask first) (seen mask second)) where
    pub same_spread : s ≡ pair_spread w h mask first second
    same_spread = e ∙ ap (λ (n : ℕ). spread_of n (one mask) (seen mask first) (seen mask second)) (frames_clear w h full mask first second passed).of_first.of.masked

    -- 7 is the verdict
    pub rest : refuse_if TooFew (ltb s.n 2) ≡ pair_verdict w h full mask first second
    unfolding pair_verdict
    rest = rw passed (ap (λ (t : Spread). refuse_if TooFew (ltb t.n 2)) same_spread)

    pub in_bounds : pair_verdict w h full mask first second ≡ clear → (2 ≤ s.n) × (s.n ≤ 16384) × (s.p < 2 ^ 53)
    in_bounds f = let a = accepted f in rw same_spread (a.two, a.few, a.exact)

  pub refused_is : (r : Refusal) → pair_verdict w h full mask first second ≡ Err r
      → (Err r ≡ pair_answer w h full mask first second) × (paper_of (Err r) ≡ pair_paper w h full mask first second)
  unfolding pair_answer pair_paper
  refused_is r e = rw e (refl, refl)

  pub answers_refusal : {r : Refusal} → Err r ≡ pair_verdict w h full mask first second → Err r ≡ pair_answer w h full mask first second
  unfolding pair_answer
  answers_refusal e = stopped (Ok (pair_figures w h mask first second)) e

  pub accepted_is : (figures : PairFigures) → pair_verdict w h full mask first second ≡ clear → figures ≡ pair_figures w h mask first second
      → Ok figures ≡ pair_answer w h full mask first second
  unfolding pair_answer
  accepted_is figures e f = rw (e, f) refl

  -- frames that are answered with figures are accepted, and these are their figures
  pub answer_is : (figures : PairFigures) → pair_answer w h full mask first second ≡ Ok figures
      → Accepted w h full mask first second × (figures ≡ pair_figures w h mask first second)
  unfolding pair_answer
  answer_is figures e = let was = was_accepted (pair_verdict w h full mask first second) e in (accepted was.0, sym was.1)

  -- the paper's numbers are those of the answer
  pub paper_of_answer : {r : Result PairFigures Refusal} → r ≡ pair_answer w h full mask first second → paper_of r ≡ pair_paper w h full mask first second
  unfolding pair_answer pair_paper
  paper_of_answer e = ap paper_of e ∙ counted_is_told no_figures (pair_figures w h mask first second) (pair_verdict w h full mask first second)
