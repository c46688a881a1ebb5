-- The laws of the frame of a call: from a verdict to the answer and its numbers, and back.
use mathlib.Core.Path.{◌≡◌, refl}
use Rattle.std.specs.Prelude.{Result, Ok, Err}
use Rattle.verdict.specs.declared.Refusal.{Refusal}
use Rattle.verdict.specs.Verdict.{Verdict, clear, ◌⨟◌}
use Rattle.verdict.specs.Answer.{answer_of, Paper, answer_paper, paper_for, CountedPaper, answer_counted, counted_for}
use Rattle.verdict.proofs.Verdicts.{then_assoc}

-- what is told of an answer, by its two cases, is what is told of the verdict
told : {F P : Type 0} (of-answer : Result F Refusal → P) (of-verdict : Verdict → P) {figures : F} (v : Verdict)
    → of-answer (Ok figures) ≡ of-verdict clear → ((r : Refusal) → of-answer (Err r) ≡ of-verdict (Err r)) → of-answer (answer_of v figures) ≡ of-verdict v
told of-answer of-verdict (Ok _) a f = a
told of-answer of-verdict (Err r) a f = f r

-- so an answer's numbers are the verdict's, with a count and without, however they are told of it by its cases
module _ {F G : Type 0} {given : F} {figures zeros : G} where
  pub paper_told : (paper_of : Result F Refusal → Paper G) (v : Verdict)
      → paper_of (Ok given) ≡ answer_paper zeros (Ok figures) → ((r : Refusal) → paper_of (Err r) ≡ answer_paper zeros (Err r))
      → paper_of (answer_of v given) ≡ paper_for v figures zeros
  paper_told paper_of v a f = told paper_of (λ (u : Verdict). paper_for u figures zeros) v a f

  pub counted-told : (paper_of : Result F Refusal → CountedPaper G) (v : Verdict)
      → paper_of (Ok given) ≡ answer_counted zeros (Ok figures) → ((r : Refusal) → paper_of (Err r) ≡ answer_counted zeros (Err r))
      → paper_of (answer_of v given) ≡ counted_for v figures zeros
  counted-told paper_of v a f = told paper_of (λ (u : Verdict). counted_for u figures zeros) v a f

-- and as every call tells them
module _ {F : Type 0} (zeros figures : F) (v : Verdict) where
  pub paper_is_told : answer_paper zeros (answer_of v figures) ≡ paper_for v figures zeros
  paper_is_told = paper_told (answer_paper zeros) v refl (λ r. refl)

  pub counted_is_told : answer_counted zeros (answer_of v figures) ≡ counted_for v figures zeros
  counted_is_told = counted-told (answer_counted zeros) v refl (λ r. refl)

-- an answer that is no refusal was accepted
pub was_accepted : {F : Type 0} (v : Verdict) {figures told : F} → answer_of v figures ≡ Ok told → (v ≡ clear) × (figures ≡ told)
was_accepted (Ok _) e = (refl, cc)
was_accepted (Err r) e = absurd cc

-- two answers on one verdict are one where what it accepts is
pub answer_same : {F : Type 0} (v : Verdict) {a b : F} → (v ≡ clear → a ≡ b) → answer_of v a ≡ answer_of v b
answer_same (Ok _) e = rw (e refl) refl
answer_same (Err r) e = refl

-- an answer on two verdicts in turn is the first's, and where that is clear the second's
pub answer_then : {F : Type 0} (u v : Verdict) (a : F) → answer_of (u ⨟ v) a ≡ u ⨟ answer_of v a
answer_then u v a = then_assoc u v (Ok a)
