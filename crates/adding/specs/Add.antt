-- Document 01, "Stack", as document 02 i amends it: what `stack_add` answers and leaves.
use Rattle.std.specs.Prelude.{ℕ, ◌+◌, List, eqb, ltb, Result}
use Rattle.verdict.specs.declared.Refusal.{Refusal}
use Rattle.verdict.specs.Verdict.{Verdict, ◌⨟◌, refuse_if, if_clear}
use Rattle.verdict.specs.Answer.{answer_of, CountedPaper, answer_counted, counted_for}
use Rattle.verdict.specs.declared.Refusal.TheVariants.{Parameter, Impossible, StackFull}
use Rattle.window.specs.Shape.{sites_of}
use Rattle.refusals.specs.Judge.{frame_verdict}
use Rattle.stack.specs.State.{Stack, stack_lengths, impossible_in}
use Rattle.adding.specs.After.{with_frame}

-- the refusals in their order: 1 to 6, 3 of the count, 4 of the stack's buffers too, then 11 and 12
unfoldable pub add_verdict : ℕ → ℕ → ℕ → List ℕ → List ℕ → Stack → Verdict
add_verdict w h full mask frame s =
    frame_verdict w h full (refuse_if Parameter (ltb 100 s.frames)) mask frame (stack_lengths w h s)
    ⨟ refuse_if Impossible (impossible_in (sites_of w h) full mask s)
    ⨟ refuse_if StackFull (eqb s.frames 100)

-- the answer: k + 1, or the refusal
unfoldable pub add_answer : ℕ → ℕ → ℕ → List ℕ → List ℕ → Stack → Result ℕ Refusal
add_answer w h full mask frame s = answer_of (add_verdict w h full mask frame s) (s.frames + 1)

-- the paper's numbers of an answer
abbrev pub add_paper_of : Result ℕ Refusal → CountedPaper ℕ
add_paper_of = answer_counted 0

-- the paper's numbers for all inputs
unfoldable pub add_paper : ℕ → ℕ → ℕ → List ℕ → List ℕ → Stack → CountedPaper ℕ
add_paper w h full mask frame s = counted_for (add_verdict w h full mask frame s) (s.frames + 1) 0

-- the stack afterwards, its caller counting up where the call accepts: with the frame, or as it was
unfoldable pub add_stack : ℕ → ℕ → ℕ → List ℕ → List ℕ → Stack → Stack
add_stack w h full mask frame s = if_clear (add_verdict w h full mask frame s) (with_frame mask frame s) s
