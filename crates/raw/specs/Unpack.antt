-- Document 01, "RAW10": what `unpack_raw10` answers and leaves in the lent buffer.
use Rattle.std.specs.Prelude.{ℕ, List, length, Result}
use Rattle.laws.specs.Table.{tabulate}
use Rattle.verdict.specs.Verdict.{Verdict, ◌⨟◌, refuse_if, if_clear}
use Rattle.verdict.specs.Answer.{answer_of, Paper, answer_paper, paper_for, Nothing, nothing}
use Rattle.verdict.specs.declared.Refusal.{Refusal}
use Rattle.verdict.specs.declared.Refusal.TheVariants.{Sides, Length}
use Rattle.window.specs.Shape.{bad_sides, sites_of}
use Rattle.refusals.specs.Judge.{other_than, length_of}
use Rattle.raw.specs.Packed.{sample10, length10}

-- the refusals in their order, of the lengths of the two buffers
unfoldable pub unpack_verdict : ℕ → ℕ → ℕ → ℕ → Verdict
unpack_verdict w h bytes out =
    refuse_if Sides (bad_sides w h)
    ⨟ refuse_if Length (other_than (length10 (sites_of w h)) bytes)
    ⨟ length_of w h out

-- the answer: done, or the refusal
unfoldable pub unpack_answer : ℕ → ℕ → ℕ → ℕ → Result Nothing Refusal
unpack_answer w h bytes out = answer_of (unpack_verdict w h bytes out) nothing

-- the paper's numbers of an answer
abbrev pub paper_of : Result Nothing Refusal → Paper Nothing
paper_of = answer_paper nothing

-- the paper's numbers for all inputs
unfoldable pub unpack_paper : ℕ → ℕ → ℕ → ℕ → Paper Nothing
unpack_paper w h bytes out = paper_for (unpack_verdict w h bytes out) nothing nothing

-- the buffer `out` afterwards: every sample, or all as it was
unfoldable pub unpack_buffer : ℕ → ℕ → List ℕ → List ℕ → List ℕ
unpack_buffer w h bytes out =
    if_clear (unpack_verdict w h (length bytes) (length out)) (tabulate (length out) (sample10 bytes)) out
