-- Document 01, "Defective rows and columns": what `defective_rows` and `defective_columns` answer and leave in the lent buffer, by one definition over the lines.
use Rattle.std.specs.Prelude.{ℕ, ◌*◌, List, ltb, length, Result}
use Rattle.laws.specs.Table.{tabulate}
use Rattle.verdict.specs.Verdict.{Verdict, clear, ◌⨟◌, refuse_if, if_clear}
use Rattle.verdict.specs.Answer.{answer_of, CountedPaper, answer_counted, counted_for, Nothing, nothing}
use Rattle.verdict.specs.declared.Refusal.{Refusal}
use Rattle.verdict.specs.declared.Refusal.TheVariants.{Length, TooSmall}
use Rattle.window.specs.View.{seen, one}
use Rattle.refusals.specs.Judge.{other_than, frame_verdict}
use Rattle.lines.specs.Lines.{Lines, mark_at}

-- one byte for each line of the four planes
abbrev pub marks_of : Lines → ℕ
marks_of lines = 4 * lines.count

-- the refusals in their order, for a buffer of so many marks: 1, 2, 4 to 6, then 9
unfoldable pub lines_verdict : (ℕ → ℕ → Lines) → ℕ → ℕ → ℕ → List ℕ → List ℕ → ℕ → Verdict
lines_verdict lines w h full mask frame marks =
    frame_verdict w h full clear mask frame (refuse_if Length (other_than (marks_of (lines w h)) marks))
    ⨟ refuse_if TooSmall (ltb (lines w h).count 9)

-- the answer: nothing but that it is done, or the refusal
unfoldable pub lines_answer : (ℕ → ℕ → Lines) → ℕ → ℕ → ℕ → List ℕ → List ℕ → ℕ → Result Nothing Refusal
lines_answer lines w h full mask frame marks = answer_of (lines_verdict lines w h full mask frame marks) nothing

-- the paper's numbers of an answer
abbrev pub paper_of : Result Nothing Refusal → CountedPaper Nothing
paper_of = answer_counted nothing

-- the paper's numbers for all inputs
unfoldable pub lines_paper : (ℕ → ℕ → Lines) → ℕ → ℕ → ℕ → List ℕ → List ℕ → ℕ → CountedPaper Nothing
lines_paper lines w h full mask frame marks = counted_for (lines_verdict lines w h full mask frame marks) nothing nothing

-- the buffer `marks` afterwards: every mark, or all as it was
unfoldable pub lines_buffer : (ℕ → ℕ → Lines) → ℕ → ℕ → ℕ → List ℕ → List ℕ → List ℕ → List ℕ
lines_buffer lines w h full mask frame marks =
    if_clear (lines_verdict lines w h full mask frame (length marks))
    (tabulate (length marks) (mark_at (lines w h) w h (one mask) (seen mask frame)))
    marks
