-- Document 02 j: what `shading_table` answers and leaves in the table.
use Rattle.std.specs.Prelude.{ℕ, List, length, Result}
use Rattle.laws.specs.Table.{tabulate}
use Rattle.verdict.specs.Verdict.{Verdict, clear, ◌⨟◌, refuse_if, if_clear}
use Rattle.verdict.specs.Answer.{answer_of, CountedPaper, answer_counted, counted_for, Nothing, nothing}
use Rattle.verdict.specs.declared.Refusal.{Refusal}
use Rattle.verdict.specs.declared.Refusal.TheVariants.{TooSmall}
use Rattle.window.specs.View.{seen, one}
use Rattle.refusals.specs.Judge.{frame_verdict}
use Rattle.plane.specs.Plane.{box_sum}
use Rattle.colour.specs.Centre.{too_small}
use Rattle.blocks.specs.Areas.{area_of, entries_of, entry_plane, entry_area, table_lengths}

-- a view summed over the area of entry e
unfoldable pub entry_sum : ℕ → ℕ → (ℕ → ℕ) → ℕ → ℕ
entry_sum w h view e = box_sum w h (entry_plane w h e) (area_of w h (entry_area w h e)) view

-- and so for each entry of a table
abbrev pub entry_sums : ℕ → ℕ → (ℕ → ℕ) → List ℕ
entry_sums w h view = tabulate (entries_of w h) (entry_sum w h view)

-- the refusals in their order: 1, 2, 4 (of the table too), 5, 6, then 9
unfoldable pub table_verdict : ℕ → ℕ → ℕ → List ℕ → List ℕ → ℕ → ℕ → Verdict
table_verdict w h full mask frame totals counts =
    frame_verdict w h full clear mask frame (table_lengths w h totals counts)
    ⨟ refuse_if TooSmall (too_small w h)

-- the answer: done, or the refusal
unfoldable pub table_answer : ℕ → ℕ → ℕ → List ℕ → List ℕ → ℕ → ℕ → Result Nothing Refusal
table_answer w h full mask frame totals counts =
    answer_of (table_verdict w h full mask frame totals counts) nothing

-- the paper's numbers of an answer
abbrev pub paper_of : Result Nothing Refusal → CountedPaper Nothing
paper_of = answer_counted nothing

-- the paper's numbers for all inputs
unfoldable pub table_paper : ℕ → ℕ → ℕ → List ℕ → List ℕ → ℕ → ℕ → CountedPaper Nothing
table_paper w h full mask frame totals counts =
    counted_for (table_verdict w h full mask frame totals counts) nothing nothing

-- the totals afterwards: of each area's surveyed samples the sum; or all as they were
unfoldable pub table_totals : ℕ → ℕ → ℕ → List ℕ → List ℕ → List ℕ → List ℕ → List ℕ
table_totals w h full mask frame totals counts =
    if_clear (table_verdict w h full mask frame (length totals) (length counts)) (entry_sums w h (seen mask frame)) totals

-- the counts afterwards: how many sites of each area are surveyed; likewise
unfoldable pub table_counts : ℕ → ℕ → ℕ → List ℕ → List ℕ → List ℕ → List ℕ → List ℕ
table_counts w h full mask frame totals counts =
    if_clear (table_verdict w h full mask frame (length totals) (length counts)) (entry_sums w h (one mask)) counts
