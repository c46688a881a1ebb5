-- Document 01, "Repair": what `repair` answers and leaves in the lent frame and mask.
use Rattle.std.specs.Prelude.{ℕ, ◌+◌, ◌*◌, ◌/◌, cond, List, eqb, ltb, length, get_or, Result}
use Rattle.laws.specs.Sum.{sum_to}
use Rattle.laws.specs.Table.{tabulate}
use Rattle.verdict.specs.Verdict.{Verdict, clear, ◌⨟◌, if_clear}
use Rattle.verdict.specs.Answer.{answer_of, CountedPaper, answer_counted, counted_for}
use Rattle.verdict.specs.declared.Refusal.{Refusal}
use Rattle.window.specs.Shape.{sites_of}
use Rattle.window.specs.View.{defect, filled, one, seen}
use Rattle.refusals.specs.Judge.{length_of, frame_verdict}
use Rattle.near.specs.Near.{near_sum}

-- the surveyed sites among the eight plane neighbours of a site of code 2, which is not surveyed itself
abbrev pub neighbours : ℕ → ℕ → List ℕ → ℕ → ℕ
neighbours w h mask i = near_sum 1 w h (one mask) i

-- s / c, half rounded up
unfoldable pub mean_of : ℕ → ℕ → ℕ
mean_of s c = (2 * s + c) / (2 * c)

-- 1 at a site of code 2 with at least one surveyed neighbour, 0 at any other
unfoldable pub filled_at : ℕ → ℕ → List ℕ → ℕ → ℕ
filled_at w h mask i = cond (eqb (get_or mask i 0) defect) (cond (ltb 0 (neighbours w h mask i)) 1 0) 0

-- a filled site gets the mean of its surveyed neighbours; any other keeps its sample
unfoldable pub sample_after : ℕ → ℕ → List ℕ → (ℕ → ℕ) → List ℕ → ℕ → ℕ
unfolding mean_of
sample_after w h mask view frame i =
    cond (eqb (filled_at w h mask i) 0) (get_or frame i 0) (mean_of (near_sum 1 w h view i) (neighbours w h mask i))

-- and code 3; any other keeps its code
unfoldable pub code_after : ℕ → ℕ → List ℕ → ℕ → ℕ
code_after w h mask i = cond (eqb (filled_at w h mask i) 0) (get_or mask i 0) filled

-- how many are filled
unfoldable pub filled_count : ℕ → ℕ → List ℕ → ℕ
filled_count w h mask = sum_to (sites_of w h) (filled_at w h mask)

-- the refusals in their order, of the mask, the frame and the lengths of the two buffers that are written: 1, 2, 4, 5, 6
unfoldable pub repair_verdict : ℕ → ℕ → ℕ → List ℕ → List ℕ → ℕ → ℕ → Verdict
repair_verdict w h full mask frame out_frame out_mask =
    frame_verdict w h full clear mask frame (length_of w h out_frame ⨟ length_of w h out_mask)

-- the answer: the count, or the refusal
unfoldable pub repair_answer : ℕ → ℕ → ℕ → List ℕ → List ℕ → ℕ → ℕ → Result ℕ Refusal
repair_answer w h full mask frame out_frame out_mask =
    answer_of (repair_verdict w h full mask frame out_frame out_mask) (filled_count w h mask)

-- the paper's numbers of an answer
abbrev pub repair_paper_of : Result ℕ Refusal → CountedPaper ℕ
repair_paper_of = answer_counted 0

-- the paper's numbers for all inputs
unfoldable pub repair_paper : ℕ → ℕ → ℕ → List ℕ → List ℕ → ℕ → ℕ → CountedPaper ℕ
repair_paper w h full mask frame out_frame out_mask =
    counted_for (repair_verdict w h full mask frame out_frame out_mask) (filled_count w h mask) 0

-- the output frame and the output mask afterwards, or as they were
unfoldable pub repair_frame : ℕ → ℕ → ℕ → List ℕ → List ℕ → List ℕ → ℕ → List ℕ
repair_frame w h full mask frame out_frame out_mask =
    if_clear (repair_verdict w h full mask frame (length out_frame) out_mask)
    (tabulate (sites_of w h) (sample_after w h mask (seen mask frame) frame))
    out_frame

unfoldable pub repair_mask : ℕ → ℕ → ℕ → List ℕ → List ℕ → ℕ → List ℕ → List ℕ
repair_mask w h full mask frame out_frame out_mask =
    if_clear (repair_verdict w h full mask frame out_frame (length out_mask)) (tabulate (sites_of w h) (code_after w h mask)) out_mask
