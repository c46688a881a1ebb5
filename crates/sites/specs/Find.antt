-- Document 01, "Defective sites", as document 02 g amends it: what `find_defects` answers and leaves in the lent mask.
use Rattle.std.specs.Prelude.{ℕ, ◌*◌, Bool, cond, List, eqb, ltb, leb, length, get_or, Result}
use Rattle.laws.specs.Signed.{apart}
use Rattle.laws.specs.Sum.{sum_to}
use Rattle.laws.specs.Table.{tabulate}
use Rattle.verdict.specs.Verdict.{Verdict, refuse_if, if_clear}
use Rattle.verdict.specs.Answer.{answer_of, CountedPaper, answer_counted, counted_for}
use Rattle.verdict.specs.declared.Refusal.{Refusal}
use Rattle.verdict.specs.declared.Refusal.TheVariants.{Parameter}
use Rattle.window.specs.Shape.{sites_of}
use Rattle.window.specs.View.{defect, seen_at, seen, one}
use Rattle.refusals.specs.Judge.{length_of, frame_verdict}
use Rattle.near.specs.Near.{near_sum}

-- document 02 g: "Threshold 0 shall stand for 24"
abbrev pub default_threshold : ℕ
default_threshold = 24

-- the default for 0, any other threshold as it is
unfoldable pub used_threshold : ℕ → ℕ
used_threshold t = cond (eqb t 0) default_threshold t

-- |p × c − S| ≥ t × c
unfoldable pub far : ℕ → ℕ → ℕ → ℕ → Bool
far t p c s = leb (t * c) (apart (p * c) s)

-- 1 at a surveyed site that is far from the 31 × 31 sites of its plane around it, 0 at any other
unfoldable pub found_at : ℕ → ℕ → ℕ → List ℕ → (ℕ → ℕ) → ℕ → ℕ
unfolding far
found_at w h t mask view i =
    seen_at (get_or mask i 0) (cond (far t (view i) (near_sum 15 w h (one mask) i) (near_sum 15 w h view i)) 1 0)

-- "newly found become 2, all others are copied"
abbrev pub marked : ℕ → ℕ → ℕ
marked code found = cond (eqb found 0) code defect

unfoldable pub marked_at : ℕ → ℕ → ℕ → List ℕ → (ℕ → ℕ) → ℕ → ℕ
marked_at w h t mask view i = marked (get_or mask i 0) (found_at w h t mask view i)

-- the count of newly found sites
unfoldable pub found_count : ℕ → ℕ → ℕ → List ℕ → (ℕ → ℕ) → ℕ
found_count w h t mask view = sum_to (sites_of w h) (found_at w h t mask view)

-- the refusals in their order, of the mask, the frame and the length of the mask that is written: 1 to 6, 3 of the threshold
unfoldable pub find_verdict : ℕ → ℕ → ℕ → ℕ → List ℕ → List ℕ → ℕ → Verdict
find_verdict w h full t mask frame out =
    frame_verdict w h full (refuse_if Parameter (ltb 4095 t)) mask frame (length_of w h out)

-- the answer: the count, or the refusal
unfoldable pub find_answer : ℕ → ℕ → ℕ → ℕ → List ℕ → List ℕ → ℕ → Result ℕ Refusal
find_answer w h full t mask frame out =
    answer_of (find_verdict w h full t mask frame out) (found_count w h (used_threshold t) mask (seen mask frame))

-- the paper's numbers of an answer
abbrev pub find_paper_of : Result ℕ Refusal → CountedPaper ℕ
find_paper_of = answer_counted 0

-- the paper's numbers for all inputs
unfoldable pub find_paper : ℕ → ℕ → ℕ → ℕ → List ℕ → List ℕ → ℕ → CountedPaper ℕ
find_paper w h full t mask frame out =
    counted_for (find_verdict w h full t mask frame out) (found_count w h (used_threshold t) mask (seen mask frame)) 0

-- the output mask afterwards, or as it was
unfoldable pub find_mask : ℕ → ℕ → ℕ → ℕ → List ℕ → List ℕ → List ℕ → List ℕ
find_mask w h full t mask frame out =
    if_clear (find_verdict w h full t mask frame (length out)) (tabulate (sites_of w h) (marked_at w h (used_threshold t) mask (seen mask frame))) out
