-- Document 01, "Refusal numbers", as document 02 d amends 6: the tests that calls share.
use Rattle.std.specs.Prelude.{ℕ, ◌+◌, Bool, not, List, [], ◌∷◌, Result, Ok, Err, eqb, length}
use Rattle.laws.specs.First.{count_to}
use Rattle.verdict.specs.Verdict.{Verdict, clear, ◌⨟◌, refuse_if, refuse_first}
use Rattle.verdict.specs.declared.Refusal.{Refusal}
use Rattle.verdict.specs.declared.Refusal.TheVariants.{Sides, FullScale, Length, Code, Over}
use Rattle.window.specs.Shape.{bad_sides, bad_scale, sites_of}
use Rattle.window.specs.View.{bad_code, above, seen}

-- a length, or a tag, is not exactly the one needed
abbrev pub other_than : ℕ → ℕ → Bool
other_than needed long = not (eqb long needed)

-- how many samples are above full scale, over n sites of each view: what 6 counts (document 02, d)
unfoldable pub over_in : ℕ → ℕ → List (ℕ → ℕ) → ℕ
over_in n full [] = 0
over_in n full (view ∷ views) = count_to n (above full view) + over_in n full views

-- 1 to 6 in a caller's own refusals, of type R: `told` says which it has for each of the table's
module _ {R : Type 0} (told : Refusal → R) where
  -- a verdict of the table's, in them
  abbrev pub told_by : Verdict → Result (Unit {0}) R
  told_by (Ok u) = Ok u
  told_by (Err r) = Err (told r)

  -- 1: a side is odd or not in 2..128; 2: full scale not in 1..4095
  unfoldable pub shape_by : ℕ → ℕ → ℕ → Result (Unit {0}) R
  shape_by w h full = refuse_if (told Sides) (bad_sides w h) ⨟ refuse_if (told FullScale) (bad_scale full)

  -- 4, of a buffer that is to have one element for each site
  abbrev pub length_by : ℕ → ℕ → ℕ → Result (Unit {0}) R
  length_by w h long = refuse_if (told Length) (other_than (sites_of w h) long)

  -- 5: a mask code is above 3, at the first such site of n
  abbrev pub codes_by : ℕ → List ℕ → Result (Unit {0}) R
  codes_by n mask = refuse_first (λ (site : ℕ). told (Code site)) n (bad_code mask)

  -- 6, of one view: what is seen at a site is above full scale, at the first such site of n; `over` is the call's count
  abbrev pub samples_by : ℕ → ℕ → ℕ → (ℕ → ℕ) → Result (Unit {0}) R
  samples_by over n full view = refuse_first (λ (site : ℕ). told (Over site over)) n (above full view)

  -- 6, of views in turn
  unfoldable pub samples_in_by : ℕ → ℕ → ℕ → List (ℕ → ℕ) → Result (Unit {0}) R
  samples_in_by over n full [] = Ok tt
  samples_in_by over n full (view ∷ views) = samples_by over n full view ⨟ samples_in_by over n full views

  -- 6, of all frames of a call, each as it is seen: the place is the first, frame after frame, and the count is over all of them
  abbrev pub range_by : ℕ → ℕ → ℕ → List (ℕ → ℕ) → Result (Unit {0}) R
  range_by w h full views = samples_in_by (over_in (sites_of w h) full views) (sites_of w h) full views

  -- 1 to 5 of a call with a mask, which hands in verdicts of its own: parameters, its 3, and lengths, its 4 of other buffers; `clear` for none
  unfoldable pub mask_verdict_by : ℕ → ℕ → ℕ → Result (Unit {0}) R → List ℕ → Result (Unit {0}) R → Result (Unit {0}) R
  mask_verdict_by w h full parameters mask lengths =
      shape_by w h full
      ⨟ parameters
      ⨟ length_by w h (length mask)
      ⨟ lengths
      ⨟ codes_by (sites_of w h) mask

  -- 1 to 6 of a call with a mask and a frame
  unfoldable pub frame_verdict_by : ℕ → ℕ → ℕ → Result (Unit {0}) R → List ℕ → List ℕ → Result (Unit {0}) R → Result (Unit {0}) R
  frame_verdict_by w h full parameters mask frame lengths =
      mask_verdict_by w h full parameters mask (length_by w h (length frame) ⨟ lengths)
      ⨟ range_by w h full (seen mask frame ∷ [])

-- the same in the table's own refusals, as all calls have them
abbrev pub shape_of : ℕ → ℕ → ℕ → Verdict
shape_of = shape_by (λ r. r)

abbrev pub length_of : ℕ → ℕ → ℕ → Verdict
length_of = length_by (λ r. r)

abbrev pub codes_of : ℕ → List ℕ → Verdict
codes_of = codes_by (λ r. r)

abbrev pub samples_of : ℕ → ℕ → ℕ → (ℕ → ℕ) → Verdict
samples_of = samples_by (λ r. r)

abbrev pub samples_in : ℕ → ℕ → ℕ → List (ℕ → ℕ) → Verdict
samples_in = samples_in_by (λ r. r)

abbrev pub range_of : ℕ → ℕ → ℕ → List (ℕ → ℕ) → Verdict
range_of = range_by (λ r. r)

abbrev pub mask_verdict : ℕ → ℕ → ℕ → Verdict → List ℕ → Verdict → Verdict
mask_verdict = mask_verdict_by (λ r. r)

abbrev pub frame_verdict : ℕ → ℕ → ℕ → Verdict → List ℕ → List ℕ → Verdict → Verdict
frame_verdict = frame_verdict_by (λ r. r)

-- 1 to 6 of a call with a mask and two frames, and no test of its own among them
unfoldable pub frames_verdict : ℕ → ℕ → ℕ → List ℕ → List ℕ → List ℕ → Verdict
frames_verdict w h full mask first second =
    mask_verdict w h full clear mask (length_of w h (length first) ⨟ length_of w h (length second))
    ⨟ range_of w h full (seen mask first ∷ seen mask second ∷ [])
