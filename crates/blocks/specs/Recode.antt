-- Document 02 j: what `shading_recode` answers and leaves in the mask and the table.
use Rattle.std.specs.Prelude.{ℕ, ◌+◌, ◌-◌, ◌^◌, ◌%◌, Bool, cond, ◌&&◌, ◌||◌, List, eqb, ltb, leb, length, Result}
use Rattle.laws.specs.Table.{held, tabulate}
use Rattle.verdict.specs.Verdict.{Verdict, ◌⨟◌, refuse_if, if_clear}
use Rattle.verdict.specs.Answer.{answer_of, CountedPaper, counted_for, Nothing, nothing}
use Rattle.verdict.specs.declared.Refusal.{Refusal}
use Rattle.verdict.specs.declared.Refusal.TheVariants.{Parameter, Code, Over, TooSmall}
use Rattle.window.specs.Shape.{sites_of}
use Rattle.window.specs.View.{surveyed, seen_at}
use Rattle.refusals.specs.Judge.{shape_of, length_of}
use Rattle.colour.specs.Centre.{too_small}
use Rattle.blocks.specs.Areas.{lies_in, table_lengths}

-- 5: the old or the new code is above 3
unfoldable pub bad_codes : ℕ → ℕ → Bool
bad_codes old new = ltb 3 old || ltb 3 new

-- for this call a site counts as surveyed when its old or its new code is 0
abbrev pub either_surveyed : ℕ → ℕ → Bool
either_surveyed old new = surveyed old || surveyed new

-- 6: such a site's sample is above full scale
unfoldable pub over_either : ℕ → ℕ → ℕ → ℕ → Bool
over_either full old new sample = either_surveyed old new && ltb full sample

-- 5 and 6 of the site, both with the site as place; 6 counts one sample
abbrev pub site_verdict : ℕ → ℕ → ℕ → ℕ → ℕ → Verdict
site_verdict full site old new sample =
    refuse_if (Code site) (bad_codes old new) ⨟ refuse_if (Over site 1) (over_either full old new sample)

-- the refusals in their order: 1, 2, 3 of a site outside the window, 4 to 6, then 9
unfoldable pub recode_verdict : ℕ → ℕ → ℕ → ℕ → ℕ → List ℕ → List ℕ → ℕ → ℕ → Verdict
recode_verdict w h full site code mask frame totals counts =
    shape_of w h full
    ⨟ refuse_if Parameter (leb (sites_of w h) site)
    ⨟ length_of w h (length mask)
    ⨟ length_of w h (length frame)
    ⨟ table_lengths w h totals counts
    ⨟ site_verdict full site (held mask site) code (held frame site)
    ⨟ refuse_if TooSmall (too_small w h)

unfoldable pub recode_answer : ℕ → ℕ → ℕ → ℕ → ℕ → List ℕ → List ℕ → ℕ → ℕ → Result Nothing Refusal
recode_answer w h full site code mask frame totals counts =
    answer_of (recode_verdict w h full site code mask frame totals counts) nothing

-- the paper's numbers for all inputs
unfoldable pub recode_paper : ℕ → ℕ → ℕ → ℕ → ℕ → List ℕ → List ℕ → ℕ → ℕ → CountedPaper Nothing
recode_paper w h full site code mask frame totals counts =
    counted_for (recode_verdict w h full site code mask frame totals counts) nothing nothing

-- a mask with one site's code changed
unfoldable pub recoded : ℕ → ℕ → List ℕ → List ℕ
recoded site code mask = tabulate (length mask) (λ (i : ℕ). cond (eqb i site) code (held mask i))

-- an entry with what the new code shows in place of what the old one showed, modulo 2^32
unfoldable pub amend : ℕ → ℕ → ℕ → ℕ
amend old new entry = (entry + 2 ^ 32 + new - old) % 2 ^ 32

-- entries, of which those are amended in whose areas the site lies
unfoldable pub amended : ℕ → ℕ → ℕ → ℕ → ℕ → List ℕ → List ℕ
amended w h site old new entries =
    tabulate (length entries) (λ (e : ℕ). cond (lies_in w h site e) (amend old new (held entries e)) (held entries e))

-- totals amended by the sample, and counts by 1, each as it is seen under the new code in place of what was seen under the old one
abbrev pub amended_totals : ℕ → ℕ → ℕ → ℕ → List ℕ → List ℕ → List ℕ → List ℕ
amended_totals w h site code mask frame totals =
    amended w h site (seen_at (held mask site) (held frame site)) (seen_at code (held frame site)) totals

abbrev pub amended_counts : ℕ → ℕ → ℕ → ℕ → List ℕ → List ℕ → List ℕ
amended_counts w h site code mask counts = amended w h site (seen_at (held mask site) 1) (seen_at code 1) counts

-- the mask afterwards: the new code at the site; or all as it was
unfoldable pub recode_mask : ℕ → ℕ → ℕ → ℕ → ℕ → List ℕ → List ℕ → ℕ → ℕ → List ℕ
recode_mask w h full site code mask frame totals counts =
    if_clear (recode_verdict w h full site code mask frame totals counts) (recoded site code mask) mask

-- the totals afterwards, amended; or all as they were
unfoldable pub recode_totals : ℕ → ℕ → ℕ → ℕ → ℕ → List ℕ → List ℕ → List ℕ → List ℕ → List ℕ
recode_totals w h full site code mask frame totals counts =
    if_clear (recode_verdict w h full site code mask frame (length totals) (length counts))
    (amended_totals w h site code mask frame totals)
    totals

-- the counts afterwards, likewise
unfoldable pub recode_counts : ℕ → ℕ → ℕ → ℕ → ℕ → List ℕ → List ℕ → List ℕ → List ℕ → List ℕ
recode_counts w h full site code mask frame totals counts =
    if_clear (recode_verdict w h full site code mask frame (length totals) (length counts))
    (amended_counts w h site code mask counts)
    counts
