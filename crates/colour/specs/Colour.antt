-- Document 01, "Colour ratios": what `colour_ratios` answers.
use Rattle.std.specs.Prelude.{ℕ, ◌*◌, Bool, not, List, ltb, ℤ, pos, nat_abs, ◌*ℤ◌, Result}
use Rattle.std.specs.Int.Signed.{lt_z}
use Rattle.laws.specs.Signed.{◌⊖◌}
use Rattle.verdict.specs.Verdict.{Verdict, clear, ◌⨟◌, refuse_if}
use Rattle.verdict.specs.Answer.{answer_of, CountedPaper, answer_counted, counted_for}
use Rattle.verdict.specs.declared.Refusal.{Refusal}
use Rattle.verdict.specs.declared.Refusal.TheVariants.{Parameter, TooFew, TooSmall, TooDark}
use Rattle.window.specs.View.{seen, one}
use Rattle.refusals.specs.Judge.{frame_verdict}
use Rattle.plane.specs.declared.Sums.{Sums}
use Rattle.colour.specs.Bayer.{centres_of}
use Rattle.colour.specs.Centre.{too_small, centre_sums, some_empty}
use Rattle.colour.specs.Mosaic.{Centres}
use Rattle.colour.specs.declared.Ratio.{Ratio}
use Rattle.colour.specs.declared.Colours.{Colours}

-- T: the sum of sample − black level over the surveyed sites
unfoldable pub above_black : ℕ → Sums → ℤ
above_black black shown = shown.total ⊖ black * shown.count

-- 10: a total is not above 0
unfoldable pub not_above : ℤ → Bool
not_above total = not (lt_z (pos 0) total)

abbrev pub ratio : ℤ → ℕ → Ratio
ratio numerator denominator = record { numerator = numerator; denominator = denominator }

-- R/Gr = T(R) × c(Gr) over T(Gr) × c(R), and so B/Gr and Gb/Gr; after 10 T(Gr) is above 0, so its size is T(Gr) itself (law `sound_r`)
unfoldable pub ratio_of : ℕ → Sums → Sums → Ratio
ratio_of black colour gr =
    ratio (above_black black colour *ℤ pos gr.count) (nat_abs (above_black black gr *ℤ pos colour.count))

-- what is seen in the four centres
abbrev pub centres_seen : ℕ → ℕ → ℕ → List ℕ → List ℕ → Centres
centres_seen w h order mask frame = centres_of order (centre_sums w h (seen mask frame) (one mask))

-- the refusals in their order: 1 to 6, 3 of the black level and of the Bayer order
unfoldable pub lent_verdict : ℕ → ℕ → ℕ → ℕ → ℕ → List ℕ → List ℕ → Verdict
lent_verdict w h full black order mask frame =
    frame_verdict w h full (refuse_if Parameter (ltb full black) ⨟ refuse_if Parameter (ltb 3 order)) mask frame clear

-- then those of the centres, 9 before 7
abbrev pub centres_verdict : ℕ → ℕ → ℕ → Centres → Verdict
centres_verdict w h black shown =
    refuse_if TooSmall (too_small w h)
    ⨟ refuse_if TooFew (some_empty shown)
    ⨟ refuse_if TooDark (not_above (above_black black shown.gr))

unfoldable pub colour_verdict : ℕ → ℕ → ℕ → ℕ → ℕ → List ℕ → List ℕ → Verdict
colour_verdict w h full black order mask frame =
    lent_verdict w h full black order mask frame ⨟ centres_verdict w h black (centres_seen w h order mask frame)

-- R, B and Gb over Gr, unreduced
abbrev pub figures : Ratio → Ratio → Ratio → Colours
figures r b gb = record { r = r; b = b; gb = gb }

-- every number 0: what stands beside a refusal
abbrev pub no_ratio : Ratio
no_ratio = ratio (pos 0) 0

abbrev pub no_figures : Colours
no_figures = figures no_ratio no_ratio no_ratio

-- of what is seen in the four centres
abbrev pub colour_figures : ℕ → Centres → Colours
colour_figures black shown =
    figures (ratio_of black shown.r shown.gr) (ratio_of black shown.b shown.gr) (ratio_of black shown.gb shown.gr)

-- the answer: the figures, or the refusal
unfoldable pub colour_answer : ℕ → ℕ → ℕ → ℕ → ℕ → List ℕ → List ℕ → Result Colours Refusal
colour_answer w h full black order mask frame =
    answer_of (colour_verdict w h full black order mask frame) (colour_figures black (centres_seen w h order mask frame))

-- the paper's numbers of an answer
abbrev pub paper_of : Result Colours Refusal → CountedPaper Colours
paper_of = answer_counted no_figures

-- the paper's numbers for all inputs
unfoldable pub colour_paper : ℕ → ℕ → ℕ → ℕ → ℕ → List ℕ → List ℕ → CountedPaper Colours
colour_paper w h full black order mask frame =
    counted_for (colour_verdict w h full black order mask frame) (colour_figures black (centres_seen w h order mask frame)) no_figures
