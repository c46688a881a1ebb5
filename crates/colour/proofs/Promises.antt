-- What is promised of `colour_ratios`, for any sides, full scale, black level, Bayer order, mask and frame.
use Prim.Native.Nat.{ℕ, ◌+◌, ◌/◌, ◌≤◌, ◌<◌}
use mathlib.Core.Bool.{Bool, true, false, cond}
use mathlib.Core.List.{List}
use mathlib.Core.Path.{◌≡◌, refl}
use native.Mathlib.Omega.{arith}
use lib.Dec.{eqb}
use lib.ListN.{length, get_or}
use Rattle.laws.specs.First.{count_to}
use Rattle.laws.proofs.Sole.{Sole, sole}
use Rattle.std.specs.Prelude.{Ok}
use Rattle.verdict.proofs.Verdicts.{Tabled, RefusesCounting, refuses_counting}
use Rattle.verdict.proofs.Answers.{counted_is_told}
use Rattle.window.specs.Shape.{sites_of}
use Rattle.window.specs.View.{surveyed, seen, one, above}
use Rattle.window.proofs.Views.{Agree, same_view}
use Rattle.refusals.specs.Judge.{frame_verdict_by}
use Rattle.refusals.proofs.Ranges.{one_counting}
use Rattle.plane.specs.Plane.{row_parity, column_parity}
use Rattle.colour.specs.Bayer.{mosaic, mosaic_of}
use Rattle.colour.specs.Centre.{centre_of}
use Rattle.colour.specs.Colour.{centres_seen, lent_verdict, colour_verdict, figures, no_figures, colour_figures, colour_answer, paper_of, colour_paper}
use Rattle.colour.specs.Mosaic.{Mosaic}
use Rattle.colour.specs.declared.Ratio.{Ratio}
use Rattle.colour.proofs.Judged.{tests, table, Accepted, accepted, answer_is}
use Rattle.colour.proofs.Outside.{Quiet, InCentre, seen_alike}
use Rattle.colour.proofs.Raised.{lifted_alike}
use Rattle.colour.proofs.Figures.{Sound, sound}

module _ (w h full black order : ℕ) (mask frame : List ℕ) where
  -- only: no second answer meets the promise
  pub only : Sole (colour_answer w h full black order mask frame)
  only = sole _

  -- the paper's numbers are those of the answer
  pub paper_is : paper_of (colour_answer w h full black order mask frame) ≡ colour_paper w h full black order mask frame
  unfolding colour_answer colour_paper
  paper_is = counted_is_told no_figures (colour_figures black (centres_seen w h order mask frame)) (colour_verdict w h full black order mask frame)

  -- given: 1 to 6, 9, 7 and 10 exactly as document 01 tables them, in that order (`tests` has the table). 9 stands before 7:
  -- a window that is too small gets 9, even with no surveyed site
  pub given : Tabled (colour_verdict w h full black order mask frame) (tests w h full black order mask frame)
  given = table w h full black order mask frame

  -- refused: where the number is not 0 all six figures are 0, and where it is 0 so is the place. Where it is 6, over is at least 1 and just
  -- the count of surveyed samples above full scale; else it is 0
  pub refused : RefusesCounting (colour_paper w h full black order mask frame) (count_to (sites_of w h) (above full (seen mask frame)))
      ((colour_paper w h full black order mask frame).figures ≡ no_figures)
  unfolding colour_paper
  refused = refuses_counting (colour_verdict w h full black order mask frame) given refl refl (one_counting w h full (seen mask frame)) (λ r e. rw e)

  -- blind: what another frame holds at unsurveyed sites changes nothing, no count either
  pub blind : (other : List ℕ) → Agree mask frame other
      → colour_answer w h full black order mask frame ≡ colour_answer w h full black order mask other
  unfolding colour_answer colour_verdict lent_verdict frame_verdict_by
  blind other a = rw (a.long, same_view a)

  -- of an accepted call with these ratios
  module _ (r b gb : Ratio) (answer : colour_answer w h full black order mask frame ≡ Ok (figures r b gb)) where
    told : Accepted w h full black order mask frame
    told = accepted w h full black order mask frame (answer_is w h full black order mask frame r b gb answer).0

    -- sound: each is T × c(Gr) over T(Gr) × c, with a denominator above 0, and neither number is above 2,415,329,280
    pub sound_r : Sound black (centres_seen w h order mask frame).r (centres_seen w h order mask frame).gr r
    sound_r =
        rw (answer_is w h full black order mask frame r b gb answer).1.0
        (sound told.of.scale told.of.dark told.r told.gr told.bright)

    pub sound_b : Sound black (centres_seen w h order mask frame).b (centres_seen w h order mask frame).gr b
    sound_b =
        rw (answer_is w h full black order mask frame r b gb answer).1.1
        (sound told.of.scale told.of.dark told.b told.gr told.bright)

    pub sound_gb : Sound black (centres_seen w h order mask frame).gb (centres_seen w h order mask frame).gr gb
    sound_gb =
        rw (answer_is w h full black order mask frame r b gb answer).1.2
        (sound told.of.scale told.of.dark told.gb told.gr told.bright)

    -- inside: no centre is cut off, and what is left of a plane below and to the right is what is left above and to the left, or one more
    pub inside : ((centre_of w h).top + (centre_of w h).bottom ≤ h / 2) × (h / 2 ≤ (centre_of w h).top + (centre_of w h).bottom + 1)
        × ((centre_of w h).left + (centre_of w h).right ≤ w / 2) × (w / 2 ≤ (centre_of w h).left + (centre_of w h).right + 1)
    inside = (omega (arith, told.high), omega arith, omega (arith, told.wide), omega arith)

-- colours: the order names the colour at site (0,0)
pub corner : ((mosaic_of 0).r ≡ 0) × ((mosaic_of 1).gr ≡ 0) × ((mosaic_of 2).b ≡ 0) × ((mosaic_of 3).gb ≡ 0)
unfolding mosaic_of
corner = (refl, refl, refl, refl)

-- two planes that share their rows, side by side, and two that share neither rows nor columns
pub record Beside (one-plane another : ℕ) : Type 0 where
  pub rows : row_parity one-plane ≡ row_parity another
  pub columns : column_parity one-plane + column_parity another ≡ 1

pub record Across (one-plane another : ℕ) : Type 0 where
  pub rows : row_parity one-plane + row_parity another ≡ 1
  pub columns : column_parity one-plane + column_parity another ≡ 1

-- in every order Gr shares R's rows, Gb shares B's, and B lies across from R
pub record Bayer (planes : Mosaic) : Type 0 where
  pub r_gr : Beside planes.r planes.gr
  pub b-gb : Beside planes.b planes.gb
  pub r-b : Across planes.r planes.b

pub colours : (order : ℕ) → Bayer (mosaic_of order)
unfolding mosaic_of
colours order = by (eqb order 0) (eqb order 1) (eqb order 2)
  where
    four : (r gr b gb : ℕ) → Beside r gr → Beside b gb → Across r b → Bayer (mosaic r gr b gb)
    four r gr b gb p q s = record { r_gr = p; b-gb = q; r-b = s }

    by : (p q s : Bool) → Bayer (cond p (mosaic 0 1 3 2) (cond q (mosaic 1 0 2 3) (cond s (mosaic 3 2 0 1) (mosaic 2 3 1 0))))
    by true q s = four 0 1 3 2 (record { rows = refl; columns = refl }) (record { rows = refl; columns = refl }) (record { rows = refl; columns = refl })
    by false true s = four 1 0 2 3 (record { rows = refl; columns = refl }) (record { rows = refl; columns = refl }) (record { rows = refl; columns = refl })
    by false false true = four 3 2 0 1 (record { rows = refl; columns = refl }) (record { rows = refl; columns = refl }) (record { rows = refl; columns = refl })
    by false false false = four 2 3 1 0 (record { rows = refl; columns = refl }) (record { rows = refl; columns = refl }) (record { rows = refl; columns = refl })

-- outside: masks and frames that are seen alike in the four centres, and differ in any way outside them, get the same answer where
-- neither is refused with 5 or 6
pub outside : (w h full black order : ℕ) (mask frame mask' frame' : List ℕ) → length mask ≡ length mask' → length frame ≡ length frame'
    → ((i : ℕ) → InCentre w h i → (one mask i ≡ one mask' i) × (seen mask frame i ≡ seen mask' frame' i))
    → Quiet (colour_verdict w h full black order mask frame) → Quiet (colour_verdict w h full black order mask' frame')
    → colour_answer w h full black order mask frame ≡ colour_answer w h full black order mask' frame'
outside = seen_alike

-- raised: black level and every surveyed sample raised by the same amount, none above full scale, change nothing
pub raised : (w h full black order d : ℕ) (mask frame brighter : List ℕ) → length brighter ≡ length frame → black + d ≤ full
    → ((i : ℕ) → i < sites_of w h → surveyed (get_or mask i 0) ≡ true → (get_or brighter i 0 ≡ get_or frame i 0 + d) × (get_or brighter i 0 ≤ full))
    → colour_answer w h full (black + d) order mask brighter ≡ colour_answer w h full black order mask frame
raised = lifted_alike
