-- A black level and samples that are raised alike leave every T as it is, and so every test and every ratio.
use Prim.Native.Nat.{ℕ, ◌+◌, ◌*◌, ◌≤◌, ◌<◌}
use mathlib.Core.Bool.{true}
use mathlib.Core.List.{List, [], ◌∷◌}
use mathlib.Core.Path.{◌≡◌, refl, sym, ap, ◌∙◌}
use native.Mathlib.Omega.{arith}
use lib.ListN.{length, get_or}
use borrow.Author.Tests.{le-ltb}
use Rattle.laws.proofs.Sums.{Shifted}
use Rattle.verdict.specs.Verdict.{Verdict, ◌⨟◌}
use Rattle.verdict.proofs.Verdicts.{then_same}
use Rattle.verdict.proofs.Answers.{answer_same}
use Rattle.window.specs.Shape.{sites_of}
use Rattle.window.specs.View.{surveyed, seen, one}
use Rattle.window.proofs.Sides.{Sides}
use Rattle.window.proofs.Views.{seen_most, seen_shift}
use Rattle.refusals.specs.Judge.{range_of, frame_verdict_by}
use Rattle.refusals.proofs.Ranges.{none, more, clear_samples}
use Rattle.plane.specs.Plane.{site_at}
use Rattle.plane.proofs.Planes.{site_in, box_shifted}
use Rattle.colour.specs.Bayer.{mosaic_of}
use Rattle.colour.specs.Centre.{centre_of, centre_sums, some_empty}
use Rattle.colour.specs.Colour.{ratio_of, centres_seen, lent_verdict, centres_verdict, colour_verdict, colour_answer}
use Rattle.colour.proofs.Judged.{lent, accepted}
use Rattle.colour.proofs.Figures.{same_total, same-ratio}

module _ (w h full black order d : ℕ) (mask frame brighter : List ℕ) (long : length brighter ≡ length frame) (dark : black + d ≤ full)
    (each : (i : ℕ) → i < sites_of w h → surveyed (get_or mask i 0) ≡ true → (get_or brighter i 0 ≡ get_or frame i 0 + d) × (get_or brighter i 0 ≤ full)) where
  lifted : (i : ℕ) → i < sites_of w h → Shifted d 0 (one mask i) (seen mask frame i) (seen mask brighter i)
  lifted i l = seen_shift mask frame brighter d 0 i (λ t. omega (arith, (each i l t).0))

  -- the brighter frame has no surveyed sample above full scale
  in_scale : (i : ℕ) → i < sites_of w h → seen mask brighter i ≤ full
  in_scale i l = seen_most mask brighter full i (λ t. (each i l t).1)

  -- so neither has one, and neither gets 6
  range : range_of w h full (seen mask brighter ∷ []) ≡ range_of w h full (seen mask frame ∷ [])
  range =
      clear_samples _ _ _ (more in_scale none)
      ∙ sym (clear_samples _ _ _ (more (λ i l. omega (arith, lifted i l, in_scale i l)) none))

  module _ (legal : Sides w h) where
    totals : (plane : ℕ)
        → (centre_sums w h (seen mask brighter) (one mask) plane).total
        ≡ (centre_sums w h (seen mask frame) (one mask) plane).total + d * (centre_sums w h (seen mask frame) (one mask) plane).count
    totals plane =
        let shifted = box_shifted w h plane (centre_of w h) d 0 (one mask) (seen mask frame) (seen mask brighter)
        (λ u v p q. lifted (site_at w plane u v) (omega (arith, site_in w h plane u p v q, legal.sites))) in
        omega (arith, shifted)

    ratios : (plane : ℕ)
        → ratio_of (black + d) (centre_sums w h (seen mask brighter) (one mask) plane) (centres_seen w h order mask brighter).gr
        ≡ ratio_of black (centre_sums w h (seen mask frame) (one mask) plane) (centres_seen w h order mask frame).gr
    ratios plane = same-ratio black d _ _ _ _ refl (totals plane) refl (totals (mosaic_of order).gr)

  same_lent : lent_verdict w h full (black + d) order mask brighter ≡ lent_verdict w h full black order mask frame
  unfolding lent_verdict frame_verdict_by
  same_lent = rw (le-ltb full (black + d) dark, le-ltb full black (omega arith), long, range)

  same_verdict : colour_verdict w h full (black + d) order mask brighter ≡ colour_verdict w h full black order mask frame
  unfolding colour_verdict some_empty
  same_verdict =
      ap (λ (v : Verdict). v ⨟ centres_verdict w h (black + d) (centres_seen w h order mask brighter)) same_lent
      ∙ then_same (lent_verdict w h full black order mask frame)
      (λ c. rw (same_total black d _ _ refl (totals (lent w h full black order mask frame c).legal (mosaic_of order).gr)))

  pub lifted_alike : colour_answer w h full (black + d) order mask brighter ≡ colour_answer w h full black order mask frame
  unfolding colour_answer
  lifted_alike =
      rw same_verdict
      (answer_same (colour_verdict w h full black order mask frame)
      (λ e. let legal = (accepted w h full black order mask frame e).of.legal in
      rw (ratios legal (mosaic_of order).r, ratios legal (mosaic_of order).b, ratios legal (mosaic_of order).gb)))
