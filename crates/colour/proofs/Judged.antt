-- The verdict, what an accepted call has, and what the verdict makes of the answer.
use Prim.Native.Nat.{ℕ, ◌*◌, ◌/◌, ◌≤◌, ◌<◌}
use mathlib.Core.Bool.{false, ◌||◌}
use mathlib.Core.List.{List, [], ◌∷◌}
use mathlib.Core.Path.{◌≡◌, refl, sym, ap, ◌∙◌}
use native.Mathlib.Nat.{le_trans}
use native.Mathlib.Omega.{arith}
use lib.Dec.{eqb, ltb}
use lib.ListN.{length}
use borrow.Author.Tests.{ltb-false, eqb-false}
use Rattle.laws.proofs.Cases.{neither, times_le}
use Rattle.verdict.specs.Verdict.{clear}
use Rattle.verdict.specs.declared.Refusal.{Refusal}
use Rattle.verdict.specs.declared.Refusal.TheVariants as refusal
use Rattle.verdict.proofs.Verdicts.{Test, Tabled, test, tabled, tabled_none, tabled_then, then_clear, unless}
use Rattle.verdict.proofs.Answers.{was_accepted, counted_is_told}
use Rattle.verdict.specs.declared.Refusal.TheVariants.{FullScale, Parameter, Length, TooFew, TooSmall, TooDark}
use Rattle.std.specs.Prelude.{Result, Ok, Err}
use Rattle.window.specs.Shape.{bad_sides, bad_scale, sites_of}
use Rattle.window.specs.View.{seen, one}
use Rattle.window.proofs.Sides.{Sides, sides, scale}
use Rattle.refusals.specs.Judge.{other_than}
use Rattle.refusals.proofs.Ranges.{samples_test}
use Rattle.refusals.proofs.Judges.{codes_test, Framed, frame_clear, frame_tabled}
use Rattle.plane.specs.Plane.{box_sums}
use Rattle.plane.specs.declared.Sums.{Sums}
use Rattle.colour.specs.Bayer.{mosaic_of, centres_of}
use Rattle.colour.specs.Centre.{centre_of, too_small, centre_sums, some_empty}
use Rattle.colour.specs.Colour.{above_black, not_above, ratio_of, centres_seen, lent_verdict, centres_verdict, colour_verdict, colour_answer, figures, no_figures, paper_of, colour_paper}
use Rattle.colour.specs.Mosaic.{Centres}
use Rattle.colour.specs.declared.Ratio.{Ratio}
use Rattle.colour.specs.declared.Colours.{Colours}
use Rattle.colour.proofs.Totals.{above_black_lem}
use Rattle.colour.proofs.Shown.{shown_whole, few, low}

-- sums of a centre whose samples are within full scale, of which some are surveyed
pub record Lit (full : ℕ) (shown : Sums) : Type 0 where
  pub some : 0 < shown.count
  pub few : shown.count ≤ 768
  pub low : shown.total ≤ full * shown.count

-- so a total is far inside an i64
module _ {full : ℕ} {shown : Sums} (scale : full ≤ 4095) (lit : Lit full shown) where
  pub top : shown.total ≤ 4095 * 768
  top = le_trans lit.low (times_le full shown.count 4095 768 scale lit.few)

-- 7 does not apply
filled : (shown : Centres) → some_empty shown ≡ false
    → (0 < shown.r.count) × ((0 < shown.gr.count) × ((0 < shown.b.count) × (0 < shown.gb.count)))
unfolding some_empty
filled shown e =
    let r = neither (eqb shown.r.count 0) (eqb shown.gr.count 0 || (eqb shown.b.count 0 || eqb shown.gb.count 0)) e in
    let gr = neither (eqb shown.gr.count 0) (eqb shown.b.count 0 || eqb shown.gb.count 0) r.1 in
    let b = neither (eqb shown.b.count 0) (eqb shown.gb.count 0) gr.1 in
    (some shown.r.count r.0, (some shown.gr.count gr.0, (some shown.b.count b.0, some shown.gb.count b.1)))
  where
    some : (n : ℕ) → eqb n 0 ≡ false → 0 < n
    some n t = let not_None = eqb-false n 0 t in omega arith

module _ (w h full black order : ℕ) (mask frame : List ℕ) where
  -- the tests in the order of document 01, 9 before 7
  abbrev pub tests : List Test
  tests =
      test refusal.Sides (bad_sides w h)
      ∷ test FullScale (bad_scale full)
      ∷ test Parameter (ltb full black)
      ∷ test Parameter (ltb 3 order)
      ∷ test Length (other_than (sites_of w h) (length mask))
      ∷ test Length (other_than (sites_of w h) (length frame))
      ∷ codes_test (sites_of w h) mask
      ∷ samples_test w h full (seen mask frame ∷ []) (seen mask frame)
      ∷ test TooSmall (too_small w h)
      ∷ test TooFew (some_empty (centres_seen w h order mask frame))
      ∷ test TooDark (not_above (above_black black (centres_seen w h order mask frame).gr))
      ∷ []

  pub table : Tabled (colour_verdict w h full black order mask frame) tests
  unfolding colour_verdict lent_verdict
  table =
      tabled_then (frame_tabled w h full mask frame (tabled_then (tabled _ []) (tabled _ [])) tabled_none)
      (tabled_then (tabled _ []) (tabled_then (tabled _ []) (tabled _ [])))

  -- what is lent where 1 to 6 refuse nothing
  pub record Lent : Type 0 where
    pub lent : Framed w h full mask frame
    pub legal : Sides w h
    pub scale : full ≤ 4095
    pub dark : black ≤ full

  pub lent : lent_verdict w h full black order mask frame ≡ clear → Lent
  unfolding lent_verdict
  lent e =
      let passed = frame_clear w h full mask frame e in
      let of = passed.2 in
      record {
        lent = of;
        legal = sides w h of.of.legal;
        scale = (scale full of.of.scaled).high;
        dark = ltb-false full black (unless _ (ltb full black) (then_clear _ _ passed.0).0);
      }

  -- what an accepted call has
  pub record Accepted : Type 0 where
    pub of : Lent
    pub wide : 32 ≤ w / 2
    pub high : 24 ≤ h / 2
    pub r : Lit full (centres_seen w h order mask frame).r
    pub gr : Lit full (centres_seen w h order mask frame).gr
    pub b : Lit full (centres_seen w h order mask frame).b
    pub gb : Lit full (centres_seen w h order mask frame).gb
    pub bright : black * (centres_seen w h order mask frame).gr.count < (centres_seen w h order mask frame).gr.total

  pub accepted : colour_verdict w h full black order mask frame ≡ clear → Accepted
  unfolding colour_verdict too_small
  accepted e =
      let shown = centres_seen w h order mask frame in
      let framed = then_clear _ _ e in
      let large = then_clear _ _ framed.1 in
      let some = then_clear _ _ large.1 in
      let l = lent framed.0 in
      let wide = neither (ltb (w / 2) 32) (ltb (h / 2) 24) (unless _ (too_small w h) large.0) in
      let seen-some = filled shown (unless _ (some_empty shown) some.0) in
      let lit : (plane : ℕ) → 0 < (centre_sums w h (seen mask frame) (one mask) plane).count → Lit full (centre_sums w h (seen mask frame) (one mask) plane) =
      λ plane more. record { some = more; few = few w h mask frame plane; low = low w h mask frame plane full (λ i j. l.lent.range i (omega (arith, l.legal.sites))) } in
      record {
        of = l;
        wide = ltb-false (w / 2) 32 wide.0;
        high = ltb-false (h / 2) 24 wide.1;
        r = lit (mosaic_of order).r seen-some.0;
        gr = lit (mosaic_of order).gr seen-some.1.0;
        b = lit (mosaic_of order).b seen-some.1.1.0;
        gb = lit (mosaic_of order).gb seen-some.1.1.1;
        bright = above_black_lem black shown.gr (unless _ (not_above (above_black black shown.gr)) some.1);
      }

  -- where 1 to 6 refuse nothing, what the code sees is what is in the centres, and they decide
  module _ (passed : lent_verdict w h full black order mask frame ≡ clear) (shown : Centres)
      (e : shown ≡ centres_of order (λ (plane : ℕ). box_sums w h plane (centre_of w h) mask frame)) where
    pub whole : shown ≡ centres_seen w h order mask frame
    whole = let l = lent passed in e ∙ shown_whole w h order mask frame l.legal l.lent.of.masked l.lent.framed

    pub rest : centres_verdict w h black shown ≡ colour_verdict w h full black order mask frame
    unfolding colour_verdict
    rest = rw passed (ap (λ (seen : Centres). centres_verdict w h black seen) whole)

  -- an answer's numbers are the paper's
  pub told_paper : {told : Result Colours Refusal} → told ≡ colour_answer w h full black order mask frame → paper_of told ≡ colour_paper w h full black order mask frame
  unfolding colour_answer colour_paper
  told_paper e = rw e (counted_is_told no_figures _ (colour_verdict w h full black order mask frame))

  pub refused_is : (r : Refusal) → colour_verdict w h full black order mask frame ≡ Err r
      → (Err r ≡ colour_answer w h full black order mask frame) × (paper_of (Err r) ≡ colour_paper w h full black order mask frame)
  unfolding colour_answer colour_paper
  refused_is r e = rw e (refl, refl)

  -- the answer where 1 to 6 refuse, where the centres do, and where nothing does
  pub lent_refused : (r : Refusal) → Err r ≡ lent_verdict w h full black order mask frame → Err r ≡ colour_answer w h full black order mask frame
  unfolding colour_answer colour_verdict
  lent_refused r e = rw (sym e) refl

  module _ (passed : clear ≡ lent_verdict w h full black order mask frame) (shown : Centres)
      (e : shown ≡ centres_of order (λ (plane : ℕ). box_sums w h plane (centre_of w h) mask frame)) where
    pub centres_refused : (r : Refusal) → Err r ≡ centres_verdict w h black shown → Err r ≡ colour_answer w h full black order mask frame
    unfolding colour_answer
    centres_refused r f = rw (sym (f ∙ rest (sym passed) shown e)) refl

    pub accepted_is : clear ≡ centres_verdict w h black shown → (r b gb : Ratio)
        → r ≡ ratio_of black shown.r shown.gr → b ≡ ratio_of black shown.b shown.gr → gb ≡ ratio_of black shown.gb shown.gr
        → Ok (figures r b gb) ≡ colour_answer w h full black order mask frame
    unfolding colour_answer
    accepted_is f r b gb p q t = rw (sym (f ∙ rest (sym passed) shown e), p, q, t, whole (sym passed) shown e) refl

  -- what ratios that are answered say
  pub answer_is : (r b gb : Ratio) → colour_answer w h full black order mask frame ≡ Ok (figures r b gb)
      → (colour_verdict w h full black order mask frame ≡ clear)
      × ((r ≡ ratio_of black (centres_seen w h order mask frame).r (centres_seen w h order mask frame).gr)
      × (b ≡ ratio_of black (centres_seen w h order mask frame).b (centres_seen w h order mask frame).gr)
      × (gb ≡ ratio_of black (centres_seen w h order mask frame).gb (centres_seen w h order mask frame).gr))
  unfolding colour_answer
  answer_is r b gb e =
      let was = was_accepted (colour_verdict w h full black order mask frame) e in
      (was.0, (sym (ap (λ (c : Colours). c.r) was.1), sym (ap (λ (c : Colours). c.b) was.1), sym (ap (λ (c : Colours). c.gb) was.1)))
