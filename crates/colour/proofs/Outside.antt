-- Sites outside the four centres decide nothing but 5 and 6: past these, all that is judged and divided is what is seen in the centres.
use Prim.Native.Nat.{ℕ, ◌≤◌, ◌<◌}
use mathlib.Core.Bool.{Bool}
use mathlib.Core.List.{List, [], ◌∷◌}
use mathlib.Core.Path.{◌≡◌, refl, sym, ap, ap₂, ◌∙◌, subst, fun_ext}
use lib.Dec.{ltb}
use lib.ListN.{length}
use Rattle.verdict.specs.Verdict.{Verdict, clear, ◌⨟◌, refuse_if, refuse_first, number_of}
use Rattle.verdict.specs.Answer.{answer_of}
use Rattle.verdict.proofs.Verdicts.{not_given, then_assoc}
use Rattle.verdict.specs.declared.Refusal.TheVariants.{Parameter, Code, Over}
use Rattle.std.specs.Prelude.{Ok, Err}
use Rattle.window.specs.Shape.{sites_of}
use Rattle.window.specs.View.{seen, one}
use Rattle.refusals.specs.Judge.{shape_of, length_of, codes_of, samples_of, mask_verdict_by, frame_verdict_by}
use Rattle.refusals.proofs.Ranges.{over_full, range_one}
use Rattle.plane.specs.Plane.{plane_row, plane_column, sums}
use Rattle.plane.specs.declared.Sums.{Sums}
use Rattle.plane.proofs.Planes.{box_seen}
use Rattle.colour.specs.Bayer.{centres_of}
use Rattle.colour.specs.Centre.{centre_of}
use Rattle.colour.specs.Colour.{centres_seen, lent_verdict, centres_verdict, colour_verdict, colour_figures, colour_answer}
use Rattle.colour.specs.Mosaic.{Centres}

-- a verdict that gives neither 5 nor 6
abbrev pub Quiet : Verdict → Type 0
Quiet v = (number_of v ≡ 5 → ⊥) × (number_of v ≡ 6 → ⊥)

-- tests in turn, and then another verdict
abbrev after : List Verdict → Verdict → Verdict
after [] v = v
after (t ∷ ts) v = t ⨟ after ts v

-- tests that two calls share, past which neither gives 5 or 6
past : (ts : List Verdict) (b d : Verdict) → Quiet (after ts b) → Quiet (after ts d) → (Quiet b → Quiet d → b ≡ d) → after ts b ≡ after ts d
past [] b d p q f = f p q
past (Ok u ∷ ts) b d p q f = past ts b d p q f
past (Err r ∷ ts) b d p q f = refl

-- searches of which nothing is given leave what follows
unsearched : (n k count : ℕ) (bad over : ℕ → Bool) (v : Verdict) → Quiet (refuse_first Code n bad ⨟ refuse_first (λ (site : ℕ). Over site count) k over ⨟ v)
    → refuse_first Code n bad ⨟ refuse_first (λ (site : ℕ). Over site count) k over ⨟ v ≡ v
unsearched n k count bad over v q =
    let e = not_given Code n bad (refuse_first (λ (site : ℕ). Over site count) k over ⨟ v) q.0 in
    e ∙ not_given (λ (site : ℕ). Over site count) k over v (λ given. q.1 (ap number_of e ∙ given))

-- 1 to 4, of buffers of these lengths
abbrev first_tests : ℕ → ℕ → ℕ → ℕ → ℕ → ℕ → ℕ → List Verdict
first_tests w h full black order m f =
    shape_of w h full
    ∷ refuse_if Parameter (ltb full black)
    ∷ refuse_if Parameter (ltb 3 order)
    ∷ length_of w h m
    ∷ length_of w h f
    ∷ clear
    ∷ []

-- 5 and 6
abbrev searches : ℕ → ℕ → ℕ → List ℕ → List ℕ → Verdict → Verdict
searches w h full mask frame v =
    codes_of (sites_of w h) mask ⨟ samples_of (over_full w h full (seen mask frame)) (sites_of w h) full (seen mask frame) ⨟ v

-- 1 to 6 in turn, each by itself
in_turn_lem : (w h full black order : ℕ) (mask frame : List ℕ) (v : Verdict) {m f : ℕ} → length mask ≡ m → length frame ≡ f
    → lent_verdict w h full black order mask frame ⨟ v ≡ after (first_tests w h full black order m f) (searches w h full mask frame v)
unfolding lent_verdict frame_verdict_by mask_verdict_by
in_turn_lem w h full black order mask frame v m f = rw (← m, ← f, range_one w h full (seen mask frame)) (simp then_assoc refl)

-- a site that lies in the centre of its plane
pub record InCentre (w h i : ℕ) : Type 0 where
  pub top : (centre_of w h).top ≤ plane_row w i
  pub bottom : plane_row w i < (centre_of w h).bottom
  pub left : (centre_of w h).left ≤ plane_column w i
  pub right : plane_column w i < (centre_of w h).right

module _ (w h full black order : ℕ) (mask frame mask' frame' : List ℕ) (m : length mask ≡ length mask') (f : length frame ≡ length frame')
    (alike : (i : ℕ) → InCentre w h i → (one mask i ≡ one mask' i) × (seen mask frame i ≡ seen mask' frame' i)) where
  same_shown : centres_seen w h order mask frame ≡ centres_seen w h order mask' frame'
  same_shown =
      ap (λ (shown : ℕ → Sums). centres_of order shown)
      (fun_ext (λ plane. ap₂ sums
      (box_seen w h plane (centre_of w h) (one mask) (one mask') (λ i t b l r. (alike i (record { top = t; bottom = b; left = l; right = r })).0))
      (box_seen w h plane (centre_of w h) (seen mask frame) (seen mask' frame') (λ i t b l r. (alike i (record { top = t; bottom = b; left = l; right = r })).1))))

  pub seen_alike : Quiet (colour_verdict w h full black order mask frame) → Quiet (colour_verdict w h full black order mask' frame')
      → colour_answer w h full black order mask frame ≡ colour_answer w h full black order mask' frame'
  unfolding colour_answer colour_verdict
  seen_alike p q =
      let v = centres_verdict w h black (centres_seen w h order mask frame) in
      let v' = centres_verdict w h black (centres_seen w h order mask' frame') in
      let e = in_turn_lem w h full black order mask frame v m f in
      let e' = in_turn_lem w h full black order mask' frame' v' refl refl in
      ap₂ (λ (v : Verdict) (shown : Centres). answer_of v (colour_figures black shown))
      (e
      ∙ past (first_tests w h full black order (length mask') (length frame')) (searches w h full mask frame v) (searches w h full mask' frame' v')
      (subst (λ (v : Verdict). Quiet v) e p) (subst (λ (v : Verdict). Quiet v) e' q)
      (λ p q. unsearched _ _ _ _ _ v p ∙ ap (λ (shown : Centres). centres_verdict w h black shown) same_shown ∙ sym (unsearched _ _ _ _ _ v' q))
      ∙ sym e')
      same_shown
