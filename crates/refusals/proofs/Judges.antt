-- The refusals that calls share: what passes 1 to 5, or 1 to 6, what is judged after them, and the table that they are.
use Prim.Native.Nat.{ℕ, ◌*◌, ◌<◌, ◌≤◌}
use mathlib.Core.Bool.{false}
use mathlib.Core.List.{List, [], ◌∷◌, ◌++◌}
use mathlib.Core.Path.{◌≡◌, refl, sym, ap, ap₂, ◌∙◌}
use native.Mathlib.Omega.{arith}
use lib.ListN.{length, get_or}
use Rattle.laws.specs.First.{count_to}
use Rattle.verdict.specs.Verdict.{Verdict, clear, ◌⨟◌}
use Rattle.verdict.proofs.Verdicts.{Test, Tabled, test, test_first, tabled, tabled_then, then_same, then_clear, then_end, clear_then, moved_on}
use Rattle.std.specs.Prelude.{Result}
use Rattle.verdict.specs.declared.Refusal.{Refusal}
use Rattle.verdict.specs.declared.Refusal.TheVariants.{Sides, FullScale, Length, Code}
use Rattle.window.specs.Shape.{bad_sides, bad_scale, sites_of}
use Rattle.window.proofs.Sides.{sides, scale}
use Rattle.window.specs.Walk.{walked}
use Rattle.window.specs.View.{bad_code, above, seen}
use Rattle.refusals.specs.Judge.{shape_by, length_by, codes_by, shape_of, other_than, length_of, codes_of, over_in, samples_of, range_of, mask_verdict_by, frame_verdict_by, mask_verdict, frame_verdict}
use Rattle.refusals.specs.Walk.{ranged}
use Rattle.refusals.proofs.Chains.{shape_clear, clear_shape, shape_tabled, length_clear, clear_length, codes_clear, clear_codes, measured, codes_whole}
use Rattle.refusals.proofs.Ranges.{none, more, range_head, samples_clear, clear_samples, range_tests, samples_tabled, range_one, ranged-whole}

-- 5 as a test of a table, at the first of n sites
abbrev pub codes_test : ℕ → List ℕ → Test
codes_test n mask = test_first Code n (bad_code mask)

-- a mask in a window that 1 to 5 do not refuse
pub record Masked (w h full : ℕ) (mask : List ℕ) : Type 0 where
  pub legal : bad_sides w h ≡ false
  pub scaled : bad_scale full ≡ false
  pub masked : length mask ≡ sites_of w h
  pub codes : (i : ℕ) → i < sites_of w h → get_or mask i 0 ≤ 3

-- and a frame behind it that 6 does not refuse
pub record Framed (w h full : ℕ) (mask frame : List ℕ) : Type 0 where
  pub of : Masked w h full mask
  pub framed : length frame ≡ sites_of w h
  pub range : (i : ℕ) → i < sites_of w h → seen mask frame i ≤ full

module _ (w h full : ℕ) (mask : List ℕ) where
  module _ {parameters lengths : Verdict} where
    -- what 1 to 5 let pass, with the call's own tests among them
    pub mask_clear : mask_verdict w h full parameters mask lengths ≡ clear → (parameters ≡ clear) × (lengths ≡ clear) × Masked w h full mask
    unfolding mask_verdict_by
    mask_clear e =
        let shape = then_clear _ _ e in
        let handed = then_clear _ _ shape.1 in
        let masked = then_clear _ _ handed.1 in
        let lent = then_clear _ _ masked.1 in
        let legal = shape_clear w h full shape.0 in
        (handed.0, lent.0, record { legal = legal.0; scaled = legal.1; masked = length_clear (sites_of w h) (length mask) masked.0; codes = codes_clear (sites_of w h) mask lent.1 })

    -- behind a good mask, with buffers of the right length, a call's own 3 is all that 1 to 5 can be
    pub parameters_left : Masked w h full mask → lengths ≡ clear → mask_verdict w h full parameters mask lengths ≡ parameters
    unfolding mask_verdict_by
    parameters_left m l =
        rw (
          clear_shape w h full m.legal m.scaled,
          clear_length (sites_of w h) (length mask) m.masked,
          l,
          clear_codes (sites_of w h) mask m.codes,
        )
        (then_end parameters)

    pub clear_mask : Masked w h full mask → parameters ≡ clear → lengths ≡ clear → mask_verdict w h full parameters mask lengths ≡ clear
    clear_mask m p l = parameters_left m l ∙ p

  -- 5 is asked of the whole window: 4 comes first
  pub mask_judged : {R : Type 0} (told : Refusal → R) (parameters lengths : Result (Unit {0}) R)
      → shape_by told w h full ⨟ parameters ⨟ length_by told w h (length mask) ⨟ lengths ⨟ codes_by told (walked w h (length mask)) mask
      ≡ mask_verdict_by told w h full parameters mask lengths
  unfolding mask_verdict_by
  mask_judged told parameters lengths =
      then_same (shape_by told w h full) (λ _. then_same parameters (λ _.
      measured (told Length) (sites_of w h) (length mask) (λ e. then_same lengths (λ _. codes_whole told w h mask e))))

  -- what 5 asks of h rows of w is asked of the window
  pub codes_asked : shape_of w h full ≡ clear → codes_of (h * w) mask ≡ codes_of (sites_of w h) mask
  codes_asked e = rw (sides w h (shape_clear w h full e).0).sites refl

  pub mask_whole : shape_of w h full ≡ clear → length_of w h (length mask) ≡ clear → length mask ≡ h * w
  mask_whole e f = length_clear (sites_of w h) (length mask) f ∙ (sides w h (shape_clear w h full e).0).sites

  -- what `judge_mask` answers of verdicts that are known
  pub mask_of_lem : {r p l p' l' : Verdict} → r ≡ mask_verdict w h full p mask l → p ≡ p' → l ≡ l' → r ≡ mask_verdict w h full p' mask l'
  mask_of_lem e f g = e ∙ ap₂ (λ (p l : Verdict). mask_verdict w h full p mask l) f g

  -- the call's own 4 is judged only of legal sides
  pub mask_lent : (p : Verdict) {l l' : Verdict} → (bad_sides w h ≡ false → l ≡ l') → mask_verdict w h full p mask l ≡ mask_verdict w h full p mask l'
  unfolding mask_verdict_by
  mask_lent p f =
      then_same (shape_of w h full)
      (λ e. ap (λ (v : Verdict). p ⨟ length_of w h (length mask) ⨟ v ⨟ codes_of (sites_of w h) mask) (f (shape_clear w h full e).0))

  -- the table of 1 to 5, the call's own tests in their places
  abbrev pub mask_tests : List Test → List Test → List Test
  mask_tests parameters lengths =
      test Sides (bad_sides w h)
      ∷ test FullScale (bad_scale full)
      ∷ (parameters ++ (test Length (other_than (sites_of w h) (length mask)) ∷ (lengths ++ (codes_test (sites_of w h) mask ∷ []))))

  pub mask_tabled : {parameters lengths : Verdict} {ps ls : List Test} → Tabled parameters ps → Tabled lengths ls
      → Tabled (mask_verdict w h full parameters mask lengths) (mask_tests ps ls)
  unfolding mask_verdict_by
  mask_tabled p l = tabled_then (shape_tabled w h full) (tabled_then p (tabled_then (tabled _ []) (tabled_then l (tabled _ []))))

module _ (w h full : ℕ) (mask frame : List ℕ) where
  module _ {parameters lengths : Verdict} where
    -- and of a frame, 1 to 6
    pub frame_clear : frame_verdict w h full parameters mask frame lengths ≡ clear → (parameters ≡ clear) × (lengths ≡ clear) × Framed w h full mask frame
    unfolding frame_verdict_by
    frame_clear e =
        let all = then_clear _ _ e in
        let masked = mask_clear w h full mask all.0 in
        let lent = then_clear _ _ masked.1 in
        let range = samples_clear (over_in (sites_of w h) full (seen mask frame ∷ [])) (sites_of w h) full (seen mask frame ∷ []) all.1 in
        (masked.0, lent.1, record { of = masked.2; framed = length_clear (sites_of w h) (length frame) lent.0; range = range_head range })

    pub clear_frame : Framed w h full mask frame → parameters ≡ clear → lengths ≡ clear → frame_verdict w h full parameters mask frame lengths ≡ clear
    unfolding frame_verdict_by
    clear_frame f p l =
        clear_then (clear_mask w h full mask f.of p (clear_then (clear_length (sites_of w h) (length frame) f.framed) l))
        (clear_samples (over_in (sites_of w h) full (seen mask frame ∷ [])) (sites_of w h) full (more f.range none))

  -- what 1 to 5 let pass can be viewed, at a full scale that 16 bits hold
  pub mask_passed : (parameters lengths : Verdict) → mask_verdict w h full parameters mask (length_of w h (length frame) ⨟ lengths) ≡ clear
      → (full ≤ 4095) × (bad_sides w h ≡ false) × (length mask ≡ sites_of w h) × (length frame ≡ sites_of w h)
  mask_passed parameters lengths e =
      let masked = mask_clear w h full mask e in
      (omega (arith, (scale full masked.2.scaled).high), masked.2.legal, masked.2.masked, length_clear (sites_of w h) (length frame) (then_clear _ _ masked.1).0)

  -- 6 is asked of the whole window: 2 and 4 come first
  pub frame_judged : (parameters lengths : Verdict) (n : ℕ) → n ≡ ranged w h full (length mask) (length frame)
      → mask_verdict w h full parameters mask (length_of w h (length frame) ⨟ lengths)
      ⨟ samples_of (count_to n (above full (seen mask frame))) n full (seen mask frame)
      ≡ frame_verdict w h full parameters mask frame lengths
  unfolding frame_verdict_by
  frame_judged parameters lengths n p =
      then_same (mask_verdict w h full parameters mask (length_of w h (length frame) ⨟ lengths)) (λ e.
      let masked = mask_clear w h full mask e in
      let long = length_clear (sites_of w h) (length frame) (then_clear _ _ masked.1).0 in
      rw (p, ranged-whole w h full (length mask) (length frame) masked.2.scaled masked.2.masked long) (range_one w h full (seen mask frame)))

  -- 6 of a mask and a frame that 1 to 5 let pass, with the count of what is over
  pub frame_asked : (parameters lengths : Verdict) → mask_verdict w h full parameters mask (length_of w h (length frame) ⨟ lengths) ≡ clear
      → samples_of (count_to (length mask) (above full (seen mask frame))) (length mask) full (seen mask frame) ≡ frame_verdict w h full parameters mask frame lengths
  unfolding frame_verdict_by
  frame_asked parameters lengths e =
      let masked = mask_clear w h full mask e in
      let long = length_clear (sites_of w h) (length frame) (then_clear _ _ masked.1).0 in
      moved_on _ (sym e)
      ∙ frame_judged parameters lengths (length mask) (masked.2.masked ∙ sym (ranged-whole w h full (length mask) (length frame) masked.2.scaled masked.2.masked long))

  pub frame_of : {r p l p' l' : Verdict} → r ≡ frame_verdict w h full p mask frame l → p ≡ p' → l ≡ l' → r ≡ frame_verdict w h full p' mask frame l'
  frame_of e f g = e ∙ ap₂ (λ (p l : Verdict). frame_verdict w h full p mask frame l) f g

  pub frame_lent : (p : Verdict) {l l' : Verdict} → (bad_sides w h ≡ false → l ≡ l') → frame_verdict w h full p mask frame l ≡ frame_verdict w h full p mask frame l'
  unfolding frame_verdict_by
  frame_lent p f =
      ap (λ (v : Verdict). v ⨟ range_of w h full (seen mask frame ∷ []))
      (mask_lent w h full mask p (λ legal. ap (λ (v : Verdict). length_of w h (length frame) ⨟ v) (f legal)))

  abbrev pub frame_tests : List Test → List Test → List Test
  frame_tests parameters lengths =
      mask_tests w h full mask parameters (test Length (other_than (sites_of w h) (length frame)) ∷ lengths)
      ++ range_tests (over_in (sites_of w h) full (seen mask frame ∷ [])) (sites_of w h) full (seen mask frame ∷ [])

  pub frame_tabled : {parameters lengths : Verdict} {ps ls : List Test} → Tabled parameters ps → Tabled lengths ls
      → Tabled (frame_verdict w h full parameters mask frame lengths) (frame_tests ps ls)
  unfolding frame_verdict_by
  frame_tabled p l = tabled_then (mask_tabled w h full mask p (tabled_then (tabled _ []) l)) (samples_tabled _ _ _ _)
