-- Refusals 1 to 6 of two frames: what passes them, and the table that they are.
use Prim.Native.Nat.{ℕ, ◌+◌, ◌≤◌}
use mathlib.Core.Bool.{false}
use mathlib.Core.List.{List, [], ◌∷◌, ◌++◌}
use mathlib.Core.Path.{◌≡◌, refl, sym, ◌∙◌}
use native.Mathlib.Omega.{arith}
use lib.ListN.{length}
use Rattle.laws.specs.First.{count_to}
use Rattle.verdict.specs.Verdict.{Verdict, clear, ◌⨟◌}
use Rattle.verdict.proofs.Verdicts.{Test, Tabled, test, tabled, tabled_none, tabled_then, then_clear, clear_then, then_same, moved_on}
use Rattle.verdict.specs.declared.Refusal.TheVariants.{Length}
use Rattle.window.proofs.Sides.{scale}
use Rattle.window.specs.Shape.{bad_sides, sites_of}
use Rattle.window.specs.View.{above, seen}
use Rattle.refusals.specs.Judge.{other_than, length_of, over_in, samples_of, mask_verdict, frames_verdict}
use Rattle.refusals.specs.Walk.{ranged}
use Rattle.refusals.proofs.Chains.{length_clear, clear_length}
use Rattle.refusals.proofs.Ranges.{none, more, range_head, range_tail, samples_clear, clear_samples, range_tests, samples_tabled, range_two, ranged-whole}
use Rattle.refusals.proofs.Judges.{Framed, mask_clear, clear_mask, mask_tests, mask_tabled}

-- what two frames are that 1 to 6 do not refuse
pub record Readable (w h full : ℕ) (mask first second : List ℕ) : Type 0 where
  pub of_first : Framed w h full mask first
  pub of_second : Framed w h full mask second

module _ (w h full : ℕ) (mask first second : List ℕ) where
  abbrev pub counted : List ℕ → ℕ
  counted frame = count_to (length mask) (above full (seen mask frame))

  abbrev pub asked : List ℕ → ℕ → Verdict
  asked frame over = samples_of over (length mask) full (seen mask frame)

  abbrev views : List (ℕ → ℕ)
  views = seen mask first ∷ seen mask second ∷ []

  abbrev pub lengths : Verdict
  lengths = length_of w h (length first) ⨟ length_of w h (length second)

  long : lengths ≡ clear → (length first ≡ sites_of w h) × (length second ≡ sites_of w h)
  long e =
      let both = then_clear _ _ e in
      (length_clear (sites_of w h) (length first) both.0, length_clear (sites_of w h) (length second) both.1)

  -- what 1 to 5 let pass can be viewed, at a full scale that 16 bits hold
  pub both_passed : mask_verdict w h full clear mask lengths ≡ clear
      → (full ≤ 4095) × (bad_sides w h ≡ false) × (length mask ≡ sites_of w h) × (length first ≡ sites_of w h) × (length second ≡ sites_of w h)
  both_passed e =
      let masked = mask_clear w h full mask e in
      let both = long masked.1 in
      (omega (arith, (scale full masked.2.scaled).high), masked.2.legal, masked.2.masked, both.0, both.1)

  -- 6 is asked of whole buffers: 4 comes first
  pub frames_judged : (over : ℕ) → over ≡ count_to (ranged w h full (length mask) (length first)) (above full (seen mask first)) + count_to (ranged w h full (length mask) (length second)) (above full (seen mask second))
      → mask_verdict w h full clear mask lengths ⨟ samples_of over (ranged w h full (length mask) (length first)) full (seen mask first) ⨟ samples_of over (ranged w h full (length mask) (length second)) full (seen mask second)
      ≡ frames_verdict w h full mask first second
  unfolding frames_verdict
  frames_judged over p =
      then_same (mask_verdict w h full clear mask lengths) (λ e.
      let masked = mask_clear w h full mask e in
      let both = long masked.1 in
      let whole : (n : ℕ) → n ≡ sites_of w h → ranged w h full (length mask) n ≡ sites_of w h =
      λ n l. ranged-whole w h full (length mask) n masked.2.scaled masked.2.masked l in
      rw (p, whole (length first) both.0, whole (length second) both.1) (range_two w h full (seen mask first) (seen mask second)))

  -- 6 of a mask and two frames that 1 to 5 let pass, with the count of what is over in both
  pub frames_asked : mask_verdict w h full clear mask lengths ≡ clear
      → asked first (counted first + counted second) ⨟ asked second (counted first + counted second) ≡ frames_verdict w h full mask first second
  unfolding frames_verdict
  frames_asked e =
      let masked = mask_clear w h full mask e in
      let both = long masked.1 in
      let whole : (n : ℕ) → n ≡ sites_of w h → ranged w h full (length mask) n ≡ length mask =
      λ n l. ranged-whole w h full (length mask) n masked.2.scaled masked.2.masked l ∙ sym masked.2.masked in
      let judged = frames_judged (counted first + counted second) (rw (whole (length first) both.0, whole (length second) both.1)) in
      moved_on _ (sym e) ∙ (rw (whole (length first) both.0, whole (length second) both.1) at judged)

  pub frames_clear : frames_verdict w h full mask first second ≡ clear → Readable w h full mask first second
  unfolding frames_verdict
  frames_clear e =
      let all = then_clear _ _ e in
      let masked = mask_clear w h full mask all.0 in
      let both = long masked.1 in
      let range = samples_clear (over_in (sites_of w h) full views) (sites_of w h) full views all.1 in
      record {
        of_first = record { of = masked.2; framed = both.0; range = range_head range };
        of_second = record { of = masked.2; framed = both.1; range = range_head (range_tail range) };
      }

  -- and frames that are so pass 1 to 6
  pub clear_frames : Readable w h full mask first second → frames_verdict w h full mask first second ≡ clear
  unfolding frames_verdict
  clear_frames r =
      let one = r.of_first in
      let other = r.of_second in
      clear_then
      (clear_mask w h full mask one.of refl
      (clear_then (clear_length (sites_of w h) (length first) one.framed) (clear_length (sites_of w h) (length second) other.framed)))
      (clear_samples (over_in (sites_of w h) full views) (sites_of w h) full (more one.range (more other.range none)))

  abbrev pub frames_tests : List Test
  frames_tests =
      mask_tests w h full mask [] (test Length (other_than (sites_of w h) (length first)) ∷ test Length (other_than (sites_of w h) (length second)) ∷ [])
      ++ range_tests (over_in (sites_of w h) full views) (sites_of w h) full views

  pub frames_tabled : Tabled (frames_verdict w h full mask first second) frames_tests
  unfolding frames_verdict
  frames_tabled = tabled_then (mask_tabled w h full mask tabled_none (tabled_then (tabled _ []) (tabled _ []))) (samples_tabled (over_in (sites_of w h) full views) (sites_of w h) full views)
