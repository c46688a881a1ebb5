-- The tests of a job as one table: those of its fields, and of the library's only those that a stream without a fault leaves.
use Prim.Native.Nat.{ℕ, ◌+◌}
use mathlib.Core.Bool.{false}
use mathlib.Core.List.{List, [], ◌∷◌, ◌++◌}
use mathlib.Core.Path.{◌≡◌, ap₂, ◌∙◌}
use native.Mathlib.Omega.{arith}
use lib.Dec.{ltb}
use lib.ListN.{length, get_or}
use borrow.Author.Tests.{ne_eqb, ltb-false}
use Rattle.laws.specs.Sum.{sum_to}
use Rattle.verdict.specs.Verdict.{Verdict, clear, ◌⨟◌, refuse_if}
use Rattle.verdict.proofs.Verdicts.{Test, Tabled, test, in_turn, tabled, tabled_none, tabled_then, skipped, then_assoc, then_same, then_clear, then_end, clear_first, unless, clear_unless}
use Rattle.verdict.specs.declared.Refusal.TheVariants.{Sides, FullScale, Parameter, Length, TooFew, Cut, OtherTag, OtherLength, Extra, TooWide}
use Rattle.window.specs.Shape.{bad_sides, bad_scale, sites_of}
use Rattle.window.specs.View.{seen, one}
use Rattle.refusals.specs.Judge.{shape_by, other_than, codes_of, samples_in_by, range_of, mask_verdict_by, frame_verdict_by, frame_verdict, frames_verdict}
use Rattle.refusals.proofs.Chains.{clear_shape, right-length, clear_length, clear_codes}
use Rattle.refusals.proofs.Ranges.{none, more, clear_samples, samples_test}
use Rattle.refusals.proofs.Judges.{codes_test, Framed}
use Rattle.refusals.proofs.Frames.{frames_clear}
use Rattle.pair.specs.Figures.{spread_of}
use Rattle.pair.specs.Pair.{pair_spread, pair_verdict}
use Rattle.dark.specs.Dark.{dark_verdict}
use Rattle.stream.specs.Fields.{Field, past, word_at, field_at, fields_at, past_all}
use Rattle.stream.specs.Stream.{side_fields, body_fields, wide_sides, faults_of}

-- ---- the stream's
module _ (s : List ℕ) where
  -- of a field: the input ends before it; another tag; the input ends inside its length; another length; the input ends inside its body
  abbrev pub field_tests : ℕ → Field → List Test
  field_tests at f =
      test (Cut at) (ltb (length s) (at + 1))
      ∷ test (OtherTag at) (other_than f.tag (get_or s at 0))
      ∷ test (Cut at) (ltb (length s) (at + 3))
      ∷ test (OtherLength at) (other_than f.long (word_at s (at + 1)))
      ∷ test (Cut at) (ltb (length s) (past at f))
      ∷ []

  pub field_table : (at : ℕ) (f : Field) → Tabled (field_at s at f) (field_tests at f)
  unfolding field_at
  field_table at f = tabled _ _

  unfoldable pub fields_tests : ℕ → List Field → List Test
  fields_tests at [] = []
  fields_tests at (f ∷ fs) = field_tests at f ++ fields_tests (past at f) fs

  pub fields_table : (at : ℕ) (fs : List Field) → Tabled (fields_at s at fs) (fields_tests at fs)
  unfolding fields_at fields_tests
  fields_table at [] = tabled_none
  fields_table at (f ∷ fs) = tabled_then (field_table at f) (fields_table (past at f) fs)

  module _ (w h : ℕ) where
    abbrev pub stream_tests : List Test
    stream_tests =
        fields_tests 0 side_fields
        ++ (test Sides (bad_sides w h)
        ∷ test TooWide (wide_sides w h)
        ∷ (fields_tests 10 (body_fields (sites_of w h))
        ++ (test (Extra (past_all 10 (body_fields (sites_of w h)))) (ltb (past_all 10 (body_fields (sites_of w h))) (length s)) ∷ [])))

    pub stream_table : Tabled (faults_of s w h) stream_tests
    unfolding faults_of
    stream_table =
        tabled_then (fields_table 0 side_fields)
        (tabled_then (tabled (test Sides (bad_sides w h)) [])
        (tabled_then (tabled (test TooWide (wide_sides w h)) [])
        (tabled_then (fields_table 10 (body_fields (sites_of w h)))
        (tabled (test (Extra (past_all 10 (body_fields (sites_of w h)))) (ltb (past_all 10 (body_fields (sites_of w h))) (length s))) []))))

-- ---- the library's, of a legal window and buffers of its length: of the pair 2, 5, 6 and 7 are left, and of the dark level 3
abbrev pub scale_test : ℕ → Test
scale_test full = test FullScale (bad_scale full)

module _ (w h full black : ℕ) (mask first second : List ℕ) where
  abbrev pub left_tests : List Test
  left_tests =
      codes_test (sites_of w h) mask
      ∷ samples_test w h full (seen mask first ∷ seen mask second ∷ []) (seen mask first)
      ∷ samples_test w h full (seen mask first ∷ seen mask second ∷ []) (seen mask second)
      ∷ test TooFew (ltb (pair_spread w h mask first second).n 2)
      ∷ test Parameter (ltb full black)
      ∷ []

  module _ (even : bad_sides w h ≡ false) (m : length mask ≡ sites_of w h) (f : length first ≡ sites_of w h) (g : length second ≡ sites_of w h) where
    long : (n : ℕ) → n ≡ sites_of w h → (v : Verdict) → refuse_if Length (other_than (sites_of w h) n) ⨟ v ≡ v
    long n e v = skipped Length v (other_than (sites_of w h) n) (right-length (sites_of w h) n e)

    legal : (v : Verdict) → refuse_if Sides (bad_sides w h) ⨟ v ≡ v
    legal v = skipped Sides v (bad_sides w h) even

    pair_left : pair_verdict w h full mask first second
        ≡ refuse_if FullScale (bad_scale full)
        ⨟ codes_of (sites_of w h) mask
        ⨟ range_of w h full (seen mask first ∷ seen mask second ∷ [])
        ⨟ refuse_if TooFew (ltb (pair_spread w h mask first second).n 2)
    unfolding pair_verdict frames_verdict mask_verdict_by shape_by
    pair_left = simp (then_assoc, legal, long (length mask) m, long (length first) f, long (length second) g)

    -- a frame that the pair accepts leaves the dark level its own 3
    own : {parameters : Verdict} → Framed w h full mask first → frame_verdict w h full parameters mask first clear ≡ parameters
    unfolding frame_verdict_by mask_verdict_by
    own {parameters} of =
        let range : range_of w h full (seen mask first ∷ []) ≡ clear = clear_samples _ _ _ (more of.range none) in
        simp (
          clear_shape w h full of.of.legal of.of.scaled,
          clear_length (sites_of w h) (length mask) m,
          clear_length (sites_of w h) (length first) f,
          clear_codes (sites_of w h) mask of.of.codes,
          range,
          clear_first,
          then_end,
        )

    -- so after an accepted pair all that is left of the dark level is its 3, and it gives no 6
    pub dark_left : pair_verdict w h full mask first second ≡ clear → dark_verdict w h full black mask first ≡ refuse_if Parameter (ltb full black)
    unfolding pair_verdict dark_verdict spread_of
    dark_left e =
        let frames = then_clear (frames_verdict w h full mask first second) (refuse_if TooFew (ltb (pair_spread w h mask first second).n 2)) e in
        let two = ltb-false (sum_to (sites_of w h) (one mask)) 2 (unless TooFew _ frames.1) in
        let some = clear_unless TooFew (ne_eqb (sum_to (sites_of w h) (one mask)) 0 (λ z. omega arith)) in
        ap₂ (λ (a b : Verdict). a ⨟ b) (own (frames_clear w h full mask first second frames.0).of_first) some ∙ then_end _

    pub left_is : pair_verdict w h full mask first second ⨟ dark_verdict w h full black mask first ≡ in_turn (scale_test full) left_tests
    unfolding samples_in_by
    left_is = rw (then_same (pair_verdict w h full mask first second) dark_left, pair_left) (simp (then_assoc, clear_first))
