-- The verdicts of both calls: their tables of tests, and what an accepted call has.
use Prim.Native.Nat.{ℕ, ◌≤◌, ◌<◌}
use mathlib.Core.Bool.{Bool, true, false, cond, ◌&&◌, ◌||◌}
use mathlib.Core.List.{List, [], ◌∷◌}
use mathlib.Core.Logic.{◌⊎◌, inl, inr}
use mathlib.Core.Path.{◌≡◌, refl, ap}
use native.Mathlib.Omega.{arith}
use lib.Dec.{ltb, leb}
use lib.ListN.{length}
use borrow.Author.Tests.{eqb-true, ltb-false, le-ltb, leb-false, lt-leb}
use Rattle.laws.specs.Table.{held}
use Rattle.laws.proofs.Cases.{neither}
use Rattle.std.specs.Prelude.{Ok}
use Rattle.verdict.specs.Verdict.{clear}
use Rattle.verdict.specs.Answer.{nothing}
use Rattle.verdict.proofs.Verdicts.{Test, Tabled, test, tabled, tabled_none, tabled_then, then_clear, clear_then, unless, clear_unless}
use Rattle.verdict.proofs.Answers.{was_accepted}
use Rattle.verdict.specs.declared.Refusal.TheVariants.{Sides, FullScale, Parameter, Length, Code, Over, TooSmall}
use Rattle.window.specs.Shape.{bad_sides, bad_scale, sites_of}
use Rattle.window.specs.View.{surveyed, seen_at, seen}
use Rattle.refusals.specs.Judge.{other_than}
use Rattle.refusals.proofs.Chains.{shape_clear, clear_shape, shape_tabled, length_clear, clear_length}
use Rattle.refusals.proofs.Ranges.{samples_test}
use Rattle.refusals.proofs.Judges.{codes_test, Framed, frame_clear, clear_frame, frame_tabled}
use Rattle.colour.specs.Centre.{too_small}
use Rattle.blocks.specs.Areas.{entries_of, table_lengths}
use Rattle.blocks.specs.Table.{table_verdict, table_answer}
use Rattle.blocks.specs.Recode.{bad_codes, over_either, recode_verdict, recode_answer}

-- totals and counts that 4 does not refuse
module _ (w h totals counts : ℕ) where
  lengths_clear : table_lengths w h totals counts ≡ clear → (totals ≡ entries_of w h) × (counts ≡ entries_of w h)
  lengths_clear e =
      let both = then_clear _ _ e in
      (length_clear (entries_of w h) totals both.0, length_clear (entries_of w h) counts both.1)

  clear_lengths : totals ≡ entries_of w h → counts ≡ entries_of w h → table_lengths w h totals counts ≡ clear
  clear_lengths t c = clear_then (clear_length (entries_of w h) totals t) (clear_length (entries_of w h) counts c)

  lengths_tabled : Tabled (table_lengths w h totals counts) (test Length (other_than (entries_of w h) totals) ∷ test Length (other_than (entries_of w h) counts) ∷ [])
  lengths_tabled = tabled_then (tabled _ []) (tabled _ [])

-- ---- shading_table
module _ (w h full : ℕ) (mask frame : List ℕ) (totals counts : ℕ) where
  -- the tests in the order of document 02
  abbrev pub table_tests : List Test
  table_tests =
      test Sides (bad_sides w h)
      ∷ test FullScale (bad_scale full)
      ∷ test Length (other_than (sites_of w h) (length mask))
      ∷ test Length (other_than (sites_of w h) (length frame))
      ∷ test Length (other_than (entries_of w h) totals)
      ∷ test Length (other_than (entries_of w h) counts)
      ∷ codes_test (sites_of w h) mask
      ∷ samples_test w h full (seen mask frame ∷ []) (seen mask frame)
      ∷ test TooSmall (too_small w h)
      ∷ []

  pub table_tabled : Tabled (table_verdict w h full mask frame totals counts) table_tests
  unfolding table_verdict
  table_tabled = tabled_then (frame_tabled w h full mask frame tabled_none (lengths_tabled w h totals counts)) (tabled _ [])

  -- what an accepted call has
  pub record Tabling : Type 0 where
    pub lent : Framed w h full mask frame
    pub totalled : totals ≡ entries_of w h
    pub counted : counts ≡ entries_of w h
    pub large : too_small w h ≡ false

  pub tabling : table_verdict w h full mask frame totals counts ≡ clear → Tabling
  unfolding table_verdict
  tabling e =
      let both = then_clear _ _ e in
      let passed = frame_clear w h full mask frame both.0 in
      let long = lengths_clear w h totals counts passed.1 in
      record { lent = passed.2; totalled = long.0; counted = long.1; large = unless _ (too_small w h) both.1 }

  -- and what has it is accepted
  pub tabling_clear : Tabling → table_verdict w h full mask frame totals counts ≡ clear
  unfolding table_verdict
  tabling_clear a =
      clear_then (clear_frame w h full mask frame a.lent refl (clear_lengths w h totals counts a.totalled a.counted))
      (clear_unless _ a.large)

  pub table_clear : table_answer w h full mask frame totals counts ≡ Ok nothing → table_verdict w h full mask frame totals counts ≡ clear
  unfolding table_answer
  table_clear e = (was_accepted (table_verdict w h full mask frame totals counts) e).0

  pub table_done : table_verdict w h full mask frame totals counts ≡ clear → table_answer w h full mask frame totals counts ≡ Ok nothing
  unfolding table_answer
  table_done e = rw e

-- ---- shading_recode
-- 5 and 6 of the site do not apply: both codes are legal, and under neither is a sample above full scale seen
codes_low : (old new : ℕ) → bad_codes old new ≡ false → (old ≤ 3) × (new ≤ 3)
unfolding bad_codes
codes_low old new e = let both = neither (ltb 3 old) (ltb 3 new) e in (ltb-false 3 old both.0, ltb-false 3 new both.1)

low_codes : (old new : ℕ) → old ≤ 3 → new ≤ 3 → bad_codes old new ≡ false
unfolding bad_codes
low_codes old new p q = rw (le-ltb 3 old p, le-ltb 3 new q)

samples_low : (full old new sample : ℕ) → over_either full old new sample ≡ false → (seen_at old sample ≤ full) × (seen_at new sample ≤ full)
unfolding over_either seen_at
samples_low full old new sample = by (surveyed old) (surveyed new)
  where
    by : (a b : Bool) → ((a || b) && ltb full sample) ≡ false → (cond a sample 0 ≤ full) × (cond b sample 0 ≤ full)
    by true true e = (ltb-false full sample e, ltb-false full sample e)
    by true false e = (ltb-false full sample e, omega arith)
    by false true e = (omega arith, ltb-false full sample e)
    by false false e = (omega arith, omega arith)

low_samples : (full old new sample : ℕ) → seen_at old sample ≤ full → seen_at new sample ≤ full → over_either full old new sample ≡ false
unfolding over_either seen_at
low_samples full old new sample = by (surveyed old) (surveyed new)
  where
    by : (a b : Bool) → cond a sample 0 ≤ full → cond b sample 0 ≤ full → ((a || b) && ltb full sample) ≡ false
    by true b p q = le-ltb full sample p
    by false true p q = le-ltb full sample q
    by false false p q = refl

-- two samples that are one where the site counts are over full scale alike
pub over_same : (full old new x y : ℕ) → ((old ≡ 0) ⊎ (new ≡ 0) → x ≡ y) → over_either full old new x ≡ over_either full old new y
unfolding over_either
over_same full old new x y same = by (surveyed old) (surveyed new) (λ t. same (inl (eqb-true old 0 t))) (λ t. same (inr (eqb-true new 0 t)))
  where
    by : (a b : Bool) → (a ≡ true → x ≡ y) → (b ≡ true → x ≡ y) → ((a || b) && ltb full x) ≡ ((a || b) && ltb full y)
    by true b p q = ap (ltb full) (p refl)
    by false true p q = ap (ltb full) (q refl)
    by false false p q = refl

module _ (w h full site code : ℕ) (mask frame : List ℕ) (totals counts : ℕ) where
  -- the tests in the order of document 02: 5 and 6 are asked of the site alone, and have it as place
  abbrev pub recode_tests : List Test
  recode_tests =
      test Sides (bad_sides w h)
      ∷ test FullScale (bad_scale full)
      ∷ test Parameter (leb (sites_of w h) site)
      ∷ test Length (other_than (sites_of w h) (length mask))
      ∷ test Length (other_than (sites_of w h) (length frame))
      ∷ test Length (other_than (entries_of w h) totals)
      ∷ test Length (other_than (entries_of w h) counts)
      ∷ test (Code site) (ltb 3 (held mask site) || ltb 3 code)
      ∷ test (Over site 1) ((surveyed (held mask site) || surveyed code) && ltb full (held frame site))
      ∷ test TooSmall (too_small w h)
      ∷ []

  pub recode_tabled : Tabled (recode_verdict w h full site code mask frame totals counts) recode_tests
  unfolding recode_verdict bad_codes over_either
  recode_tabled =
      tabled_then (shape_tabled w h full)
      (tabled_then (tabled _ [])
      (tabled_then (tabled _ [])
      (tabled_then (tabled _ [])
      (tabled_then (lengths_tabled w h totals counts)
      (tabled_then (tabled_then (tabled _ []) (tabled _ [])) (tabled _ []))))))

  -- what an accepted call has
  pub record Recoding : Type 0 where
    pub legal : bad_sides w h ≡ false
    pub scaled : bad_scale full ≡ false
    pub inside : site < sites_of w h
    pub masked : length mask ≡ sites_of w h
    pub framed : length frame ≡ sites_of w h
    pub totalled : totals ≡ entries_of w h
    pub counted : counts ≡ entries_of w h
    pub old_code : held mask site ≤ 3
    pub new_code : code ≤ 3
    pub old_low : seen_at (held mask site) (held frame site) ≤ full
    pub new_low : seen_at code (held frame site) ≤ full
    pub large : too_small w h ≡ false

  pub recoding : recode_verdict w h full site code mask frame totals counts ≡ clear → Recoding
  unfolding recode_verdict
  recoding e =
      let shape = then_clear _ _ e in
      let three = then_clear _ _ shape.1 in
      let of_mask = then_clear _ _ three.1 in
      let of-frame = then_clear _ _ of_mask.1 in
      let of-table = then_clear _ _ of-frame.1 in
      let of-site = then_clear _ _ of-table.1 in
      let five-six = then_clear _ _ of-site.0 in
      let legal = shape_clear w h full shape.0 in
      let long = lengths_clear w h totals counts of-table.0 in
      let codes = codes_low (held mask site) code (unless _ (bad_codes (held mask site) code) five-six.0) in
      let samples = samples_low full (held mask site) code (held frame site) (unless _ (over_either full (held mask site) code (held frame site)) five-six.1) in
      record {
        legal = legal.0;
        scaled = legal.1;
        inside = leb-false (sites_of w h) site (unless _ (leb (sites_of w h) site) three.0);
        masked = length_clear (sites_of w h) (length mask) of_mask.0;
        framed = length_clear (sites_of w h) (length frame) of-frame.0;
        totalled = long.0;
        counted = long.1;
        old_code = codes.0;
        new_code = codes.1;
        old_low = samples.0;
        new_low = samples.1;
        large = unless _ (too_small w h) of-site.1;
      }

  -- and what has it is accepted
  pub recoding_clear : Recoding → recode_verdict w h full site code mask frame totals counts ≡ clear
  unfolding recode_verdict
  recoding_clear a =
      clear_then (clear_shape w h full a.legal a.scaled)
      (clear_then (clear_unless _ (lt-leb (sites_of w h) site a.inside))
      (clear_then (clear_length (sites_of w h) (length mask) a.masked)
      (clear_then (clear_length (sites_of w h) (length frame) a.framed)
      (clear_then (clear_lengths w h totals counts a.totalled a.counted)
      (clear_then
      (clear_then (clear_unless _ (low_codes (held mask site) code a.old_code a.new_code))
      (clear_unless _ (low_samples full (held mask site) code (held frame site) a.old_low a.new_low)))
      (clear_unless _ a.large))))))

  pub recode_clear : recode_answer w h full site code mask frame totals counts ≡ Ok nothing → recode_verdict w h full site code mask frame totals counts ≡ clear
  unfolding recode_answer
  recode_clear e = (was_accepted (recode_verdict w h full site code mask frame totals counts) e).0

  pub recode_done : recode_verdict w h full site code mask frame totals counts ≡ clear → recode_answer w h full site code mask frame totals counts ≡ Ok nothing
  unfolding recode_answer
  recode_done e = rw e
