-- The verdict of `shading_judge`, what an accepted call has, and what the verdict makes of the answer and the buffers.
use Prim.Native.Nat.{ℕ, ◌*◌, ◌/◌, ◌≤◌, ◌<◌}
use mathlib.Core.Bool.{false}
use mathlib.Core.List.{List, [], ◌∷◌, ◌++◌}
use mathlib.Core.Path.{◌≡◌, refl, sym}
use native.Mathlib.Omega.{arith}
use lib.Dec.{eqb, ltb}
use lib.ListN.{length}
use borrow.Author.Tests.{ltb-false, eqb-false}
use Rattle.verdict.specs.Answer.{Nothing, nothing}
use Rattle.laws.specs.Table.{held}
use Rattle.laws.proofs.Cases.{neither}
use Rattle.laws.proofs.Firsts.{first_nowhere}
use Rattle.laws.proofs.Tables.{get_d_tabulate}
use Rattle.verdict.specs.Verdict.{clear}
use Rattle.verdict.specs.declared.Refusal.{Refusal}
use Rattle.verdict.proofs.Verdicts.{Test, Tabled, Passed, past, end, test, tabled, tabled_then, then_clear, unless}
use Rattle.verdict.proofs.Answers.{was_accepted}
use Rattle.verdict.specs.declared.Refusal.TheVariants.{Sides, FullScale, Parameter, Length, TooSmall, Impossible}
use Rattle.std.specs.Prelude.{Result, Ok, Err}
use Rattle.window.specs.Shape.{bad_sides, bad_scale}
use Rattle.window.proofs.Sides as sides
use Rattle.refusals.specs.Judge.{other_than}
use Rattle.refusals.proofs.Chains.{shape_tabled, same_length}
use Rattle.colour.specs.Centre.{too_small}
use Rattle.blocks.specs.Areas.{blocks_of, area_sites, entries_of, entry_area}
use Rattle.blocks.proofs.Promises.{Credible}
use Rattle.shading.specs.Judge.{bad_limit, impossible, impossible_at, impossible_in, lent_verdict, judge_verdict, shade_at, shades_of, judge_answer, paper_of, judge_paper, judge_buffer, judge_numerators, judge_denominators, judge_refusals, judge_fails}
use Rattle.shading.specs.declared.Asked.{Asked}
use Rattle.shading.specs.declared.Lengths.{Lengths}
use Rattle.shading.specs.Shade.{Written}

-- an entry that 11 lets pass
module _ (full sites total count : ℕ) where
  pub credible_entry : impossible full sites total count ≡ false → Credible full sites total count
  unfolding impossible
  credible_entry e =
      let both = neither (ltb sites count) (ltb (count * full) total) e in
      record { few = ltb-false sites count both.0; low = ltb-false (count * full) total both.1 }

-- so is every entry of a table that it lets pass
pub credible : (w h full : ℕ) (totals counts : List ℕ) → impossible_in w h full totals counts ≡ false
    → (e : ℕ) → e < entries_of w h → Credible full (area_sites w h (entry_area w h e)) (held totals e) (held counts e)
unfolding impossible_in
credible w h full totals counts none e l =
    credible_entry _ _ _ _ (first_nowhere (impossible_at w h full totals counts) (entries_of w h) none e l)

-- what is lent where 1 to 4 and 9 refuse nothing
module _ (call : Asked) (long : Lengths) (totals counts : ℕ) where
  abbrev pub lent_tests : List Test
  lent_tests =
      test Sides (bad_sides call.width call.height)
      ∷ test FullScale (bad_scale call.full)
      ∷ test Parameter (ltb call.full call.black)
      ∷ test Parameter (ltb 3 call.order)
      ∷ test Parameter (bad_limit call.limit)
      ∷ test Length (other_than (entries_of call.width call.height) totals)
      ∷ test Length (other_than (entries_of call.width call.height) counts)
      ∷ test Length (other_than (2 * blocks_of call.width call.height) long.numerators)
      ∷ test Length (other_than (2 * blocks_of call.width call.height) long.denominators)
      ∷ test Length (other_than (2 * blocks_of call.width call.height) long.refusals)
      ∷ test Length (other_than (2 * blocks_of call.width call.height) long.fails)
      ∷ test TooSmall (too_small call.width call.height)
      ∷ []

  lent_table : Tabled (lent_verdict call long totals counts) lent_tests
  unfolding lent_verdict
  lent_table =
      tabled_then (shape_tabled call.width call.height call.full)
      (tabled_then (tabled _ (_ ∷ _ ∷ []))
      (tabled_then (tabled _ (_ ∷ []))
      (tabled_then (tabled _ (_ ∷ _ ∷ _ ∷ [])) (tabled _ []))))

  pub record Lent : Type 0 where
    pub legal : bad_sides call.width call.height ≡ false
    pub wide : 32 ≤ call.width / 2
    pub high : 24 ≤ call.height / 2
    pub scale : call.full ≤ 4095
    pub dark : call.black ≤ call.full
    pub order : call.order ≤ 3
    pub limit_low : 1 ≤ call.limit
    pub limit_high : call.limit ≤ 16
    pub totals_long : totals ≡ entries_of call.width call.height
    pub counts_long : counts ≡ entries_of call.width call.height
    pub numerators_long : long.numerators ≡ 2 * blocks_of call.width call.height
    pub denominators_long : long.denominators ≡ 2 * blocks_of call.width call.height
    pub refusals_long : long.refusals ≡ 2 * blocks_of call.width call.height
    pub fails-long : long.fails ≡ 2 * blocks_of call.width call.height

  pub lent : lent_verdict call long totals counts ≡ clear → Lent
  unfolding bad_limit too_small
  lent e = by (lent_table.clear e)
    where
      by : Passed lent_tests → Lent
      by (past legal (past full (past black (past order (past limit (past t (past c (past n (past d (past r (past f (past small end)))))))))))) =
          let limited = neither (eqb call.limit 0) (ltb 16 call.limit) limit in
          let large = neither (ltb (call.width / 2) 32) (ltb (call.height / 2) 24) small in
          let some = eqb-false call.limit 0 limited.0 in
          record {
            legal = legal;
            wide = ltb-false (call.width / 2) 32 large.0;
            high = ltb-false (call.height / 2) 24 large.1;
            scale = (sides.scale call.full full).high;
            dark = ltb-false call.full call.black black;
            order = ltb-false 3 call.order order;
            limit_low = omega arith;
            limit_high = ltb-false 16 call.limit limited.1;
            totals_long = same_length (entries_of call.width call.height) totals t;
            counts_long = same_length (entries_of call.width call.height) counts c;
            numerators_long = same_length (2 * blocks_of call.width call.height) long.numerators n;
            denominators_long = same_length (2 * blocks_of call.width call.height) long.denominators d;
            refusals_long = same_length (2 * blocks_of call.width call.height) long.refusals r;
            fails-long = same_length (2 * blocks_of call.width call.height) long.fails f;
          }

module _ (call : Asked) (long : Lengths) (totals counts : List ℕ) where
  -- the tests in the order of document 02, j: then 11; 7 and 10 are each block's own, after it
  abbrev pub tests : List Test
  tests = lent_tests call long (length totals) (length counts) ++ (test Impossible (impossible_in call.width call.height call.full totals counts) ∷ [])

  pub table : Tabled (judge_verdict call long totals counts) tests
  unfolding judge_verdict
  table = tabled_then (lent_table call long (length totals) (length counts)) (tabled _ [])

  -- what an accepted call has
  pub record Accepted : Type 0 where
    pub of : Lent call long (length totals) (length counts)
    pub possible : impossible_in call.width call.height call.full totals counts ≡ false

  pub accepted : judge_verdict call long totals counts ≡ clear → Accepted
  unfolding judge_verdict
  accepted e =
      let both = then_clear _ _ e in
      record {
        of = lent call long (length totals) (length counts) both.0;
        possible = unless _ (impossible_in call.width call.height call.full totals counts) both.1;
      }

  -- done is told of a clear verdict only
  pub done_clear : judge_answer call long totals counts ≡ Ok nothing → judge_verdict call long totals counts ≡ clear
  unfolding judge_answer
  done_clear e = (was_accepted (judge_verdict call long totals counts) e).0

  -- an accepted call's buffers hold the shades' parts
  pub written : judge_verdict call long totals counts ≡ clear → (part : Written → ℕ) (buffer : List ℕ) (j : ℕ) → j < 2 * blocks_of call.width call.height
      → held (judge_buffer part call long totals counts buffer) j ≡ part (shade_at call totals counts j)
  unfolding judge_buffer
  written e part buffer j l = rw e (get_d_tabulate (2 * blocks_of call.width call.height) (λ (i : ℕ). part (shade_at call totals counts i)) j l)

  -- what the verdict makes of the answer and the buffers
  module _ (numerators denominators refusals fails : List ℕ) where
    pub refused_is : (told : Result Nothing Refusal) (r : Refusal) → told ≡ Err r → Err r ≡ judge_verdict call long totals counts
        → (told ≡ judge_answer call long totals counts)
        × ((paper_of told ≡ judge_paper call long totals counts)
        × ((numerators ≡ judge_numerators call long totals counts numerators)
        × ((denominators ≡ judge_denominators call long totals counts denominators)
        × ((refusals ≡ judge_refusals call long totals counts refusals)
        × (fails ≡ judge_fails call long totals counts fails)))))
    unfolding judge_answer judge_paper judge_buffer
    refused_is told r s e = rw (s, sym e) (refl, (refl, (refl, (refl, (refl, refl)))))

    pub accepted_is : judge_verdict call long totals counts ≡ clear
        → (Ok nothing ≡ judge_answer call long totals counts)
        × ((paper_of (Ok nothing) ≡ judge_paper call long totals counts)
        × ((shades_of (λ (s : Written). s.numerator) call totals counts ≡ judge_numerators call long totals counts numerators)
        × ((shades_of (λ (s : Written). s.denominator) call totals counts ≡ judge_denominators call long totals counts denominators)
        × ((shades_of (λ (s : Written). s.number) call totals counts ≡ judge_refusals call long totals counts refusals)
        × (shades_of (λ (s : Written). s.fail) call totals counts ≡ judge_fails call long totals counts fails)))))
    unfolding judge_answer judge_paper judge_buffer
    accepted_is e = rw e (refl, (refl, (refl, (refl, (refl, refl)))))
