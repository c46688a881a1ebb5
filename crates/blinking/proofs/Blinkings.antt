-- The verdict on a stack whose blinking sites are asked for, and what it makes of the answer.
use Prim.Native.Nat.{ℕ, ◌≤◌, ◌<◌}
use mathlib.Core.Bool.{false, ◌||◌}
use mathlib.Core.List.{List, [], ◌∷◌}
use mathlib.Core.Path.{◌≡◌, refl, sym, ◌∙◌}
use native.Mathlib.Omega.{arith}
use lib.ListN.{length}
use Rattle.laws.specs.First.{count_to}
use Rattle.laws.proofs.Cases.{neither, Within, within_is, is_within}
use Rattle.verdict.specs.Verdict.{clear, ◌⨟◌, refuse_if}
use Rattle.verdict.proofs.Verdicts.{Test, Tabled, test, tabled, tabled_then, then_same, then_clear, clear_then, unless, clear_unless}
use Rattle.verdict.proofs.Answers.{was_accepted}
use Rattle.verdict.specs.declared.Refusal.{Refusal}
use Rattle.verdict.specs.declared.Refusal.TheVariants.{Sides, FullScale, Parameter, Length, Impossible}
use Rattle.std.specs.Prelude.{Ok, Err}
use Rattle.window.specs.Shape.{bad_count, bad_sides, bad_scale, sites_of}
use Rattle.window.proofs.Sides.{Count, frame_count, is_count, sites-few}
use Rattle.refusals.specs.Judge.{other_than, mask_verdict}
use Rattle.refusals.proofs.Judges.{codes_test, Masked, mask_clear, clear_mask, mask_tabled}
use Rattle.stack.specs.State.{Stack, stack_lengths, impossible_in}
use Rattle.stack.specs.Walk.{found_impossible}
use Rattle.stack.proofs.Sites.{Lengths, lengths_clear, clear_lengths, lengths_tabled, PossibleAt, asked-whole, all-possible}
use Rattle.blinking.specs.Blinking.{bad_spread, blinks, blinking_verdict, blinking_count, blinking_answer, blinking_paper_of, blinking_paper}

-- a spread that 3 does not refuse is from 1 to 4,095, and one from 1 to 4,095 it does not refuse
abbrev pub Spread : ℕ → Type 0
Spread n = Within 4095 n

spread_is : (n : ℕ) → bad_spread n ≡ false → Spread n
unfolding bad_spread
spread_is n e = within_is 4095 n e

pub is_spread : (n : ℕ) → Spread n → bad_spread n ≡ false
unfolding bad_spread
is_spread n s = is_within 4095 n s

module _ (w h full spread : ℕ) (mask : List ℕ) (s : Stack) where
  -- the tests in the order of document 02, i
  abbrev pub tests : List Test
  tests =
      test Sides (bad_sides w h)
      ∷ test FullScale (bad_scale full)
      ∷ test Parameter (bad_spread spread || bad_count s.frames)
      ∷ test Length (other_than (sites_of w h) (length mask))
      ∷ test Length (other_than (sites_of w h) (length s.sums))
      ∷ test Length (other_than (sites_of w h) (length s.squares))
      ∷ test Length (other_than (sites_of w h) (length s.least))
      ∷ test Length (other_than (sites_of w h) (length s.greatest))
      ∷ codes_test (sites_of w h) mask
      ∷ test Impossible (impossible_in (sites_of w h) full mask s)
      ∷ []

  pub table : Tabled (blinking_verdict w h full spread mask s) tests
  unfolding blinking_verdict
  table = tabled_then (mask_tabled w h full mask (tabled _ []) (lengths_tabled w h s)) (tabled _ [])

  -- 11 is asked of the stack of a whole window: 4 comes first
  pub judged : mask_verdict w h full (refuse_if Parameter (bad_spread spread || bad_count s.frames)) mask (stack_lengths w h s)
      ⨟ refuse_if Impossible (found_impossible full mask s)
      ≡ blinking_verdict w h full spread mask s
  unfolding blinking_verdict
  judged =
      then_same (mask_verdict w h full (refuse_if Parameter (bad_spread spread || bad_count s.frames)) mask (stack_lengths w h s)) (λ e.
      let lent = mask_clear w h full mask e in
      let count = (neither (bad_spread spread) (bad_count s.frames) (unless _ _ lent.0)).1 in
      rw (asked-whole w h full mask s lent.2 (frame_count s.frames count).high lent.1))

  -- what 1 to 5 let pass
  pub record Lent : Type 0 where
    pub wide : Spread spread
    pub count : Count s.frames
    pub masked : Masked w h full mask
    pub long : Lengths w h s

  -- what a stack is that is not refused
  pub record Accepted : Type 0 where
    pub lent : Lent
    pub possible : (i : ℕ) → i < sites_of w h → PossibleAt full mask s i

  pub accepted : blinking_verdict w h full spread mask s ≡ clear → Accepted
  unfolding blinking_verdict
  accepted e =
      let both = then_clear _ _ e in
      let lent = mask_clear w h full mask both.0 in
      let three = neither (bad_spread spread) (bad_count s.frames) (unless _ _ lent.0) in
      record {
        lent = record {
          wide = spread_is spread three.0;
          count = frame_count s.frames three.1;
          masked = lent.2;
          long = lengths_clear w h s lent.1;
        };
        possible = all-possible (sites_of w h) full mask s (unless _ _ both.1);
      }

  -- what 1 to 5 let pass is accepted where 11 does not apply
  pub not_refused : Lent → impossible_in (sites_of w h) full mask s ≡ false → blinking_verdict w h full spread mask s ≡ clear
  unfolding blinking_verdict
  not_refused lent possible =
      clear_then
      (clear_mask w h full mask lent.masked
      (clear_unless _ (rw (is_spread spread lent.wide) (is_count s.frames lent.count)))
      (clear_lengths w h s lent.long))
      (clear_unless _ possible)

  -- what a count that is answered says
  pub answer_is : (n : ℕ) → blinking_answer w h full spread mask s ≡ Ok n → Accepted × (n ≡ blinking_count w h spread mask s)
  unfolding blinking_answer
  answer_is n e =
      let was = was_accepted (blinking_verdict w h full spread mask s) e in
      (accepted was.0, sym was.1)

  -- what is answered where the verdict refuses
  pub refused_is : (r : Refusal) → blinking_verdict w h full spread mask s ≡ Err r
      → (Err r ≡ blinking_answer w h full spread mask s) × (blinking_paper_of (Err r) ≡ blinking_paper w h full spread mask s)
  unfolding blinking_answer blinking_paper
  refused_is r e = rw e (refl, refl)

  -- what is answered where the verdict is clear
  module _ (passed : blinking_verdict w h full spread mask s ≡ clear) where
    -- what the count asks of the buffers
    pub countable : (length mask ≤ 16384) × (length s.least ≡ length mask) × (length s.greatest ≡ length mask)
    countable =
        let a = (accepted passed).lent in
        let whole = sym a.masked.masked in
        (omega (arith, a.masked.masked, sites-few w h), a.long.of_least ∙ whole, a.long.of_greatest ∙ whole)

    pub accepted_is : (n : ℕ) → n ≡ count_to (length mask) (blinks spread mask s.least s.greatest) → n ≡ blinking_count w h spread mask s
    accepted_is n e = rw (e, (accepted passed).lent.masked.masked) refl
