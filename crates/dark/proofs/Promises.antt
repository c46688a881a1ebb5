-- What is promised of `dark_level`, for any sides, full scale, black level, mask and frame.
use Prim.Native.Nat.{ℕ, ◌*◌, ◌<◌}
use mathlib.Core.List.{List}
use mathlib.Core.Path.{◌≡◌, refl, sym, ap, ◌∙◌}
use native.Mathlib.Omega.{arith}
use lib.Dec.{ltb}
use lib.IntN.{ℤ, pos}
use lib.Signed.{lt_z}
use Rattle.std.specs.Prelude.{Ok}
use Rattle.laws.specs.First.{count_to}
use Rattle.laws.specs.Sum.{sum_to}
use Rattle.laws.specs.Signed.{◌⊖◌}
use Rattle.laws.proofs.Signeds.{⊖-below, ⊖-self, ⊖-cross}
use Rattle.laws.proofs.Sole.{Sole, sole}
use Rattle.verdict.proofs.Verdicts.{Tabled, RefusesCounting, refuses_counting}
use Rattle.verdict.proofs.Answers.{counted_is_told}
use Rattle.window.specs.Shape.{sites_of}
use Rattle.window.specs.View.{seen, one, above}
use Rattle.window.proofs.Views.{Agree, same_view}
use Rattle.refusals.specs.Judge.{frame_verdict_by}
use Rattle.refusals.proofs.Ranges.{one_counting}
use Rattle.dark.specs.Dark.{above_black, dark_verdict, figures, no_figures, dark_figures, dark_answer, paper_of, dark_paper}
use Rattle.dark.proofs.Levels.{tests, table, accepted, answer_is}

module _ (w h full black : ℕ) (mask frame : List ℕ) where
  -- only: no second answer meets the promise
  pub only : Sole (dark_answer w h full black mask frame)
  only = sole _

  -- the paper's numbers are those of the answer
  pub paper_is : paper_of (dark_answer w h full black mask frame) ≡ dark_paper w h full black mask frame
  unfolding dark_answer dark_paper
  paper_is = counted_is_told no_figures (dark_figures w h black mask frame) (dark_verdict w h full black mask frame)

  -- given: 1 to 7 exactly as document 01 tables them, in that order (`tests` has the table)
  pub given : Tabled (dark_verdict w h full black mask frame) (tests w h full black mask frame)
  given = table w h full black mask frame

  -- refused: where the number is not 0 both figures are 0, and where it is 0 so is the place. Where it is 6, over is at least 1 and just the
  -- count of surveyed samples above full scale; else it is 0
  pub refused : RefusesCounting (dark_paper w h full black mask frame) (count_to (sites_of w h) (above full (seen mask frame)))
      ((dark_paper w h full black mask frame).figures ≡ no_figures)
  unfolding dark_paper
  refused = refuses_counting (dark_verdict w h full black mask frame) given refl refl (one_counting w h full (seen mask frame)) (λ r e. rw e)

  -- blind: what another frame holds at unsurveyed sites changes nothing, no count either
  pub blind : (other : List ℕ) → Agree mask frame other → dark_answer w h full black mask frame ≡ dark_answer w h full black mask other
  unfolding dark_answer dark_verdict frame_verdict_by
  blind other a = rw (a.long, same_view a)

  -- of an accepted call with the level a / n
  module _ (a : ℤ) (n : ℕ) (answer : dark_answer w h full black mask frame ≡ Ok (figures a n)) where
    -- n counts the surveyed sites, of which there are some
    pub counts : (n ≡ sum_to (sites_of w h) (one mask)) × (0 < n)
    counts =
        let told = answer_is w h full black mask frame a n answer in
        (told.1.1, rw told.1.1 (accepted w h full black mask frame told.0).some)

    level : a ≡ sum_to (sites_of w h) (seen mask frame) ⊖ black * n
    unfolding above_black
    level =
        let told = answer_is w h full black mask frame a n answer in
        told.1.0 ∙ ap (λ (m : ℕ). sum_to (sites_of w h) (seen mask frame) ⊖ black * m) (sym told.1.1)

    -- the level is negative exactly where the mean of the surveyed samples is below the black level: their sum below black level × n
    pub negative : lt_z a (pos 0) ≡ ltb (sum_to (sites_of w h) (seen mask frame)) (black * n)
    negative = rw level (⊖-below (sum_to (sites_of w h) (seen mask frame)) (black * n))

    -- and 0 exactly where the mean is the black level
    pub zero_at : sum_to (sites_of w h) (seen mask frame) ≡ black * n → a ≡ pos 0
    zero_at e = level ∙ ap (λ (s : ℕ). s ⊖ black * n) e ∙ ⊖-self (black * n)

    pub zero_only : a ≡ pos 0 → sum_to (sites_of w h) (seen mask frame) ≡ black * n
    zero_only e =
        omega (arith, ⊖-cross (sum_to (sites_of w h) (seen mask frame)) (black * n) (black * n) (black * n) (sym level ∙ e ∙ sym (⊖-self (black * n))))
