-- What is promised of `defective_rows` and `defective_columns`, for any sides, full scale, mask, frame and marks. `lines` is `rows` or `columns`.
use Prim.Native.Nat.{ℕ, ◌+◌, ◌*◌, ◌/◌, ◌%◌, ◌<◌}
use mathlib.Core.Bool.{true}
use mathlib.Core.List.{List, []}
use mathlib.Core.Logic.{◌⊎◌}
use mathlib.Core.Path.{◌≡◌, refl, sym, ap, ◌∙◌}
use native.Mathlib.Nat.{mod-lt}
use native.Mathlib.Omega.{arith}
use lib.Arith.{digits_lt}
use lib.ListN.{length, get_or}
use Rattle.laws.specs.First.{count_to}
use Rattle.laws.specs.Table.{tabulate}
use Rattle.laws.proofs.Sums.{Shifted}
use Rattle.laws.proofs.Tables.{get_d_tabulate, tabulate_ext}
use Rattle.laws.proofs.Sole.{Sole, sole}
use Rattle.verdict.proofs.Verdicts.{Tabled, RefusesCounting, refuses_counting}
use Rattle.verdict.proofs.Answers.{counted_is_told}
use Rattle.verdict.specs.Answer.{nothing}
use Rattle.std.specs.Prelude.{Ok}
use Rattle.verdict.specs.Verdict.{clear}
use Rattle.window.specs.Shape.{sites_of}
use Rattle.window.specs.View.{surveyed, seen, one, above}
use Rattle.window.proofs.Views.{Agree, same_view, Offset, seen_shift}
use Rattle.refusals.specs.Judge.{frame_verdict_by}
use Rattle.refusals.proofs.Ranges.{one_counting}
use Rattle.plane.specs.Plane.{site_at}
use Rattle.plane.proofs.Planes.{site_in, box_shifted}
use Rattle.lines.specs.Lines.{Lines, rows, columns, mark_of, line_sum, mark_at}
use Rattle.lines.specs.Marks.{lines_verdict, lines_answer, paper_of, lines_paper, lines_buffer}
use Rattle.lines.proofs.Pools.{mark_line}
use Rattle.lines.proofs.Marking.{Accepted, tests, table, accepted, accepted_is, done_clear}
use Rattle.lines.proofs.Shifts.{mark_shift, none_far, none_surveyed, zero_or_one, blank_line}
use Rattle.lines.proofs.Turns.{turned, turned_plane, turned_mark, turned_accepted}

module _ (lines : ℕ → ℕ → Lines) (w h full : ℕ) (mask frame marks : List ℕ) where
  -- only: no second answer and no second final buffer meets the promise
  pub only : Sole (lines_answer lines w h full mask frame (length marks)) × Sole (lines_buffer lines w h full mask frame marks)
  only = (sole _, sole _)

  -- the paper's numbers are those of the answer
  pub paper_is : paper_of (lines_answer lines w h full mask frame (length marks)) ≡ lines_paper lines w h full mask frame (length marks)
  unfolding lines_answer lines_paper
  paper_is = counted_is_told nothing nothing (lines_verdict lines w h full mask frame (length marks))

  -- given: 1, 2, 4, 5, 6 and 9 exactly as document 01 tables them, in that order (`tests` has the table)
  pub given : Tabled (lines_verdict lines w h full mask frame (length marks)) (tests lines w h full mask frame (length marks))
  given = table lines w h full mask frame (length marks)

  -- refused: where the number is not 0 the marks are as they were, and where it is 0 so is the place. Where it is 6, over is at least 1 and
  -- just the count of surveyed samples above full scale; else it is 0
  pub refused : RefusesCounting (lines_paper lines w h full mask frame (length marks)) (count_to (sites_of w h) (above full (seen mask frame)))
      (lines_buffer lines w h full mask frame marks ≡ marks)
  unfolding lines_paper lines_buffer
  refused = refuses_counting (lines_verdict lines w h full mask frame (length marks)) given refl refl (one_counting w h full (seen mask frame)) (λ r e. rw e)

  -- blind: what another frame holds at unsurveyed sites changes nothing of the answer, no count either, and no mark
  pub blind : (other : List ℕ) → Agree mask frame other
      → (lines_answer lines w h full mask frame (length marks) ≡ lines_answer lines w h full mask other (length marks))
      × (lines_buffer lines w h full mask frame marks ≡ lines_buffer lines w h full mask other marks)
  unfolding lines_answer lines_buffer lines_verdict frame_verdict_by
  blind other a = (rw (a.long, same_view a), rw (a.long, same_view a))

  -- of an accepted call
  module _ (done : lines_answer lines w h full mask frame (length marks) ≡ Ok tt) where
    passed : lines_verdict lines w h full mask frame (length marks) ≡ clear
    passed = done_clear lines w h full mask frame (length marks) done

    fits : Accepted lines w h full mask frame (length marks)
    fits = accepted lines w h full mask frame (length marks) passed

    written : lines_buffer lines w h full mask frame marks ≡ tabulate (length marks) (mark_at (lines w h) w h (one mask) (seen mask frame))
    written = sym (accepted_is lines w h full mask frame marks passed).1.1

    at : (i : ℕ) → i < length marks → get_or (lines_buffer lines w h full mask frame marks) i 0 ≡ mark_at (lines w h) w h (one mask) (seen mask frame) i
    at i l = ap (λ (b : List ℕ). get_or b i 0) written ∙ get_d_tabulate (length marks) _ i l

    -- every mark is 0 or 1
    pub binary : (i : ℕ) → i < length marks
        → (get_or (lines_buffer lines w h full mask frame marks) i 0 ≡ 0) ⊎ (get_or (lines_buffer lines w h full mask frame marks) i 0 ≡ 1)
    unfolding mark_at
    binary i l = rw (at i l) (zero_or_one _ _ _ _)

    -- line l of a plane
    module _ (plane l : ℕ) (few : plane < 4) (below : l < (lines w h).count) where
      inside : plane * (lines w h).count + l < length marks
      inside = omega (arith, digits_lt few below, fits.marked)

      -- is marked by the counts and sums of its own plane's lines, in its plane's place
      pub marked_by : get_or (lines_buffer lines w h full mask frame marks) (plane * (lines w h).count + l) 0
          ≡ mark_of (lines w h).count (line_sum (lines w h) w h plane (one mask)) (line_sum (lines w h) w h plane (seen mask frame)) l
      marked_by = at (plane * (lines w h).count + l) inside ∙ mark_line (lines w h) w h _ _ plane l below

      -- a line with no surveyed site is never marked
      pub unsurveyed : line_sum (lines w h) w h plane (one mask) l ≡ 0
          → get_or (lines_buffer lines w h full mask frame marks) (plane * (lines w h).count + l) 0 ≡ 0
      unsurveyed e = marked_by ∙ none_surveyed _ l _ _ e

      -- a plane of equal samples has no mark
      pub equal : (v : ℕ)
          → ((y x : ℕ) → y < h / 2 → x < w / 2 → surveyed (get_or mask (site_at w plane y x) 0) ≡ true → get_or frame (site_at w plane y x) 0 ≡ v)
          → get_or (lines_buffer lines w h full mask frame marks) (plane * (lines w h).count + l) 0 ≡ 0
      equal v same =
          let n = (lines w h).count in
          let counts : ℕ → ℕ = line_sum (lines w h) w h plane (one mask) in
          let totals : ℕ → ℕ = line_sum (lines w h) w h plane (seen mask frame) in
          let grown : (m : ℕ) → Shifted v 0 (counts m) (line_sum (lines w h) w h plane (seen mask []) m) (totals m) =
          λ m. box_shifted w h plane ((lines w h).line m) v 0 (one mask) (seen mask []) (seen mask frame)
          (λ y x p q. seen_shift mask [] frame v 0 (site_at w plane y x) (λ s. omega (arith, same y x p q s))) in
          marked_by
          ∙ sym (mark_shift n v 0 l fits.nine below counts (λ (m : ℕ). 0) totals (λ m b. omega (arith, grown m, blank_line (lines w h) w h plane mask m)))
          ∙ none_far n l counts

  -- adding one constant, up less down, to every surveyed sample, none leaving 0 to full scale, changes no mark
  pub shifted : (other : List ℕ) (up down : ℕ) → Offset up down mask frame other
      → lines_answer lines w h full mask frame (length marks) ≡ Ok tt → lines_answer lines w h full mask other (length marks) ≡ Ok tt
      → lines_buffer lines w h full mask frame marks ≡ lines_buffer lines w h full mask other marks
  unfolding mark_at
  shifted other up down shift p q =
      let fit = fits p in
      let n = (lines w h).count in
      let nine = fit.nine in
      written p
      ∙ tabulate_ext (length marks) _ _ (λ i l. mark_shift n up down (i % n) nine (mod-lt i (omega arith)) _ _ _
      (λ m b. box_shifted w h (i / n) ((lines w h).line m) up down (one mask) (seen mask frame) (seen mask other)
      (λ y x low in_row. seen_shift mask frame other up down (site_at w (i / n) y x)
      (shift (site_at w (i / n) y x) (omega (arith, site_in w h (i / n) y low x in_row, fit.lent.of.masked, fit.legal.sites))))))
      ∙ (accepted_is lines w h full mask other marks (done_clear lines w h full mask other (length marks) q)).1.1

-- the mark of column l of plane (a,b) is the mark of row l of plane (b,a) of the turned window, which is accepted too
pub turns : (w h full : ℕ) (mask frame marks : List ℕ) → lines_answer columns w h full mask frame (length marks) ≡ Ok tt
    → (lines_answer rows h w full (turned w h mask) (turned w h frame) (length marks) ≡ Ok tt)
    × ((plane l : ℕ) → plane < 4 → l < w / 2
    → get_or (lines_buffer columns w h full mask frame marks) (plane * (w / 2) + l) 0
    ≡ get_or (lines_buffer rows h w full (turned w h mask) (turned w h frame) marks) (turned_plane plane * (w / 2) + l) 0)
turns w h full mask frame marks done =
    let over = sym (accepted_is rows h w full (turned w h mask) (turned w h frame) marks (turned_accepted w h full mask frame (length marks) (passed columns w h full mask frame marks done))).0 in
    let fit = fits columns w h full mask frame marks done in (
      over,
      λ plane l few below.
          marked_by columns w h full mask frame marks done plane l few below
          ∙ turned_mark w h (omega (arith, fit.legal.high.low)) mask frame plane l fit.nine below
          ∙ sym (marked_by rows h w full (turned w h mask) (turned w h frame) marks over (turned_plane plane) l (omega arith) below),
    )
