-- What is promised of `pattern_vertical` and `pattern_horizontal`, for any numbers, any mask and any sums.
use Prim.Native.Nat.{ℕ, ◌-◌, ◌*◌, ◌<◌, ◌≤◌}
use mathlib.Core.List.{List}
use mathlib.Core.Path.{◌≡◌, refl, sym, ◌∙◌}
use native.Mathlib.Nat.{mul_assoc}
use native.Mathlib.Omega.{arith}
use Rattle.laws.specs.Table.{held}
use Rattle.laws.proofs.Cases.{times_le}
use Rattle.laws.proofs.Sole.{Sole, sole}
use Rattle.verdict.specs.Answer.{Paper, paper_for}
use Rattle.verdict.proofs.Verdicts.{Tabled, Refuses, refuses}
use Rattle.verdict.proofs.Answers.{answer_same}
use Rattle.verdict.specs.Verdict.{Verdict, clear}
use Rattle.std.specs.Prelude.{Ok, Err}
use Rattle.window.proofs.Views.{Agree, same_view}
use Rattle.window.specs.declared.Lines as window
use Rattle.window.specs.declared.Lines.TheVariants.{Rows}
use Rattle.pattern.specs.Lines.{Lines, columns, rows, line_total}
use Rattle.pattern.specs.Figures.{no_figures, figures_of}
use Rattle.pattern.specs.Pattern.{pattern_verdict, pattern_figures, pattern_answer, paper_of, pattern_paper}
use Rattle.pattern.specs.Walk.{lined}
use Rattle.pattern.specs.declared.Figures.{Figures}
use Rattle.pattern.proofs.Totals.{count_is, long_is, side_le, side_ge, total_le, total_flat}
use Rattle.pattern.proofs.Figuring.{level-le, max-le, level_flat, max_flat}
use Rattle.pattern.proofs.Deviations.{signed_deviation, GreatestSize, NoneOut, max-greatest, zero_none, none_zero}
use Rattle.pattern.proofs.Judges.{Clean, tests, table, clean, figures_seen, answer_is, paper_of_answer}
use Rattle.pattern.proofs.Measures.{unit_le}
use Rattle.pattern.proofs.Negatives.{Negative, negate, negates, verdict_negative, seen_negative}
use Rattle.pattern.proofs.Turns.{Turned, Twin, alike, moved, verdict_turned, figures_turned}

-- of either call: `lines` is `columns` or `rows`
module _ (lines : ℕ → ℕ → Lines) (w h full k : ℕ) (mask : List ℕ) where
  -- only: no second answer meets the promise
  pub only : (sums : List ℕ) → Sole (pattern_answer lines w h full k mask sums)
  only sums = sole _

  -- blind: sums that agree at every surveyed site get the same answer
  pub blind : {sums others : List ℕ} → Agree mask sums others
      → pattern_answer lines w h full k mask sums ≡ pattern_answer lines w h full k mask others
  unfolding pattern_answer pattern_verdict
  blind a = rw (a.long, same_view a)

  -- the paper's numbers are those of the answer
  pub paper_is : (sums : List ℕ) → paper_of (pattern_answer lines w h full k mask sums) ≡ pattern_paper lines w h full k mask sums
  paper_is sums = paper_of_answer lines w h full k mask sums refl

  -- given: 1, 2, 3, 4, 5, 8, 9 and 11 exactly as document 01 tables them, in that order (`tests` has the table)
  pub given : (sums : List ℕ) → Tabled (pattern_verdict lines w h full k mask sums) (tests lines w h full k mask sums)
  given sums = table lines w h full k mask sums

  -- refused: where the number is not 0 every figure is 0, and where it is 0 so is the place
  pub refused : (sums : List ℕ)
      → Refuses (pattern_paper lines w h full k mask sums).number (pattern_paper lines w h full k mask sums).place
      ((pattern_paper lines w h full k mask sums).figures ≡ no_figures)
  unfolding pattern_paper
  refused sums = refuses (pattern_verdict lines w h full k mask sums) (given sums) refl (λ r e. rw e)

-- ---- of an accepted call, vertical or horizontal
-- the level squared and Max are from 0 to 1, and all four numbers are far within 64 bits
pub record Bounded (f : Figures) : Type 0 where
  pub level : f.level_numerator ≤ f.level_denominator
  pub level_some : 0 < f.level_denominator
  pub level_room : f.level_denominator ≤ 348924506112000000
  pub max : f.max_numerator ≤ f.max_denominator
  pub max_some : 0 < f.max_denominator
  pub max_room : f.max_denominator ≤ 524160000

module _ (way : window.Lines) (w h full k : ℕ) (mask sums : List ℕ) (figures : Figures)
    (accepted : pattern_answer (lined way) w h full k mask sums ≡ Ok figures) where
  passed : Clean way w h full k mask sums
  passed = clean way w h full k mask sums (answer_is (lined way) w h full k mask sums figures accepted).0

  are : figures ≡ pattern_figures (lined way w h) full k (held sums)
  are =
      (answer_is (lined way) w h full k mask sums figures accepted).1
      ∙ sym (figures_seen way w h full k mask sums passed)

  -- how many lines there are, and their totals
  abbrev n : ℕ
  n = (lined way w h).count

  abbrev C : ℕ → ℕ
  C = line_total (lined way w h) (held sums)

  enough : 12 ≤ n
  enough = rw (count_is way w h) passed.enough

  -- bounded: nothing overflows within the limits
  pub bounded : Bounded figures
  unfolding figures_of
  bounded = rw are (record {
    level = level-le n unit C enough small;
    level_some = times_le 1 (1 * 1) (n - 1) (unit * unit) (omega (arith, enough)) (times_le 1 1 unit unit unit_low unit_low);
    level_room = times_le (n - 1) (unit * unit) 127 2747437056000000 few (times_le unit unit 52416000 52416000 unit_high unit_high);
    max = max-le n unit C enough small;
    max_some = omega (arith, unit_low);
    max_room = omega (arith, unit_high);
  })
    where
      unit : ℕ
      unit = (lined way w h).long * k * full

      small : (i : ℕ) → i < n → C i ≤ unit
      small i l = omega (arith, total_le way w h (held sums) (k * full) passed.fair.possible i l, mul_assoc (lined way w h).long k full)

      few : n - 1 ≤ 127
      few = omega (arith, count_is way w h, side_le way h w 128 passed.fair.high passed.fair.wide)

      sites : 1 ≤ (lined way w h).long
      sites = omega (arith, long_is way w h, side_ge way w h 2 passed.legal.wide.low passed.legal.high.low)

      unit_low : 1 ≤ unit
      unit_low = times_le 1 1 ((lined way w h).long * k) full (times_le 1 1 (lined way w h).long k sites passed.some) passed.range.low

      unit_high : unit ≤ 52416000
      unit_high = rw (long_is way w h) (unit_le way w h full k sums passed.fair)

  -- even: a window of equal sums has level 0 and Max 0
  pub even : (s : ℕ) → ((i : ℕ) → i < h * w → held sums i ≡ s) → (figures.level_numerator ≡ 0) × (figures.max_numerator ≡ 0)
  unfolding figures_of
  even s same = rw are (level_flat n c C enough flat, max_flat n c C enough flat)
    where
      c : ℕ
      c = (lined way w h).long * s

      flat : (i : ℕ) → i < n → C i ≡ c
      flat = total_flat way w h (held sums) s same

  -- greatest: of the lines from 5 to n − 6 none has a deviation, with its sign, above Max or below −Max, and some line's is Max or −Max
  pub greatest : GreatestSize n figures.max_numerator (signed_deviation C)
  unfolding figures_of
  greatest = rw are (max-greatest n C enough)

  -- none_out: Max is 0 exactly where every deviation from line 5 to n − 6 is 0
  pub none_out : (figures.max_numerator ≡ 0 → NoneOut n (signed_deviation C)) × (NoneOut n (signed_deviation C) → figures.max_numerator ≡ 0)
  unfolding figures_of
  none_out = rw are (zero_none n C, none_zero n C enough)

-- ---- two calls compared
-- negative: a stack and its negative get the same answer, whatever the mask: a dark stripe counts as a bright one
pub negative : (way : window.Lines) (w h full k : ℕ) (mask : List ℕ) {sums others : List ℕ} → Negative (k * full) sums others
    → pattern_answer (lined way) w h full k mask sums ≡ pattern_answer (lined way) w h full k mask others
unfolding pattern_answer
negative way w h full k mask {sums} {others} n =
    let v = verdict_negative w h full k mask n (lined way) in
    rw v
    (answer_same (pattern_verdict (lined way) w h full k mask others) (λ e.
    seen_negative w h full k mask n way (clean way w h full k mask sums (v ∙ e)) (clean way w h full k mask others e)))

-- negated: where every sum s of an accepted stack is replaced by k × full scale − s, the figures are the same
pub negated : (way : window.Lines) (w h full k : ℕ) (mask sums : List ℕ) (figures : Figures)
    → pattern_answer (lined way) w h full k mask sums ≡ Ok figures
    → pattern_answer (lined way) w h full k mask (negate (k * full) sums) ≡ Ok figures
negated way w h full k mask sums figures accepted =
    let fair = (passed way w h full k mask sums figures accepted).fair in
    sym (negative way w h full k mask (negates (k * full) sums (λ i l. fair.possible i (omega (arith, fair.long))))) ∙ accepted

-- turned: the vertical call of a window is the horizontal call of its transpose, but for the place of a 5
pub record SameButPlace (p q : Paper Figures) : Type 0 where
  pub number : p.number ≡ q.number
  pub figures : p.figures ≡ q.figures
  pub place : (p.number ≡ 5 → ⊥) → p.place ≡ q.place

-- as the papers of twins are
twin_papers : {v u : Verdict} → Twin v u → (f g : Figures) → (u ≡ clear → f ≡ g)
    → SameButPlace (paper_for v f no_figures) (paper_for u g no_figures)
twin_papers (alike (Ok u)) f g e = record { number = refl; figures = e refl; place = λ n. refl }
twin_papers (alike (Err r)) f g e = record { number = refl; figures = refl; place = λ n. refl }
twin_papers moved f g e = record { number = refl; figures = refl; place = λ n. absurd (n refl) }

pub turned : (w h full k : ℕ) {mask mask' sums sums' : List ℕ} → Turned w h mask mask' → Turned w h sums sums'
    → SameButPlace (pattern_paper columns w h full k mask sums) (pattern_paper rows h w full k mask' sums')
unfolding pattern_paper
turned w h full k {mask} {mask'} {sums} {sums'} m s =
    twin_papers (verdict_turned w h full k m s) _ _ (λ e. figures_turned w h full k m s (clean Rows h w full k mask' sums' e).enough)
