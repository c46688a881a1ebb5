-- A stack and its negative have the same figures: what stands out above the ten around it in one stands out below them in the other, and as far.
use Prim.Native.Nat.{ℕ, ◌+◌, ◌-◌, ◌*◌, ◌<◌, ◌≤◌}
use mathlib.Core.Bool.{false}
use mathlib.Core.List.{List}
use mathlib.Core.Logic.{⊎_elim}
use mathlib.Core.Path.{◌≡◌, sym, ap, ◌∙◌}
use native.Mathlib.Omega.{arith}
use lib.ListN.{length, get_or-eq_default}
use borrow.Author.Tests.{le-ltb}
use Rattle.laws.specs.First.{some_to}
use Rattle.laws.specs.Signed.{apart}
use Rattle.laws.specs.Table.{held, tabulate}
use Rattle.laws.proofs.Cases.{lt_or_ge}
use Rattle.laws.proofs.Firsts.{nowhere_first}
use Rattle.laws.proofs.Sums.{sum-add}
use Rattle.laws.proofs.Tables.{length-tabulate, get_d_tabulate}
use Rattle.window.specs.Shape.{sites_of}
use Rattle.window.specs.View.{seen, above}
use Rattle.window.proofs.Views.{seen_most}
use Rattle.window.specs.declared.Lines as window
use Rattle.pattern.specs.Lines.{Lines, line_total}
use Rattle.pattern.specs.Figures.{step_of, deviation, figures_of}
use Rattle.pattern.specs.Pattern.{pattern_verdict, pattern_figures}
use Rattle.pattern.specs.Walk.{lined}
use Rattle.pattern.proofs.Totals.{count_is, total_flat}
use Rattle.pattern.proofs.Figuring.{figures-same, ten_both}
use Rattle.pattern.proofs.Judges.{Clean, figures_seen}

-- b is the negative of a: at every site the two sums add up to `most`, which is k × full scale
pub record Negative (most : ℕ) (a b : List ℕ) : Type 0 where
  pub long : length b ≡ length a
  pub sites : (i : ℕ) → i < length a → held a i + held b i ≡ most

-- sums that are not above `most` have one: `most` less each sum
abbrev pub negate : ℕ → List ℕ → List ℕ
negate most a = tabulate (length a) (λ (i : ℕ). most - held a i)

pub negates : (most : ℕ) (a : List ℕ) → ((i : ℕ) → i < length a → held a i ≤ most) → Negative most a (negate most a)
negates most a small = record {
  long = length-tabulate (length a) (λ (i : ℕ). most - held a i);
  sites = λ i l. omega (arith, small i l, get_d_tabulate (length a) (λ (i : ℕ). most - held a i) i l);
}

-- ---- totals that add up to `unit` line by line
module _ (n unit : ℕ) (C D : ℕ → ℕ) (low : 12 ≤ n) (both : (i : ℕ) → i < n → C i + D i ≡ unit) where
  step_negative : (i : ℕ) → i < n - 1 → step_of C i ≡ step_of D i
  unfolding step_of
  step_negative i l =
      let e : apart (C i) (C (i + 1)) ≡ apart (D i) (D (i + 1)) = omega (arith, both i (omega arith), both (i + 1) (omega arith)) in
      ap (λ (d : ℕ). d * d) e

  deviation_negative : (i : ℕ) → 5 ≤ i → i + 6 ≤ n → deviation C i ≡ deviation D i
  unfolding deviation
  deviation_negative i p q = omega (arith, both i (omega arith), ten_both n unit C D both i p q)

  pub figures_negative : (m : ℕ) → figures_of n m C ≡ figures_of n m D
  figures_negative m = figures-same n m C D low step_negative deviation_negative

-- the two totals of a line add up to its number of sites times `most`
total_negative : (way : window.Lines) (w h most : ℕ) (view other : ℕ → ℕ) → ((k : ℕ) → k < h * w → view k + other k ≡ most) → (i : ℕ) → i < (lined way w h).count
    → line_total (lined way w h) view i + line_total (lined way w h) other i ≡ (lined way w h).long * most
unfolding line_total
total_negative way w h most view other both i l =
    let site = (lined way w h).site i in
    sym (sum-add (lined way w h).long (λ (t : ℕ). view (site t)) (λ (t : ℕ). other (site t)))
    ∙ total_flat way w h (λ (k : ℕ). view k + other k) most both i l

-- where no sum is above `most`, none that is seen is
none_above : (n most : ℕ) (mask a : List ℕ) → ((i : ℕ) → i < length a → held a i ≤ most) → some_to n (above most (seen mask a)) ≡ false
none_above n most mask a small =
    nowhere_first (above most (seen mask a)) n (λ i l. le-ltb most (seen mask a i) (seen_most mask a most i (λ s. within i)))
  where
    within : (i : ℕ) → held a i ≤ most
    within i =
        ⊎_elim (λ l. small i l) (λ past. rw (get_or-eq_default a 0 {n = i} past) (omega arith)) (lt_or_ge i (length a))

module _ (w h full k : ℕ) (mask : List ℕ) {a b : List ℕ} (n : Negative (k * full) a b) where
  -- both get the same verdict
  pub verdict_negative : (lines : ℕ → ℕ → Lines) → pattern_verdict lines w h full k mask a ≡ pattern_verdict lines w h full k mask b
  unfolding pattern_verdict
  verdict_negative lines =
      let one = none_above (sites_of w h) (k * full) mask a (λ i l. omega (arith, n.sites i l)) in
      let other = none_above (sites_of w h) (k * full) mask b (λ i l. omega (arith, n.sites i (omega (arith, n.long)))) in
      rw (n.long, one, other)

  -- and where both are accepted, the same figures
  pub seen_negative : (way : window.Lines) → Clean way w h full k mask a → Clean way w h full k mask b
      → pattern_figures (lined way w h) full k (seen mask a) ≡ pattern_figures (lined way w h) full k (seen mask b)
  seen_negative way c d =
      sym (figures_seen way w h full k mask a c)
      ∙ figures_negative (lined way w h).count ((lined way w h).long * (k * full)) (line_total (lined way w h) (held a)) (line_total (lined way w h) (held b))
      (rw (count_is way w h) c.enough)
      (total_negative way w h (k * full) (held a) (held b) (λ i l. n.sites i (omega (arith, c.fair.long))))
      ((lined way w h).long * k * full)
      ∙ figures_seen way w h full k mask b d
