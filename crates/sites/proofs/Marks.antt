-- The window is marked row after row: what is written and how many sites are found, and what one more row adds.
use Prim.Native.Nat.{ℕ, ◌+◌, ◌-◌, ◌*◌, ◌/◌, ◌<◌, ◌≤◌, min}
use mathlib.Core.List.{List}
use mathlib.Core.Logic.{⊎_elim}
use mathlib.Core.Path.{◌≡◌, sym, ap, ap₂, ◌∙◌}
use native.Mathlib.Nat.{add-mul, zero-mul, not-suc-le-zero}
use native.Mathlib.Omega.{arith}
use lib.ListN.{length}
use Rattle.laws.specs.Sum.{sum_to}
use Rattle.laws.specs.Table.{held, tabulate}
use Rattle.laws.proofs.Cases.{lt_or_ge}
use Rattle.laws.proofs.Sums.{sum_none, sum_ext, sum_split}
use Rattle.laws.proofs.Tables.{tabulated}
use Rattle.window.specs.Shape.{sites_of}
use Rattle.window.specs.View.{one, seen}
use Rattle.window.specs.declared.View.{View}
use Rattle.window.proofs.Sides.{Sides}
use Rattle.near.specs.Near.{near_sum}
use Rattle.sites.specs.Find.{found_at, marked_at, found_count}
use Rattle.sites.specs.Walk.{Down, Totals, along_row, AlongRow, between, MarkedBy, RowMarked}
use Rattle.sites.specs.declared.ColumnTotals.{ColumnTotals}
use Rattle.sites.specs.declared.RowTotals.{RowTotals}
use Rattle.sites.proofs.Totals.{told-between, near_totals}
use Rattle.sites.proofs.Finds.{same_row, along_found, along_marked}

-- lists of totals down the columns, of how many sites are surveyed and of their samples
abbrev BothDown : ℕ → List ℕ → List ℕ → ℕ → List ℕ → List ℕ → Type 0
BothDown w mask frame b counts totals = Down w (one mask) b counts × Down w (seen mask frame) b totals

module _ (w h t : ℕ) (mask frame : List ℕ) where
  -- the first n sites are marked
  pub record Marked (n : ℕ) (out : List ℕ) (found : ℕ) : Type 0 where
    pub written : (j : ℕ) → j < n → held out j ≡ marked_at w h t mask (seen mask frame) j
    pub counted : found ≡ sum_to n (found_at w h t mask (seen mask frame))
    pub few : found ≤ n

  -- before the first row none is, and after the last all are
  pub marked_none : (out : List ℕ) → Marked (0 * w) out 0
  marked_none out = rw (zero-mul w) (record { written = λ j l. absurd (not-suc-le-zero l); counted = sum_none _; few = omega arith })

  pub marked_all : (y : ℕ) (out : List ℕ) (found : ℕ) → y ≡ h → Sides w h → length out ≡ sites_of w h → Marked (y * w) out found
      → (found ≡ found_count w h t mask (seen mask frame)) × (out ≡ tabulate (sites_of w h) (marked_at w h t mask (seen mask frame)))
  unfolding found_count
  marked_all y out found e legal long m =
      let n : y * w ≡ sites_of w h = rw (e, legal.sites) in
      (m.counted ∙ rw n, tabulated (sites_of w h) _ out long (λ k l. m.written k (rw n l)))

  module _ (y a b : ℕ) (ca ta cb tb : List ℕ) (low : y < h) (first : a ≡ y / 2 - 15) (end : b ≡ min (y / 2 + 15 + 1) (h / 2))
      (above : BothDown w mask frame a ca ta) (below : BothDown w mask frame b cb tb) where
    abbrev counts : ℕ → ℕ
    counts = along_row w ca cb y

    abbrev totals : ℕ → ℕ
    totals = along_row w ta tb y

    counts_near : (x : ℕ) → x < w → between w counts x ≡ near_sum 15 w h (one mask) (y * w + x)
    counts_near x inside = near_totals w h y x (one mask) ca cb (rw (← first) above.0) (rw (← end) below.0) low inside

    totals_near : (x : ℕ) → x < w → between w totals x ≡ near_sum 15 w h (seen mask frame) (y * w + x)
    totals_near x inside = near_totals w h y x (seen mask frame) ta tb (rw (← first) above.1) (rw (← end) below.1) low inside

    pub marked_row : (out out' : List ℕ) (found r : ℕ) → Marked (y * w) out found → MarkedBy w t mask frame counts totals y r out out'
        → Marked ((y + 1) * w) out' (found + r)
    marked_row out out' found r m row =
        let n : (y + 1) * w ≡ y * w + w = omega (arith, add-mul y 1 w) in
        rw n
        (record {
          written = λ j l. ⊎_elim
              (λ before. row.kept j before ∙ m.written j before)
              (λ here. let q : y * w + (j - y * w) ≡ j = omega arith in
              let x : j - y * w < w = omega arith in
              ap (held out') (sym q)
              ∙ row.written (j - y * w) x
              ∙ along_marked w h t mask frame counts totals y (j - y * w) (counts_near _ x) (totals_near _ x)
              ∙ ap (marked_at w h t mask (seen mask frame)) q)
              (lt_or_ge j (y * w));
          counted = ap₂ (λ (a b : ℕ). a + b) m.counted
              (row.found ∙ sum_ext w _ _ (λ x l. along_found w h t mask frame counts totals y x (counts_near x l) (totals_near x l)))
              ∙ sym (sum_split (y * w) w _);
          few = omega (arith, m.few, row.few);
        })

-- so of a view, by totals along the row that lists hold
module _ (v : View) (t y : ℕ) (a b : ColumnTotals) (along : RowTotals) (low : y < v.height) (first : a.pairs ≡ y / 2 - 15) (end : b.pairs ≡ min (y / 2 + 15 + 1) (v.height / 2))
    (above : Totals v a) (below : Totals v b) (taken : AlongRow v.width a b y along) where
  pub row_marked : (out out' : List ℕ) (found r : ℕ) → Marked v.width v.height t v.mask.now v.frame.now (y * v.width) out found → RowMarked v t along y r out out'
      → Marked v.width v.height t v.mask.now v.frame.now ((y + 1) * v.width) out' (found + r)
  row_marked out out' found r m row =
      marked_row v.width v.height t v.mask.now v.frame.now y a.pairs b.pairs a.counts a.totals b.counts b.totals low first end
      (above.counted, above.added) (below.counted, below.added) out out' found r m
      (same_row v.width t v.mask.now v.frame.now (held along.counts) (held along.totals) (along_row v.width a.counts b.counts y) (along_row v.width a.totals b.totals y) y
      (told-between taken.0) (told-between taken.1) row)
