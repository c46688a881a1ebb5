-- The totals of lines while the sums are walked row by row, and that the sites walked on a line are the line's own.
use Prim.Native.Nat.{ℕ, ◌+◌, ◌*◌, ◌<◌, ◌≤◌}
use mathlib.Core.Bool.{Bool, true, false, cond}
use mathlib.Core.List.{List}
use mathlib.Core.Logic.{⊎_elim}
use mathlib.Core.Path.{◌≡◌, refl, sym, ap, ◌∙◌}
use native.Mathlib.Omega.{arith}
use lib.Arith.{digits_lt}
use lib.Dec.{eqb}
use lib.ListN.{length, set, length-set}
use lib.Seq.{get_or-set_same, get_or-set_other}
use borrow.Author.Tests.{eqb-true, eqb-false}
use Rattle.laws.specs.Sum.{sum_to}
use Rattle.laws.specs.Table.{held, tabulate}
use Rattle.laws.proofs.Cases.{true_or_false}
use Rattle.laws.proofs.Sums.{sum_none, sum_more, sum_ext, sum-le, sum-zero, sum_same, sum_only}
use Rattle.laws.proofs.Tables.{get_d_tabulate, tabulate_ext, tabulated}
use Rattle.window.specs.declared.Lines as window
use Rattle.window.specs.declared.Lines.TheVariants.{Rows, Columns}
use Rattle.pattern.specs.Lines.{line_total}
use Rattle.pattern.specs.Walk.{lined, line_of, share, with_row}

module _ (way : window.Lines) (w : ℕ) (view : ℕ → ℕ) where
  module _ (i y x : ℕ) where
    share_on : eqb (line_of way y x) i ≡ true → share way w view i y x ≡ view (y * w + x)
    unfolding share
    share_on e = rw e

    share_off : eqb (line_of way y x) i ≡ false → share way w view i y x ≡ 0
    unfolding share
    share_off e = rw e

    pub share-le : (b : ℕ) → ((k : ℕ) → view k ≤ b) → share way w view i y x ≤ b
    share-le b h =
        ⊎_elim
        (λ e. rw (share_on e) (h (y * w + x)))
        (λ e. rw (share_off e) (omega arith))
        (true_or_false (eqb (line_of way y x) i))

  -- the array as it was before row y, and now that x of its sites are added
  pub record Adding (y x : ℕ) (before totals : List ℕ) : Type 0 where
    pub within : x ≤ w
    pub long : length totals ≡ 128
    pub each : (i : ℕ) → i < 128 → held totals i ≡ held before i + sum_to x (share way w view i y)

  pub adding_none : (y : ℕ) (totals : List ℕ) → length totals ≡ 128 → Adding y 0 totals totals
  adding_none y totals e = record {
    within = omega arith;
    long = e;
    each = λ i l. omega (arith, sum_none (share way w view i y));
  }

  module _ {y x : ℕ} {before totals : List ℕ} (a : Adding y x before totals) where
    -- a site more
    pub adding_more : (line sum : ℕ) → line ≡ line_of way y x → line < 128 → x < w → sum ≡ view (y * w + x)
        → Adding y (x + 1) before (set totals line (held totals line + sum))
    adding_more line sum e l k s = record {
      within = omega arith;
      long = length-set totals line (held totals line + sum) ∙ a.long;
      each = λ i m. ⊎_elim (on i m) (off i m) (true_or_false (eqb (line_of way y x) i));
    }
      where
        on : (i : ℕ) → i < 128 → eqb (line_of way y x) i ≡ true
            → held (set totals line (held totals line + sum)) i ≡ held before i + sum_to (x + 1) (share way w view i y)
        on i m t =
            let q : line ≡ i = e ∙ eqb-true (line_of way y x) i t in
            let here : held (set totals line (held totals line + sum)) i ≡ held totals i + sum =
            rw (← q) (get_or-set_same totals line (held totals line + sum) 0 (omega (arith, a.long))) in
            omega (arith, here, a.each i m, share_on i y x t, sum_more x (share way w view i y))

        off : (i : ℕ) → i < 128 → eqb (line_of way y x) i ≡ false
            → held (set totals line (held totals line + sum)) i ≡ held before i + sum_to (x + 1) (share way w view i y)
        off i m f =
            let other = get_or-set_other totals line i (held totals line + sum) 0 (λ p. eqb-false (line_of way y x) i f (sym e ∙ sym p)) in
            omega (arith, other, a.each i m, share_off i y x f, sum_more x (share way w view i y))

    pub adding_done : w ≤ x → totals ≡ with_row way w view y before
    unfolding with_row
    adding_done l =
        let e : x ≡ w = omega (arith, a.within) in
        tabulated 128 (λ (i : ℕ). held before i + sum_to w (share way w view i y)) totals a.long
        (λ i m. a.each i m ∙ ap (λ (n : ℕ). held before i + sum_to n (share way w view i y)) e)

    -- no total can pass what so many sites of 32 bits make
    pub adding_le : (b : ℕ) → ((k : ℕ) → view k ≤ b) → (i : ℕ) → i < 128 → held totals i ≤ held before i + x * b
    adding_le b h i m =
        omega (arith, a.each i m, sum-le x b (share way w view i y) (λ x' l. share-le i y x' b h))

  -- what y rows give to line i
  abbrev pub passed : ℕ → ℕ → ℕ
  passed y i = sum_to y (λ (r : ℕ). sum_to w (share way w view i r))

  pub passed_le : (y b : ℕ) → ((k : ℕ) → view k ≤ b) → (i : ℕ) → passed y i ≤ y * (w * b)
  passed_le y b h i =
      sum-le y (w * b) (λ (r : ℕ). sum_to w (share way w view i r)) (λ r l. sum-le w b (share way w view i r) (λ x m. share-le i r x b h))

  pub row_more : (y : ℕ) → with_row way w view y (tabulate 128 (passed y)) ≡ tabulate 128 (passed (y + 1))
  unfolding with_row
  row_more y =
      tabulate_ext 128 (λ (i : ℕ). held (tabulate 128 (passed y)) i + sum_to w (share way w view i y)) (passed (y + 1))
      (λ i l. rw (get_d_tabulate 128 (passed y) i l) (sum_more y (λ (r : ℕ). sum_to w (share way w view i r))))

-- the sites that all rows have on a line are the line's own
pub whole : (way : window.Lines) (w h : ℕ) (view : ℕ → ℕ) (i : ℕ) → i < (lined way w h).count
    → passed way w view h i ≡ line_total (lined way w h) view i
unfolding share line_total
whole Columns w h view i l =
    sum_ext h (λ (y : ℕ). sum_to w (λ (x : ℕ). cond (eqb x i) (view (y * w + x)) 0)) (λ (y : ℕ). view (y * w + i))
    (λ y m. sum_only w i (λ (x : ℕ). view (y * w + x)) l)
whole Rows w h view i l =
    sum_ext h (λ (y : ℕ). sum_to w (λ (x : ℕ). cond (eqb y i) (view (y * w + x)) 0)) (λ (y : ℕ). cond (eqb y i) (sum_to w (λ (x : ℕ). view (y * w + x))) 0)
    (λ y m. by (eqb y i) (λ (x : ℕ). view (y * w + x)))
    ∙ sum_only h i (λ (y : ℕ). sum_to w (λ (x : ℕ). view (y * w + x))) l
  where
    by : (b : Bool) (f : ℕ → ℕ) → sum_to w (λ (x : ℕ). cond b (f x) 0) ≡ cond b (sum_to w f) 0
    by true f = refl
    by false f = sum-zero w (λ (x : ℕ). 0) (λ k l. refl)

-- a line is below what rows and columns are
pub side_le : (way : window.Lines) (y x n : ℕ) → y ≤ n → x ≤ n → line_of way y x ≤ n
side_le Columns y x n p q = q
side_le Rows y x n p q = p

pub line_in : (way : window.Lines) (y x n : ℕ) → y < n → x < n → line_of way y x < n
line_in Columns y x n p q = q
line_in Rows y x n p q = p

-- ---- the lines of a window, either way
pub count_is : (way : window.Lines) (w h : ℕ) → (lined way w h).count ≡ line_of way h w
count_is Columns w h = refl
count_is Rows w h = refl

pub long_is : (way : window.Lines) (w h : ℕ) → (lined way w h).long ≡ line_of way w h
long_is Columns w h = refl
long_is Rows w h = refl

pub site_in : (way : window.Lines) (w h i t : ℕ) → i < (lined way w h).count → t < (lined way w h).long
    → (lined way w h).site i t < h * w
site_in Columns w h i t p q = digits_lt q p
site_in Rows w h i t p q = digits_lt p q

module _ (way : window.Lines) (w h : ℕ) where
  -- a total looks at no site but the window's
  pub total_ext : (view other : ℕ → ℕ) → ((k : ℕ) → k < h * w → view k ≡ other k) → (i : ℕ) → i < (lined way w h).count
      → line_total (lined way w h) view i ≡ line_total (lined way w h) other i
  unfolding line_total
  total_ext view other same i l =
      sum_ext (lined way w h).long (λ (t : ℕ). view ((lined way w h).site i t)) (λ (t : ℕ). other ((lined way w h).site i t))
      (λ t m. same ((lined way w h).site i t) (site_in way w h i t l m))

  -- and is at most its sites times the most that one holds
  pub total_le : (view : ℕ → ℕ) (b : ℕ) → ((k : ℕ) → k < h * w → view k ≤ b) → (i : ℕ) → i < (lined way w h).count
      → line_total (lined way w h) view i ≤ (lined way w h).long * b
  unfolding line_total
  total_le view b small i l =
      sum-le (lined way w h).long b (λ (t : ℕ). view ((lined way w h).site i t))
      (λ t m. small ((lined way w h).site i t) (site_in way w h i t l m))

pub side_ge : (way : window.Lines) (y x n : ℕ) → n ≤ y → n ≤ x → n ≤ line_of way y x
side_ge Columns y x n p q = q
side_ge Rows y x n p q = p

-- equal sums make equal totals
pub total_flat : (way : window.Lines) (w h : ℕ) (view : ℕ → ℕ) (s : ℕ) → ((k : ℕ) → k < h * w → view k ≡ s) → (i : ℕ) → i < (lined way w h).count
    → line_total (lined way w h) view i ≡ (lined way w h).long * s
unfolding line_total
total_flat way w h view s same i l =
    sum_same (lined way w h).long s (λ (t : ℕ). view ((lined way w h).site i t))
    (λ t m. same ((lined way w h).site i t) (site_in way w h i t l m))
