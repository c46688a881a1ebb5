-- Running totals, down the columns and along a row, and that what they differ by is what is seen around a site: for any view, so for counts and for samples.
use Prim.Native.Nat.{ℕ, zero, suc, ◌+◌, ◌-◌, ◌*◌, ◌/◌, ◌%◌, ◌<◌, ◌≤◌, min}
use mathlib.Core.List.{List, [], ◌∷◌}
use mathlib.Core.Logic.{⊎_elim}
use mathlib.Core.Path.{◌≡◌, refl, sym, ap, ap₂, ◌∙◌}
use native.Mathlib.Nat.{le_trans, mul-le-mul_right, not-suc-le-zero, le_of_suc-le-suc}
use native.Mathlib.Omega.{arith}
use lib.ListN.{set, get_or-replicate}
use Rattle.laws.specs.Sum.{sum_to}
use Rattle.laws.specs.Table.{held}
use Rattle.laws.proofs.Cases.{lt_or_ge, row_end}
use Rattle.laws.proofs.Sums.{sum_more, sum_ext, sum-le, totals_grow, box_totals}
use Rattle.laws.proofs.Tables.{Storing}
use Rattle.window.specs.View.{one, seen}
use Rattle.window.specs.declared.View.{View}
use Rattle.window.proofs.Sides.{sides}
use Rattle.window.proofs.Views.{one_le}
use Rattle.near.specs.Near.{near_sum}
use Rattle.near.proofs.Nears.{near_at}
use Rattle.sites.specs.Walk.{down_to, Down, Totals, no_columns, Nested, NestedColumns, strip, along_to, along_row, Along, box_first, box_end, Rising, between}
use Rattle.sites.specs.declared.ColumnTotals.{ColumnTotals}

-- down the columns: one pair of rows more, and what they come to
module _ (w : ℕ) (view : ℕ → ℕ) where
  pub down_none : (k : ℕ) → 0 ≡ down_to w view 0 k
  unfolding down_to sum_to
  down_none k = refl

  pub down_more : (b k : ℕ) → down_to w view b k + view (2 * w * b + k) ≡ down_to w view (b + 1) k
  unfolding down_to
  down_more b k = sum_more b (λ (u : ℕ). view (2 * w * u + k))

  pub down_most : (B b k : ℕ) → ((i : ℕ) → view i ≤ B) → down_to w view b k ≤ b * B
  unfolding down_to
  down_most B b k low = sum-le b B (λ (u : ℕ). view (2 * w * u + k)) (λ u _. low (2 * w * u + k))

  -- those that go farther down are no less
  nested : (a b : ℕ) (above below : List ℕ) → a ≤ b → b ≤ 64 → ((k : ℕ) → k < 2 * w → held below k ≤ b * 65535) → Down w view a above → Down w view b below
      → Nested w above below
  unfolding down_to
  nested a b above below farther few most up down =
      record {
        within = λ k l. (
          rw (up k l, down k l) (totals_grow a b (λ (u : ℕ). view (2 * w * u + k)) farther),
          le_trans (most k l) (mul-le-mul_right 65535 few),
        );
      }

-- along a row: the first two are 0, each other is the one two before it and what stands between
module _ (f : ℕ → ℕ) where
  along_none : (j : ℕ) → j < 2 → 0 ≡ along_to f j
  unfolding along_to sum_to
  along_none j low = let e : j / 2 ≡ 0 = omega arith in rw e

  pub along_more : (j : ℕ) → along_to f j + f j ≡ along_to f (2 + j)
  unfolding along_to
  along_more j =
      let half : (2 + j) / 2 ≡ j / 2 + 1 = omega arith in
      let parity : (2 + j) % 2 ≡ j % 2 = omega arith in
      let here : j ≡ 2 * (j / 2) + j % 2 = omega arith in
      rw (half, parity) (ap (λ (k : ℕ). sum_to (j / 2) (λ (v : ℕ). f (2 * v + j % 2)) + f k) here ∙ sum_more (j / 2) (λ (v : ℕ). f (2 * v + j % 2)))

  pub along_most : (B j : ℕ) → ((x : ℕ) → x < j → f x ≤ B) → along_to f j ≤ j / 2 * B
  unfolding along_to
  along_most B j low = sum-le (j / 2) B (λ (v : ℕ). f (2 * v + j % 2)) (λ v l. low (2 * v + j % 2) (omega arith))

  along_is : (n b : ℕ) → b < 2 → along_to f (2 * n + b) ≡ sum_to n (λ (v : ℕ). f (2 * v + b))
  unfolding along_to
  along_is n b low =
      let half : (2 * n + b) / 2 ≡ n = omega arith in
      let parity : (2 * n + b) % 2 ≡ b = omega arith in
      rw (half, parity)

  -- so what is stored from the third on can be read from the first, where the first two are 0
  pub along_read : {d l : List ℕ} {i : ℕ} → Storing (λ (j : ℕ). along_to f (2 + j)) d l 2 i → ((j : ℕ) → j < 2 → held d j ≡ 0)
      → (x : ℕ) → x < i + 2 → held l x ≡ along_to f x
  along_read {d} {l} r begun x low =
      ⊎_elim
      (λ few. r.before x few ∙ begun x few ∙ along_none x few)
      (λ more. let e : 2 + (x - 2) ≡ x = omega arith in
      ap (held l) (sym e) ∙ r.stored (x - 2) (omega arith) ∙ ap (along_to f) e)
      (lt_or_ge x 2)

  along_rises : (w x : ℕ) → x < w → along_to f (box_first x) ≤ along_to f (box_end w x)
  along_rises w x inside =
      rw (along_is (x / 2 - 15) (x % 2) (omega arith), along_is (min (x / 2 + 15 + 1) (w / 2)) (x % 2) (omega arith))
      (totals_grow (x / 2 - 15) (min (x / 2 + 15 + 1) (w / 2)) (λ (v : ℕ). f (2 * v + x % 2)) (omega arith))

-- a list of such totals does not fall from where a box begins to where it ends, and differs there by what they do
module _ {w : ℕ} {f : ℕ → ℕ} {l : List ℕ} (a : Along w f l) where
  pub rising : Rising w l
  rising =
      record {
        rises = λ x inside. rw (a.told (box_first x) (omega arith), a.told (box_end w x) (omega arith)) (along_rises f w x inside);
      }

  pub told-between : (x : ℕ) → x < w → between w (held l) x ≡ between w (along_to f) x
  told-between x inside = ap₂ (λ (a b : ℕ). a - b) (a.told (box_end w x) (omega arith)) (a.told (box_first x) (omega arith))

-- a list whose first two are set to 0 begins with them
pub begun : (d : List ℕ) (j : ℕ) → j < 2 → held (set (set d 0 0) 1 0) j ≡ 0
begun [] j low = refl
begun (x ∷ []) zero low = refl
begun (x ∷ []) (suc j) low = refl
begun (x ∷ y ∷ d) zero low = refl
begun (x ∷ y ∷ d) (suc zero) low = refl
begun (x ∷ y ∷ d) (suc (suc j)) low = absurd (not-suc-le-zero (le_of_suc-le-suc (le_of_suc-le-suc low)))

-- totals that go farther down are no less, of counts and of samples
pub both_nested : (v : View) (a b : ColumnTotals) → a.pairs ≤ b.pairs → b.pairs ≤ 64 → Totals v a → Totals v b → NestedColumns v.width a b
both_nested v a b farther few above below = (
  nested v.width (one v.mask.now) a.pairs b.pairs a.counts b.counts farther few
      (λ k l. rw (below.counted k l) (down_most v.width (one v.mask.now) 65535 b.pairs k (λ i. omega (arith, one_le v.mask.now i))))
      above.counted below.counted,
  nested v.width (seen v.mask.now v.frame.now) a.pairs b.pairs a.totals b.totals farther few below.most above.added below.added,
)

-- before the first pair of rows all are 0
pub totals_none : (v : View) → Totals v no_columns
totals_none v =
    let wide = (sides _ _ v.legal).wide.high in
    record {
      counted = λ k inside. get_or-replicate {A = ℕ} 256 k 0 0 (omega (arith, wide)) ∙ down_none v.width (one v.mask.now) k;
      added = λ k inside. get_or-replicate {A = ℕ} 256 k 0 0 (omega (arith, wide)) ∙ down_none v.width (seen v.mask.now v.frame.now) k;
      most = λ k inside. omega (arith, get_or-replicate {A = ℕ} 256 k 0 0 (omega (arith, wide)));
    }

-- either row of a pair lies in it
pub row_in_pair : (w y : ℕ) → y % 2 * w + w ≤ 2 * w
row_in_pair w y = row_end (y % 2) 2 w (omega arith)

-- What is seen around a site of row y, by totals down the columns to before its box, and to its end.
module _ (w h y x : ℕ) (view : ℕ → ℕ) (above below : List ℕ)
    (up : Down w view (y / 2 - 15) above) (down : Down w view (min (y / 2 + 15 + 1) (h / 2)) below) where
  -- the site at row u of the planes and column v of x's
  abbrev at : ℕ → ℕ → ℕ
  at u v = view (2 * w * u + (y % 2 * w + (2 * v + x % 2)))

  along_strips : (n : ℕ) → n ≤ w / 2
      → along_row w above below y (2 * n + x % 2)
      ≡ sum_to n (λ (v : ℕ). sum_to (min (y / 2 + 15 + 1) (h / 2)) (λ (u : ℕ). at u v) - sum_to (y / 2 - 15) (λ (u : ℕ). at u v))
  unfolding down_to
  along_strips n few =
      along_is (strip above below (y % 2 * w)) n (x % 2) (omega arith)
      ∙ sum_ext n _ _ (λ v l. ap₂ (λ (a b : ℕ). a - b) (down _ (inside v l)) (up _ (inside v l)))
    where
      inside : (v : ℕ) → v < n → y % 2 * w + (2 * v + x % 2) < 2 * w
      inside v l = omega (arith, row_in_pair w y)

  pub near_totals : y < h → x < w → between w (along_row w above below y) x ≡ near_sum 15 w h view (y * w + x)
  near_totals low inside =
      ap₂ (λ (a b : ℕ). a - b) (along_strips (min (x / 2 + 15 + 1) (w / 2)) (omega arith)) (along_strips (x / 2 - 15) (omega arith))
      ∙ box_totals (y / 2 - 15) (min (y / 2 + 15 + 1) (h / 2)) (x / 2 - 15) (min (x / 2 + 15 + 1) (w / 2)) at (omega arith) (omega arith)
      ∙ sym (near_at 15 w h y x view inside)
