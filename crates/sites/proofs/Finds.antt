-- The laws of the search for defective sites.
use Prim.Native.Nat.{ℕ, ◌+◌, ◌*◌, ◌<◌, ◌≤◌}
use mathlib.Core.Bool.{Bool, true, false, cond}
use mathlib.Core.List.{List}
use mathlib.Core.Path.{◌≡◌, ap, ap₂, ◌∙◌}
use native.Mathlib.Omega.{arith}
use lib.Dec.{eqb}
use lib.ListN.{get_or}
use Rattle.laws.specs.Table.{held}
use Rattle.laws.proofs.Sums.{sum_ext}
use Rattle.window.specs.View.{seen, one}
use Rattle.window.proofs.Views.{seen_is, seen_twice}
use Rattle.near.specs.Near.{near_sum}
use Rattle.sites.specs.Find.{default_threshold, used_threshold, far, found_at, marked, marked_at}
use Rattle.sites.specs.Walk.{between, found_by, found_along, marked_along, MarkedBy}

-- along a row, what is decided is told by what the totals differ by
module _ (w t : ℕ) (mask frame : List ℕ) (c s c' s' : ℕ → ℕ) (y x : ℕ) (counts : between w c x ≡ between w c' x) (totals : between w s x ≡ between w s' x) where
  same_along : found_along w t mask frame c s y x ≡ found_along w t mask frame c' s' y x
  unfolding found_along
  same_along = ap₂ (found_by t _ _) counts totals

  same-written : marked_along w t mask frame c s y x ≡ marked_along w t mask frame c' s' y x
  unfolding marked_along
  same-written = ap (marked _) same_along

pub same_row : (w t : ℕ) (mask frame : List ℕ) (c s c' s' : ℕ → ℕ) (y : ℕ) {n : ℕ} {before after : List ℕ}
    → ((x : ℕ) → x < w → between w c x ≡ between w c' x) → ((x : ℕ) → x < w → between w s x ≡ between w s' x)
    → MarkedBy w t mask frame c s y n before after → MarkedBy w t mask frame c' s' y n before after
same_row w t mask frame c s c' s' y counts totals r =
    record {
      found = r.found ∙ sum_ext w _ _ (λ x inside. same_along w t mask frame c s c' s' y x (counts x inside) (totals x inside));
      few = r.few;
      long = r.long;
      kept = r.kept;
      written = λ x inside. r.written x inside ∙ same-written w t mask frame c s c' s' y x (counts x inside) (totals x inside);
    }

-- and where they differ by what is seen around the site, as the definition has it
module _ (w h t : ℕ) (mask frame : List ℕ) (c s : ℕ → ℕ) (y x : ℕ)
    (counts : between w c x ≡ near_sum 15 w h (one mask) (y * w + x)) (totals : between w s x ≡ near_sum 15 w h (seen mask frame) (y * w + x)) where
  pub along_found : found_along w t mask frame c s y x ≡ found_at w h t mask (seen mask frame) (y * w + x)
  unfolding found_along found_by found_at
  along_found =
      rw (counts, totals, seen_is mask frame (y * w + x))
      (seen_twice _ (held frame (y * w + x)) (λ (sample : ℕ). cond (far t sample (near_sum 15 w h (one mask) (y * w + x)) (near_sum 15 w h (seen mask frame) (y * w + x))) 1 0))

  pub along_marked : marked_along w t mask frame c s y x ≡ marked_at w h t mask (seen mask frame) (y * w + x)
  unfolding marked_along marked_at
  along_marked = ap (marked _) along_found

-- the test that decides a surveyed site
abbrev pub far_at : ℕ → ℕ → ℕ → List ℕ → (ℕ → ℕ) → ℕ → Bool
far_at w h t mask view i = far t (view i) (near_sum 15 w h (one mask) i) (near_sum 15 w h view i)

-- a site decides by its code, its sample and what is seen around it
module _ (w h t : ℕ) (m n : List ℕ) (f g : ℕ → ℕ) (i j : ℕ) (code : get_or m i 0 ≡ get_or n j 0) where
  pub same-found : f i ≡ g j → near_sum 15 w h (one m) i ≡ near_sum 15 w h (one n) j → near_sum 15 w h f i ≡ near_sum 15 w h g j
      → found_at w h t m f i ≡ found_at w h t n g j
  unfolding found_at
  same-found sample ones sums = rw (code, sample, ones, sums)

  pub same-marked : found_at w h t m f i ≡ found_at w h t n g j → marked_at w h t m f i ≡ marked_at w h t n g j
  unfolding marked_at
  same-marked found = rw (code, found)

-- a threshold that is used is at most 4095, as one that is given
pub used_few : (t used : ℕ) → used ≡ used_threshold t → t ≤ 4095 → used ≤ 4095
unfolding used_threshold
used_few t used e few = rw e (by (eqb t 0))
  where
    by : (b : Bool) → cond b default_threshold t ≤ 4095
    by true = omega arith
    by false = few
