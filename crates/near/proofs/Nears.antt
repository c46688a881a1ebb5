-- The laws of what is seen around a site.
use Prim.Native.Nat.{ℕ, ◌+◌, ◌-◌, ◌*◌, ◌/◌, ◌%◌, ◌<◌, ◌≤◌, min}
use mathlib.Core.List.{List}
use mathlib.Core.Path.{◌≡◌, ap, ◌∙◌}
use native.Mathlib.Omega.{arith}
use lib.Arith.{digits_div, digits_mod}
use lib.ListN.{length}
use Rattle.laws.specs.Sum.{sum_box}
use Rattle.laws.proofs.Sums.{box_ext, box_scaled, box_above}
use Rattle.window.specs.Shape.{sites_of}
use Rattle.window.specs.View.{seen, one}
use Rattle.window.proofs.Sides.{Sides}
use Rattle.plane.specs.Plane.{row_parity, plane_of, plane_row, plane_column, site_at, box_sum, box_sums}
use Rattle.plane.specs.declared.PlaneBox.{PlaneBox}
use Rattle.plane.specs.declared.Sums.{Sums}
use Rattle.plane.proofs.Planes.{site_in, stepped, plane_row_lem, plane_column_lem, plane_of_lem, box_same, sums_accepted}
use Rattle.near.specs.Near.{around, near_sum}

module _ (reach w h i : ℕ) where
  -- of views that agree on the window
  pub near_same : (f g : ℕ → ℕ) → Sides w h → ((j : ℕ) → j < sites_of w h → f j ≡ g j) → near_sum reach w h f i ≡ near_sum reach w h g i
  unfolding near_sum
  near_same f g legal same = box_same w h (plane_of w i) (around reach w i) f g (λ j l. same j (rw legal.sites l))

  -- what `box_sums` answers of an accepted call's buffers
  pub near-told : (mask frame : List ℕ) (r : Sums) (within : PlaneBox) → Sides w h → length mask ≡ sites_of w h → length frame ≡ sites_of w h
      → within ≡ around reach w i → r ≡ box_sums w h (plane_of w i) within mask frame
      → (r.count ≡ near_sum reach w h (one mask) i) × (r.total ≡ near_sum reach w h (seen mask frame) i)
  unfolding near_sum
  near-told mask frame r within legal m f b e =
      let told = e ∙ ap (λ (k : PlaneBox). box_sums w h (plane_of w i) k mask frame) b ∙ sums_accepted w h (plane_of w i) (around reach w i) mask frame legal m f in
      (ap (λ (s : Sums). s.count) told, ap (λ (s : Sums). s.total) told)

-- by the coordinates of the window: two rows of it are one row of each plane
pub near_at : (reach w h y x : ℕ) (view : ℕ → ℕ) → x < w
    → near_sum reach w h view (y * w + x)
    ≡ sum_box (y / 2 - reach) (min (y / 2 + reach + 1) (h / 2)) (x / 2 - reach) (min (x / 2 + reach + 1) (w / 2)) (λ (u v : ℕ). view (2 * w * u + (y % 2 * w + (2 * v + x % 2))))
unfolding near_sum box_sum
near_at reach w h y x view inside =
    rw (digits_div y inside, digits_mod y inside)
    (box_ext _ _ _ _ _ _ (λ u v _ _ _ _. ap view (site u v)))
  where
    rows : row_parity (2 * (y % 2) + x % 2) ≡ y % 2
    rows = omega arith

    site : (u v : ℕ) → site_at w (2 * (y % 2) + x % 2) u v ≡ 2 * w * u + (y % 2 * w + (2 * v + x % 2))
    site u v = omega (arith, stepped w (2 * (y % 2) + x % 2) u v, ap (λ (k : ℕ). k * w) rows)

-- a site of the same plane, at most `reach` rows and columns away
pub record Near (reach w h i j : ℕ) : Type 0 where
  pub inside : j < h * w
  pub plane : plane_of w j ≡ plane_of w i
  pub above : plane_row w i ≤ plane_row w j + reach
  pub below : plane_row w j ≤ plane_row w i + reach
  pub left : plane_column w i ≤ plane_column w j + reach
  pub right : plane_column w j ≤ plane_column w i + reach

module _ (reach w h i : ℕ) where
  -- the sites that are summed are near
  box_near : (u v : ℕ) → plane_row w i - reach ≤ u → u < min (plane_row w i + reach + 1) (h / 2)
      → plane_column w i - reach ≤ v → v < min (plane_column w i + reach + 1) (w / 2)
      → Near reach w h i (site_at w (plane_of w i) u v)
  box_near u v top bottom left right =
      let row = plane_row_lem w (plane_of w i) u v (within _ _ _ right) in
      let column = plane_column_lem w (plane_of w i) u v (within _ _ _ right) in
      record {
        inside = site_in w h (plane_of w i) u (within _ _ _ bottom) v (within _ _ _ right);
        plane = plane_of_lem w (plane_of w i) u v (within _ _ _ right) (few i);
        above = reached _ _ _ row top;
        below = reaching _ _ _ _ row bottom;
        left = reached _ _ _ column left;
        right = reaching _ _ _ _ column right;
      }
    where
      within : (k a n : ℕ) → k < min a n → k < n
      within k a n l = omega arith

      few : (j : ℕ) → plane_of w j < 4
      few j = omega arith

      reached : (a k b : ℕ) → b ≡ k → a - reach ≤ k → a ≤ b + reach
      reached a k b e l = omega arith

      reaching : (a n k b : ℕ) → b ≡ k → k < min (a + reach + 1) n → b ≤ a + reach
      reaching a n k b e l = omega arith

  module _ (B : ℕ) (f g : ℕ → ℕ) where
    pub near_most : ((j : ℕ) → Near reach w h i j → g j ≤ B * f j) → near_sum reach w h g i ≤ B * near_sum reach w h f i
    unfolding near_sum box_sum
    near_most low = box_scaled _ _ _ _ _ _ B (λ u v a b l r. low (site_at w (plane_of w i) u v) (box_near u v a b l r))

    pub near-least : ((j : ℕ) → Near reach w h i j → B * f j ≤ g j) → B * near_sum reach w h f i ≤ near_sum reach w h g i
    unfolding near_sum box_sum
    near-least high = box_above _ _ _ _ _ _ B (λ u v a b l r. high (site_at w (plane_of w i) u v) (box_near u v a b l r))
