-- The laws of planes, and of what is seen in a box of a plane's coordinates.
use Prim.Native.Nat.{ℕ, suc, ◌+◌, ◌-◌, ◌*◌, ◌/◌, ◌%◌, ◌<◌, ◌≤◌, zero-le, min}
use mathlib.Core.Bool.{Bool, true, false, cond}
use mathlib.Core.List.{List, []}
use mathlib.Core.Path.{◌≡◌, sym, ap, ap₂, ◌∙◌}
use native.Mathlib.Nat.{le_trans, suc-mul, add-mul, mul_comm, mul_assoc, mul-le-mul, mul-le-mul_right, div-add-mod', add_comm, zero-mul}
use native.Mathlib.Omega.{arith}
use lib.Arith.{digits_div, digits_mod}
use lib.Dec.{eqb}
use lib.ListN.{length, get_or}
use borrow.Author.Tests.{eq-eqb, ne_eqb}
use Rattle.laws.specs.Sum.{sum_box}
use Rattle.laws.proofs.Sums.{Shifted, box_ext, box_scaled, box_le, box_shift, box_changed, box_cut, box_turned}
use Rattle.window.specs.Shape.{sites_of}
use Rattle.window.specs.Walk.{walked}
use Rattle.window.specs.View.{surveyed, seen, one}
use Rattle.window.proofs.Sides.{Sides}
use Rattle.window.proofs.Views.{seen_is, seen_le, seen_counted, seen_shift}
use Rattle.window.proofs.Walks.{Whole, walked_whole, walked_some}
use Rattle.plane.specs.Plane.{row_parity, column_parity, plane_of, plane_row, plane_column, site_at, box_sum, sums, box_sums}
use Rattle.plane.specs.Walk.{Inner, Runs}
use Rattle.plane.specs.declared.PlaneBox.{PlaneBox}
use Rattle.plane.specs.declared.Sums.{Sums}

module _ (w h plane u : ℕ) (low : u < h / 2) where
  -- a row of a plane lies inside the window
  pub row_in : (right : ℕ) → right ≤ w / 2 → (2 * u + row_parity plane) * w + 2 * right ≤ h * w
  row_in right in_right =
      let below : suc (2 * u + row_parity plane) ≤ h = omega arith in
      omega (arith, mul-le-mul_right w below, suc-mul (2 * u + row_parity plane) w)

  -- and so does each of its sites
  pub site_in : (v : ℕ) → v < w / 2 → site_at w plane u v < h * w
  site_in v in_row = omega (arith, row_in (v + 1) (omega arith))

-- and so do the sites along a row of either parity, or down a column, with as many right of them as there are planes
module _ (w h row column u v planes : ℕ) (low : u < h / 2) (in_row : v < w / 2) (odd : row ≤ 1) (both : column + planes ≤ 2) where
  pub along_in : {n : ℕ} → n ≡ h * w → row * w + column + 2 * w * u + 2 * v + planes ≤ n
  along_in is =
      let below : suc (2 * u + row) ≤ h = omega arith in
      omega (arith, is, mul-le-mul_right w below, suc-mul (2 * u + row) w, add-mul (2 * u) row w, mul_assoc 2 u w, mul_comm u w, mul_assoc 2 w u)

  pub down_in : {n : ℕ} → n ≡ h * w → row * w + column + 2 * v + 2 * w * u + planes ≤ n
  down_in is = omega (arith, along_in is)

-- a plane's sites are 2 apart along a row, and two rows apart down a column
module _ (w plane : ℕ) where
  pub stepped : (u v : ℕ) → row_parity plane * w + column_parity plane + 2 * w * u + 2 * v ≡ site_at w plane u v
  stepped u v =
      omega (arith, add-mul (2 * u) (row_parity plane) w, mul_assoc 2 u w, mul_comm u w, mul_assoc 2 w u)

  pub stepped_down : (u v : ℕ) → row_parity plane * w + column_parity plane + 2 * v + 2 * w * u ≡ site_at w plane u v
  stepped_down u v = omega (arith, stepped u v)

  -- the sites right of those of even columns are the next plane's
  pub stepped_right : column_parity plane ≡ 0 → (u v : ℕ) → site_at w plane u v + 1 ≡ site_at w (plane + 1) u v
  stepped_right even u v = let row : row_parity (plane + 1) ≡ row_parity plane = omega arith in
      omega (arith, ap (λ (k : ℕ). (2 * u + k) * w) row)

  -- and a box can be summed wherever its sites are found
  pub by_place : (place : ℕ → ℕ → ℕ) → ((u v : ℕ) → place u v ≡ site_at w plane u v) → (top bottom left right : ℕ) (view : ℕ → ℕ)
      → sum_box top bottom left right (λ (u v : ℕ). view (place u v)) ≡ sum_box top bottom left right (λ (u v : ℕ). view (site_at w plane u v))
  by_place place is top bottom left right view = box_ext _ _ _ _ _ _ (λ u v p q s t. ap view (is u v))

  -- so by its rows, or by its columns
  pub by_rows : (top bottom left right : ℕ) (view : ℕ → ℕ)
      → sum_box top bottom left right (λ (u v : ℕ). view (row_parity plane * w + column_parity plane + 2 * w * u + 2 * v))
      ≡ sum_box top bottom left right (λ (u v : ℕ). view (site_at w plane u v))
  by_rows = by_place _ stepped

  pub by_columns : (top bottom left right : ℕ) (view : ℕ → ℕ)
      → sum_box left right top bottom (λ (v u : ℕ). view (row_parity plane * w + column_parity plane + 2 * v + 2 * w * u))
      ≡ sum_box top bottom left right (λ (u v : ℕ). view (site_at w plane u v))
  by_columns top bottom left right view =
      box_turned left right top bottom _ ∙ by_place _ stepped_down top bottom left right view

-- a site of a plane is in that plane, in its row and in its column
module _ (w plane u v : ℕ) (in_row : v < w / 2) where
  across : site_at w plane u v ≡ (2 * u + row_parity plane) * w + (column_parity plane + 2 * v)
  across = omega arith

  pub site_row : site_at w plane u v / w ≡ 2 * u + row_parity plane
  site_row = rw across (digits_div (2 * u + row_parity plane) (omega arith))

  pub site_column : site_at w plane u v % w ≡ column_parity plane + 2 * v
  site_column = rw across (digits_mod (2 * u + row_parity plane) (omega arith))

  pub plane_row_lem : plane_row w (site_at w plane u v) ≡ u
  plane_row_lem = omega (arith, site_row)

  pub plane_column_lem : plane_column w (site_at w plane u v) ≡ v
  plane_column_lem = omega (arith, site_column)

  pub plane_of_lem : plane < 4 → plane_of w (site_at w plane u v) ≡ plane
  plane_of_lem few = omega (arith, site_row, site_column)

-- every site is the one at its own row and column of its own plane
pub site_at_lem : (w i : ℕ) → site_at w (plane_of w i) (plane_row w i) (plane_column w i) ≡ i
site_at_lem w i = rw rows (omega (arith, div-add-mod' i w))
  where
    rows : 2 * (i / w / 2) + (2 * (i / w % 2) + i % w % 2) / 2 % 2 ≡ i / w
    rows = omega arith

-- where some sites of both buffers can be walked, both have the window's
pub both_whole : (w h m f : ℕ) {n : ℕ} → n ≡ min (walked w h m) (walked w h f) → (n ≡ 0 → ⊥) → Whole w h m × Whole w h f
both_whole w h m f is some = (walked_some w h m (λ e. some (omega arith)), walked_some w h f (λ e. some (omega arith)))

module _ (w h plane : ℕ) (within : PlaneBox) where
  -- sums of views that agree on the plane's sites
  pub box_same : (f g : ℕ → ℕ) → ((i : ℕ) → i < h * w → f i ≡ g i) → box_sum w h plane within f ≡ box_sum w h plane within g
  unfolding box_sum
  box_same f g same = box_ext _ _ _ _ _ _ (λ u v p q s t. same (site_at w plane u v) (site_in w h plane u (omega arith) v (omega arith)))

  -- a view that is at every site at most B times another
  pub box_at_most : (B : ℕ) (f g : ℕ → ℕ) → ((i : ℕ) → i < h * w → g i ≤ B * f i) → box_sum w h plane within g ≤ B * box_sum w h plane within f
  unfolding box_sum
  box_at_most B f g below =
      box_scaled _ _ _ _ _ _ B (λ u v p q s t. below (site_at w plane u v) (site_in w h plane u (omega arith) v (omega arith)))

  -- views that are shifted at every site of the plane have sums that are
  pub box_shifted : (up down : ℕ) (c f g : ℕ → ℕ)
      → ((u v : ℕ) → u < h / 2 → v < w / 2 → Shifted up down (c (site_at w plane u v)) (f (site_at w plane u v)) (g (site_at w plane u v)))
      → Shifted up down (box_sum w h plane within c) (box_sum w h plane within f) (box_sum w h plane within g)
  unfolding box_sum
  box_shifted up down c f g shift =
      box_shift _ _ _ _ (λ (u v : ℕ). f (site_at w plane u v)) (λ (u v : ℕ). g (site_at w plane u v)) up down (λ (u v : ℕ). c (site_at w plane u v))
      (λ u v p q s t. shift u v (omega arith) (omega arith))

  -- a view that is nowhere above 1 adds up to no more than the box has sites
  pub box_few : (f : ℕ → ℕ) → ((i : ℕ) → f i ≤ 1) → box_sum w h plane within f ≤ (within.bottom - within.top) * (within.right - within.left)
  unfolding box_sum
  box_few f low =
      le_trans (box_le _ _ _ _ 1 _ (λ u v p q s t. low (site_at w plane u v)))
      (mul-le-mul (omega arith) (omega arith))

  -- sums of views that agree where the plane's row and column of a site are in the box
  pub box_seen : (f g : ℕ → ℕ)
      → ((i : ℕ) → within.top ≤ plane_row w i → plane_row w i < within.bottom → within.left ≤ plane_column w i → plane_column w i < within.right → f i ≡ g i)
      → box_sum w h plane within f ≡ box_sum w h plane within g
  unfolding box_sum
  box_seen f g same =
      box_ext _ _ _ _ _ _
      (λ u v p q s t. let row = plane_row_lem w plane u v (omega arith) in
      let column = plane_column_lem w plane u v (omega arith) in
      same (site_at w plane u v) (omega arith) (omega arith) (omega arith) (omega arith))

  -- the part of a box that lies inside the plane
  pub box_inner : (view : ℕ → ℕ) {part : PlaneBox} → Inner w h within part
      → sum_box part.top part.bottom part.left part.right (λ (u v : ℕ). view (site_at w plane u v)) ≡ box_sum w h plane within view
  unfolding box_sum
  box_inner view is = rw (is.top, is.left, is.bottom, is.right) (box_cut _ _ _ _ _)

-- sums of views that agree at every site but one
module _ (w h plane : ℕ) (within : PlaneBox) (site : ℕ) (f g : ℕ → ℕ) (same : (i : ℕ) → i < h * w → (i ≡ site → ⊥) → f i ≡ g i) where
  -- differ by what is seen there, where it lies in the box
  pub box_changed_in : plane_of w site ≡ plane → within.top ≤ plane_row w site → plane_row w site < min within.bottom (h / 2)
      → within.left ≤ plane_column w site → plane_column w site < min within.right (w / 2)
      → box_sum w h plane within g + f site ≡ box_sum w h plane within f + g site
  unfolding box_sum
  box_changed_in of top bottom left right =
      let there : site_at w plane (plane_row w site) (plane_column w site) ≡ site = rw (← of) (site_at_lem w site) in
      box_changed _ _ _ _ (λ (u v : ℕ). f (site_at w plane u v)) (λ (u v : ℕ). g (site_at w plane u v)) (plane_row w site) (plane_column w site) (f site) (g site) top bottom left right
      (λ u v p q s t other. same (site_at w plane u v) (site_in w h plane u (omega arith) v (omega arith))
      (λ e. other (sym (plane_row_lem w plane u v (omega arith)) ∙ ap (plane_row w) e) (sym (plane_column_lem w plane u v (omega arith)) ∙ ap (plane_column w) e)))
      (rw there (add_comm (g site) (f site)))

  -- and are one, where it does not
  pub box_changed_out : plane < 4
      → (plane_of w site ≡ plane → within.top ≤ plane_row w site → plane_row w site < within.bottom → within.left ≤ plane_column w site → plane_column w site < within.right → ⊥)
      → box_sum w h plane within g ≡ box_sum w h plane within f
  unfolding box_sum
  box_changed_out few out =
      box_ext _ _ _ _ (λ (u v : ℕ). g (site_at w plane u v)) (λ (u v : ℕ). f (site_at w plane u v))
      (λ u v p q s t. sym (same (site_at w plane u v) (site_in w h plane u (omega arith) v (omega arith))
      (λ e. let row : plane_row w site ≡ u = rw (← e) (plane_row_lem w plane u v (omega arith)) in
      let column : plane_column w site ≡ v = rw (← e) (plane_column_lem w plane u v (omega arith)) in
      out (rw (← e) (plane_of_lem w plane u v (omega arith) few)) (omega arith) (omega arith) (omega arith) (omega arith))))

-- samples of at most B: what is seen of them is at most B for each site counted
pub seen_scaled : (mask frame : List ℕ) (B : ℕ) → ((i : ℕ) → get_or frame i 0 ≤ B) → (i : ℕ) → seen mask frame i ≤ B * one mask i
seen_scaled mask frame B low i =
    seen_counted mask frame B i (rw seen_is (seen_le (get_or mask i 0) (get_or frame i 0) B (low i)))

module _ (w h plane : ℕ) (within : PlaneBox) (mask frame : List ℕ) where
  -- where every surveyed sample of the plane is s, they add up to s for each that is counted
  pub box_level : (s : ℕ) → ((u v : ℕ) → u < h / 2 → v < w / 2 → surveyed (get_or mask (site_at w plane u v) 0) ≡ true → get_or frame (site_at w plane u v) 0 ≡ s)
      → box_sum w h plane within (seen mask frame) ≡ s * box_sum w h plane within (one mask)
  box_level s same =
      omega (
        arith,
        box_shifted w h plane within s 0 (one mask) (seen mask []) (seen mask frame)
            (λ u v p q. seen_shift mask [] frame s 0 (site_at w plane u v) (λ t. omega (arith, same u v p q t))),
        box_at_most w h plane within 0 (one mask) (seen mask []) (λ i _. seen_scaled mask [] 0 (λ k. omega arith) i),
        zero-mul (box_sum w h plane within (one mask)),
      )

  -- buffers that have the window's sites show what is in the box
  pub sums-whole : (min (walked w h (length mask)) (walked w h (length frame)) ≡ 0 → ⊥)
      → box_sums w h plane within mask frame ≡ sums (box_sum w h plane within (one mask)) (box_sum w h plane within (seen mask frame))
  unfolding box_sums
  sums-whole some = rw (ne_eqb (min (walked w h (length mask)) (walked w h (length frame))) 0 some)

  -- as those of an accepted call do
  pub sums_accepted : Sides w h → length mask ≡ sites_of w h → length frame ≡ sites_of w h
      → box_sums w h plane within mask frame ≡ sums (box_sum w h plane within (one mask)) (box_sum w h plane within (seen mask frame))
  sums_accepted legal m f =
      let n = walked_whole w h (length mask) m in
      let k = walked_whole w h (length frame) f in
      let some = mul-le-mul legal.high.low legal.wide.low in
      sums-whole (λ e. omega (arith, n, k, legal.sites, some))

  -- any others show nothing
  pub sums_none : {n : ℕ} → n ≡ min (walked w h (length mask)) (walked w h (length frame)) → n ≡ 0 → sums 0 0 ≡ box_sums w h plane within mask frame
  unfolding box_sums
  sums_none is e = rw (eq-eqb (min (walked w h (length mask)) (walked w h (length frame))) 0 (sym is ∙ e))

  -- so sums over the part of a box that lies inside the plane are all that is seen of it
  pub sums-told : (r : Sums) {part : PlaneBox} → Inner w h within part
      → Runs mask frame (site_at w plane) part.left part.right part.top part.bottom r
      → {n : ℕ} → n ≡ min (walked w h (length mask)) (walked w h (length frame)) → (n ≡ 0 → ⊥)
      → r ≡ box_sums w h plane within mask frame
  sums-told r is s n some =
      ap₂ sums (s.counted ∙ box_inner w h plane within (one mask) is) (s.added ∙ box_inner w h plane within (seen mask frame) is) ∙ sym (sums-whole (λ e. some (n ∙ e)))

  -- no sample has more than 16 bits, so neither has what is seen of a site
  pub sums-low : ((i : ℕ) → get_or frame i 0 ≤ 65535) → (box_sums w h plane within mask frame).total ≤ 65535 * (box_sums w h plane within mask frame).count
  unfolding box_sums
  sums-low small =
      by (eqb (min (walked w h (length mask)) (walked w h (length frame))) 0) _ _
      (box_at_most w h plane within 65535 (one mask) (seen mask frame) (λ i _. seen_scaled mask frame 65535 small i))
    where
      by : (none : Bool) (count total : ℕ) → total ≤ 65535 * count
          → (cond none (sums 0 0) (sums count total)).total ≤ 65535 * (cond none (sums 0 0) (sums count total)).count
      by true count total low = zero-le
      by false count total low = low
