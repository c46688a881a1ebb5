-- One site's share of an area's sum, and how large a sum can be.
use Prim.Native.Nat.{ℕ, ◌+◌, ◌*◌, ◌^◌, ◌/◌, ◌%◌, ◌≤◌, ◌<◌}
use mathlib.Core.Bool.{true, false, ◌&&◌}
use mathlib.Core.Logic.{⊎_elim}
use mathlib.Core.Path.{◌≡◌}
use native.Mathlib.Nat.{mod-lt, div-lt_iff_lt-mul}
use native.Mathlib.Omega.{arith}
use lib.Dec.{eqb, leb, ltb}
use borrow.Author.Tests.{eqb-true, eq-eqb, leb-true, le-leb, ltb-true, lt-ltb}
use Rattle.laws.proofs.Cases.{and_true, true_or_false, not_both}
use Rattle.window.proofs.Sides.{Sides}
use Rattle.plane.specs.Plane.{plane_of, plane_row, plane_column}
use Rattle.plane.specs.declared.PlaneBox.{PlaneBox}
use Rattle.plane.proofs.Planes.{box_few, box_at_most, box_changed_in, box_changed_out}
use Rattle.blocks.specs.Areas.{areas_of, area_of, area_sites, entries_of, entry_plane, entry_area, in_box, lies_in}
use Rattle.blocks.specs.Table.{entry_sum}
use Rattle.blocks.proofs.Areas.{sites-few}

-- a site lies in the area of entry e
pub record Lies (w h site e : ℕ) : Type 0 where
  pub plane : plane_of w site ≡ entry_plane w h e
  pub top : (area_of w h (entry_area w h e)).top ≤ plane_row w site
  pub bottom : plane_row w site < (area_of w h (entry_area w h e)).bottom
  pub left : (area_of w h (entry_area w h e)).left ≤ plane_column w site
  pub right : plane_column w site < (area_of w h (entry_area w h e)).right

module _ (w h site e : ℕ) where
  abbrev area : PlaneBox
  area = area_of w h (entry_area w h e)

  pub lies : lies_in w h site e ≡ true → Lies w h site e
  unfolding lies_in
  lies t =
      let u = plane_row w site in
      let v = plane_column w site in
      let both = and_true (eqb (plane_of w site) (entry_plane w h e)) (in_box area u v) t in
      let in-box = and_true (leb area.top u && ltb u area.bottom) (leb area.left v && ltb v area.right) both.1 in
      let rows = and_true (leb area.top u) (ltb u area.bottom) in-box.0 in
      let columns = and_true (leb area.left v) (ltb v area.right) in-box.1 in
      record {
        plane = eqb-true (plane_of w site) (entry_plane w h e) both.0;
        top = leb-true area.top u rows.0;
        bottom = ltb-true u area.bottom rows.1;
        left = leb-true area.left v columns.0;
        right = ltb-true v area.right columns.1;
      }

  pub lies_in_lem : Lies w h site e → lies_in w h site e ≡ true
  unfolding lies_in
  lies_in_lem l =
      let u = plane_row w site in
      let v = plane_column w site in
      rw (
        eq-eqb (plane_of w site) (entry_plane w h e) l.plane,
        le-leb area.top u l.top,
        lt-ltb u area.bottom l.bottom,
        le-leb area.left v l.left,
        lt-ltb v area.right l.right,
      )

  pub lies_not : (Lies w h site e → ⊥) → lies_in w h site e ≡ false
  lies_not out = ⊎_elim (λ t. absurd (out (lies t))) (λ f. f) (true_or_false (lies_in w h site e))

-- an entry of the table is of one of the four planes
pub plane_few : (w h e : ℕ) → e < entries_of w h → entry_plane w h e < 4
plane_few w h e l = (div-lt_iff_lt-mul {k = areas_of w h} (omega arith)).1 (omega arith)

-- sums of views that agree at every site but one
module _ (w h site : ℕ) (legal : Sides w h) (inside : site < h * w) (f g : ℕ → ℕ) (same : (i : ℕ) → i < h * w → (i ≡ site → ⊥) → f i ≡ g i) (e : ℕ) where
  -- differ by what is seen there, in an area in which it lies
  pub entry_in : lies_in w h site e ≡ true → entry_sum w h g e + f site ≡ entry_sum w h f e + g site
  unfolding entry_sum
  entry_in t =
      let l = lies w h site e t in
      let wide = legal.wide in
      let high = legal.high in
      let row : site / w < h = (div-lt_iff_lt-mul {k = w} (omega arith)).1 inside in
      let column : site % w < w = mod-lt site (omega arith) in
      let rows : h % 2 ≡ 0 = high.even in
      let columns : w % 2 ≡ 0 = wide.even in
      let b = l.bottom in
      let r = l.right in
      box_changed_in w h (entry_plane w h e) (area w h site e) site f g same l.plane l.top (omega arith) l.left (omega arith)

  -- and are one, in any other
  pub entry_out : e < entries_of w h → lies_in w h site e ≡ false → entry_sum w h g e ≡ entry_sum w h f e
  unfolding entry_sum
  entry_out below t =
      box_changed_out w h (entry_plane w h e) (area w h site e) site f g same (plane_few w h e below)
      (λ p a b l r. not_both (lies_in_lem w h site e (record { plane = p; top = a; bottom = b; left = l; right = r })) t)

module _ (w h e : ℕ) where
  -- no more sites of an area are counted than it has
  pub entry_few : (f : ℕ → ℕ) → ((i : ℕ) → f i ≤ 1) → entry_sum w h f e ≤ area_sites w h (entry_area w h e)
  unfolding entry_sum area_sites
  entry_few f low = box_few w h (entry_plane w h e) (area_of w h (entry_area w h e)) f low

  -- and a sum of what is at most B times another view is at most B times its sum
  pub entry_at_most : (B : ℕ) (f g : ℕ → ℕ) → ((i : ℕ) → i < h * w → g i ≤ B * f i) → entry_sum w h g e ≤ B * entry_sum w h f e
  unfolding entry_sum
  entry_at_most B f g below = box_at_most w h (entry_plane w h e) (area_of w h (entry_area w h e)) B f g below

  -- so what is nowhere above 4095 adds up to less than 2^32
  pub entry_fits : (f : ℕ → ℕ) → ((i : ℕ) → i < h * w → f i ≤ 4095) → entry_sum w h f e < 2 ^ 32
  entry_fits f low =
      let ones : ℕ → ℕ = λ i. 1 in
      omega (arith, entry_at_most 4095 ones f (λ i l. omega (arith, low i l)), entry_few ones (λ i. omega arith), sites-few w h (entry_area w h e))
