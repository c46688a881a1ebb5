-- A site lies in at most one block and one centre of its plane: dividing finds their entries.
use Prim.Native.Nat.{ℕ, ◌+◌, ◌*◌, ◌/◌, ◌%◌, ◌<◌}
use mathlib.Core.Bool.{Bool, true, false, cond, ◌&&◌}
use mathlib.Core.List.{List}
use mathlib.Core.Logic.{⊎_elim}
use mathlib.Core.Path.{◌≡◌, refl, sym, ap, ◌∙◌, subst}
use native.Mathlib.Nat.{mod-lt, div-add-mod', div-lt_iff_lt-mul, mul_comm}
use native.Mathlib.Omega.{arith}
use lib.Arith.{digits_div, digits_mod, digits_lt}
use lib.Dec.{eqb, ltb}
use lib.ListN.{length, set}
use borrow.Author.Tests.{eqb-true, eq-eqb, ltb-true, lt-ltb}
use Rattle.std.specs.Prelude.{Option, Some, None}
use Rattle.laws.specs.Table.{held, tabulate}
use Rattle.laws.proofs.Cases.{true_or_false, lt_or_ge, and_true}
use Rattle.laws.proofs.Tables.{tabulated, length-tabulate, get_d_tabulate, tabulate_ext, tabulate-set}
use Rattle.window.specs.Shape.{bad_sides}
use Rattle.plane.specs.Plane.{plane_of, plane_row, plane_column}
use Rattle.plane.specs.declared.PlaneBox.{PlaneBox}
use Rattle.colour.specs.Centre.{centre_of}
use Rattle.blocks.specs.Areas.{blocks_across, blocks_down, blocks_of, areas_of, area_of, entries_of, entry_at, entry_plane, entry_area, in_box, lies_in}
use Rattle.blocks.specs.Recode.{amend, amended, recoded}
use Rattle.blocks.specs.Walk.{block_entry, centre_entry, is_at, amended_at}
use Rattle.blocks.proofs.Areas.{blocks_are, some_across, area_centre}
use Rattle.blocks.proofs.Sites.{Lies, lies, lies_in_lem}
use Rattle.blocks.proofs.Grid.{lies_in_block, block_lies}

-- a row and a column of the grid are a block's
pub in_grid : (w h row column : ℕ) → bad_sides w h ≡ false → row < blocks_down h → column < blocks_across w → row * blocks_across w + column < areas_of w h
in_grid w h row column legal low near =
    omega (arith, digits_lt low near, blocks_are w h legal, mul_comm (blocks_across w) (blocks_down h))

-- two tests are one where each holds where the other does
same_test : (a b : Bool) → (a ≡ true → b ≡ true) → (b ≡ true → a ≡ true) → a ≡ b
same_test true true f g = refl
same_test true false f g = sym (f refl)
same_test false true f g = g refl
same_test false false f g = refl

-- a conjunction holds where both of its tests do
both : {a b : Bool} → a ≡ true → b ≡ true → (a && b) ≡ true
both p q = rw (p, q)

-- a place that a test chose
chosen : (t : Bool) (x e : ℕ) → is_at e (cond t (Some x) None) ≡ true → (t ≡ true) × (e ≡ x)
chosen true x e at = (refl, eqb-true e x at)
chosen false x e at = absurd cc

module _ (w h site e : ℕ) (in_table : e < entries_of w h) where
  -- the area of an entry that is a block's, or a centre's
  area_of_block : bad_sides w h ≡ false → is_at e (block_entry w h site) ≡ true → entry_area w h e < blocks_of w h
  unfolding block_entry
  area_of_block legal at =
      let row = plane_row w site / 12 in
      let column = plane_column w site / 16 in
      let entry = chosen (ltb row (blocks_down h) && ltb column (blocks_across w)) (plane_of w site * areas_of w h + (row * blocks_across w + column)) e at in
      let grid = and_true (ltb row (blocks_down h)) (ltb column (blocks_across w)) entry.0 in
      let in_blocks : row * blocks_across w + column < blocks_of w h =
      omega (arith, digits_lt (ltb-true row (blocks_down h) grid.0) (ltb-true column (blocks_across w) grid.1), blocks_are w h legal, mul_comm (blocks_across w) (blocks_down h)) in
      let k : row * blocks_across w + column < areas_of w h = omega arith in
      omega (arith, ap (λ (x : ℕ). x % areas_of w h) entry.1 ∙ digits_mod (plane_of w site) k)

  area_of_centre : is_at e (centre_entry w h site) ≡ true → entry_area w h e ≡ blocks_of w h
  unfolding centre_entry
  area_of_centre at =
      let entry = chosen (in_box (centre_of w h) (plane_row w site) (plane_column w site)) (plane_of w site * areas_of w h + blocks_of w h) e at in
      let k : blocks_of w h < areas_of w h = omega arith in
      ap (λ (x : ℕ). x % areas_of w h) entry.1 ∙ digits_mod (plane_of w site) k

  -- an entry of a plane's block
  module _ (in_blocks : entry_area w h e < blocks_of w h) (legal : bad_sides w h ≡ false) where
    across : 0 < blocks_across w
    across = some_across w h (omega arith)

    turned : blocks_of w h ≡ blocks_down h * blocks_across w
    turned = blocks_are w h legal ∙ mul_comm (blocks_across w) (blocks_down h)

    found : lies_in w h site e ≡ true → is_at e (block_entry w h site) ≡ true
    unfolding block_entry
    found t =
        let k = entry_area w h e in
        let low : k / blocks_across w < blocks_down h = (div-lt_iff_lt-mul across).1 (omega (arith, turned)) in
        let near : k % blocks_across w < blocks_across w = mod-lt k across in
        let at : e ≡ entry_at w h (entry_plane w h e) (k / blocks_across w * blocks_across w + k % blocks_across w) =
        sym (ap (entry_at w h (entry_plane w h e)) (div-add-mod' k (blocks_across w)) ∙ div-add-mod' e (areas_of w h)) in
        let i = lies_in_block w h site (entry_plane w h e) _ _ legal low near (subst (λ (x : ℕ). Lies w h site x) at (lies w h site e t)) in
        rw (i.row, i.column, lt-ltb (k / blocks_across w) (blocks_down h) low, lt-ltb (k % blocks_across w) (blocks_across w) near, i.of) (eq-eqb _ _ at)

    back : is_at e (block_entry w h site) ≡ true → lies_in w h site e ≡ true
    unfolding block_entry
    back at =
        let row = plane_row w site / 12 in
        let column = plane_column w site / 16 in
        let entry = chosen (ltb row (blocks_down h) && ltb column (blocks_across w)) (entry_at w h (plane_of w site) (row * blocks_across w + column)) e at in
        let grid = and_true (ltb row (blocks_down h)) (ltb column (blocks_across w)) entry.0 in
        lies_in_lem w h site e
        (subst (λ (x : ℕ). Lies w h site x) (sym entry.1)
        (block_lies w h site (plane_of w site) row column legal (ltb-true row (blocks_down h) grid.0) (ltb-true column (blocks_across w) grid.1) (record { of = refl; row = refl; column = refl })))

  -- an entry of a plane's centre
  module _ (last : entry_area w h e ≡ blocks_of w h) where
    in_centre : in_box (area_of w h (entry_area w h e)) (plane_row w site) (plane_column w site) ≡ in_box (centre_of w h) (plane_row w site) (plane_column w site)
    in_centre = ap (λ (b : PlaneBox). in_box b (plane_row w site) (plane_column w site)) (area_centre w h (entry_area w h e) (omega arith))

    whole : entry_plane w h e * areas_of w h + blocks_of w h ≡ e
    whole = ap (λ (k : ℕ). entry_plane w h e * areas_of w h + k) (sym last) ∙ div-add-mod' e (areas_of w h)

    found_centre : lies_in w h site e ≡ true → is_at e (centre_entry w h site) ≡ true
    unfolding lies_in centre_entry
    found_centre lies =
        let of = and_true (eqb (plane_of w site) (entry_plane w h e)) (in_box (area_of w h (entry_area w h e)) (plane_row w site) (plane_column w site)) lies in
        rw (sym in_centre ∙ of.1, eqb-true (plane_of w site) (entry_plane w h e) of.0)
        (eq-eqb e (entry_plane w h e * areas_of w h + blocks_of w h) (sym whole))

    lies_centre : is_at e (centre_entry w h site) ≡ true → lies_in w h site e ≡ true
    unfolding lies_in centre_entry
    lies_centre at =
        let entry = chosen (in_box (centre_of w h) (plane_row w site) (plane_column w site)) (plane_of w site * areas_of w h + blocks_of w h) e at in
        let k : blocks_of w h < areas_of w h = omega arith in
        both (eq-eqb (plane_of w site) (entry_plane w h e) (sym (ap (λ (x : ℕ). x / areas_of w h) entry.1 ∙ digits_div (plane_of w site) k))) (in_centre ∙ entry.0)

  -- so an entry in whose area the site lies is amended, and once
  pub amended_once : bad_sides w h ≡ false → (old new x : ℕ)
      → cond (is_at e (centre_entry w h site)) (amend old new (cond (is_at e (block_entry w h site)) (amend old new x) x)) (cond (is_at e (block_entry w h site)) (amend old new x) x)
      ≡ cond (lies_in w h site e) (amend old new x) x
  amended_once legal old new x =
      ⊎_elim
      (λ in_blocks. let elsewhere = never (λ t. let is = area_of_centre t in omega arith) in
      rw (elsewhere, same_test (lies_in w h site e) (is_at e (block_entry w h site)) (found in_blocks legal) (back in_blocks legal)))
      (λ past. let last : entry_area w h e ≡ blocks_of w h = omega (arith, mod-lt e some) in
      let elsewhere = never (λ t. let is = area_of_block legal t in omega arith) in
      rw (elsewhere, same_test (lies_in w h site e) (is_at e (centre_entry w h site)) (found_centre last) (lies_centre last)))
      (lt_or_ge (entry_area w h e) (blocks_of w h))
    where
      some : 0 < areas_of w h
      some = omega arith

      never : {t : Bool} → (t ≡ true → ⊥) → t ≡ false
      never {t} f = ⊎_elim (λ e. absurd (f e)) (λ e. e) (true_or_false t)

-- entries amended at the block's place and then at the centre's
pub amended_areas : (w h site old new : ℕ) (entries : List ℕ) → bad_sides w h ≡ false → length entries ≡ entries_of w h
    → amended_at (centre_entry w h site) old new (amended_at (block_entry w h site) old new entries) ≡ amended w h site old new entries
unfolding amended_at amended
amended_areas w h site old new entries legal long =
    ap (λ (n : ℕ). tabulate n (λ (e : ℕ). cond (is_at e (centre_entry w h site)) (amend old new (held blocks e)) (held blocks e))) (length-tabulate (length entries) first)
    ∙ tabulate_ext (length entries) (λ (e : ℕ). cond (is_at e (centre_entry w h site)) (amend old new (held blocks e)) (held blocks e)) (λ (e : ℕ). cond (lies_in w h site e) (amend old new (held entries e)) (held entries e))
    (λ e l. ap (λ (x : ℕ). cond (is_at e (centre_entry w h site)) (amend old new x) x) (get_d_tabulate (length entries) first e l)
    ∙ amended_once w h site e (omega arith) legal old new (held entries e))
  where
    first : ℕ → ℕ
    first e = cond (is_at e (block_entry w h site)) (amend old new (held entries e)) (held entries e)

    blocks : List ℕ
    blocks = tabulate (length entries) first

-- as the code finds them: the two places, and what the two codes show
pub amended-found : (w h site : ℕ) (block centre : Option ℕ) (was is old new : ℕ) (entries : List ℕ) → bad_sides w h ≡ false → length entries ≡ entries_of w h
    → block ≡ block_entry w h site → centre ≡ centre_entry w h site → was ≡ old → is ≡ new
    → amended_at centre was is (amended_at block was is entries) ≡ amended w h site old new entries
amended-found w h site block centre was is old new entries legal long b c p q = rw (b, c, p, q) (amended_areas w h site old new entries legal long)

-- one entry written is one amended
pub amended-set : (at old new : ℕ) (entries : List ℕ) (v : ℕ) → at < length entries → v ≡ amend old new (held entries at) → set entries at v ≡ amended_at (Some at) old new entries
unfolding amended_at
amended-set at old new entries v l e =
    tabulate-set entries at v l
    ∙ tabulate_ext (length entries) (λ (k : ℕ). cond (eqb k at) v (held entries k)) (λ (k : ℕ). cond (eqb k at) (amend old new (held entries k)) (held entries k))
    (λ k b. ⊎_elim (λ t. let here = eqb-true k at t in rw (t, here) e) (λ t. rw t) (true_or_false (eqb k at)))

-- and where there is no place none is
pub amended-none : (old new : ℕ) (entries : List ℕ) → entries ≡ amended_at None old new entries
unfolding amended_at
amended-none old new entries = tabulated (length entries) (λ (k : ℕ). held entries k) entries refl (λ k b. refl)

-- one code written
pub recoded-set : (site code : ℕ) (mask : List ℕ) → site < length mask → set mask site code ≡ recoded site code mask
unfolding recoded
recoded-set site code mask l = tabulate-set mask site code l
