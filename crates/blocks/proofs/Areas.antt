-- The laws of a plane's areas: how many there are, which they are, and how many sites each has.
use Prim.Native.Nat.{ℕ, zero, suc, ◌+◌, ◌-◌, ◌*◌, ◌/◌, ◌%◌, ◌≤◌, ◌<◌}
use mathlib.Core.Bool.{true, false}
use mathlib.Core.Logic.{⊎_elim}
use mathlib.Core.Path.{◌≡◌, ap, ap₂, ◌∙◌}
use native.Mathlib.Nat.{zero-mul, mul_comm, mod-lt, div-lt_iff_lt-mul}
use native.Mathlib.Omega.{arith}
use lib.Arith.{digits_div, digits_mod, digits_lt}
use borrow.Author.Tests.{lt-ltb, le-ltb}
use Rattle.laws.proofs.Cases.{true_or_false, lt_or_ge, times_le}
use Rattle.window.specs.Shape.{bad_sides}
use Rattle.window.proofs.Sides.{sides}
use Rattle.colour.specs.Centre.{centre_of}
use Rattle.blocks.specs.Areas.{blocks_across, blocks_down, blocks_of, block_of, area_of, box_sites, area_sites, entries_of, entry_at, entry_plane, entry_area}

module _ (w h : ℕ) where
  pub blocks_are : bad_sides w h ≡ false → blocks_of w h ≡ blocks_across w * blocks_down h
  unfolding blocks_of
  blocks_are legal = rw legal

  pub no_blocks : bad_sides w h ≡ true → blocks_of w h ≡ 0
  unfolding blocks_of
  no_blocks bad = rw bad

  -- at most 4 across and 5 down
  pub few-blocks : bad_sides w h ≡ false → blocks_across w * blocks_down h ≤ 20
  few-blocks legal =
      let s = sides w h legal in
      times_le (blocks_across w) (blocks_down h) 4 5 (omega (arith, s.wide.high)) (omega (arith, s.high.high))

  -- sides that no window has aside, as many as fit
  blocks_most : blocks_of w h ≤ blocks_across w * blocks_down h
  blocks_most = ⊎_elim (λ bad. omega (arith, no_blocks bad)) (λ legal. omega (arith, blocks_are legal)) (true_or_false (bad_sides w h))

  pub blocks-few : blocks_of w h ≤ 20
  blocks-few =
      ⊎_elim
      (λ bad. omega (arith, no_blocks bad))
      (λ legal. omega (arith, blocks_are legal, few-blocks legal))
      (true_or_false (bad_sides w h))

  -- where there is a block, there is one across
  pub some_across : 0 < blocks_of w h → 0 < blocks_across w
  some_across some =
      ⊎_elim
      (λ bad. absurd (omega (arith, no_blocks bad)))
      (λ legal. positive (blocks_across w) (blocks_down h) (omega (arith, blocks_are legal)))
      (true_or_false (bad_sides w h))
    where
      positive : (a b : ℕ) → 0 < a * b → 0 < a
      positive zero b l = absurd (omega (arith, zero-mul b))
      positive (suc a) b l = omega arith

  -- the areas before the last are blocks
  pub area_block : (k : ℕ) → k < blocks_of w h → area_of w h k ≡ block_of w k
  unfolding area_of
  area_block k in_blocks = rw (lt-ltb k (blocks_of w h) in_blocks)

  -- which all end inside the plane
  pub block_in : (k : ℕ) → k < blocks_of w h → ((block_of w k).bottom ≤ 12 * (h / 2 / 12)) × ((block_of w k).right ≤ 16 * (w / 2 / 16))
  block_in k in_blocks =
      let across = some_across (omega arith) in
      let down : k / blocks_across w < blocks_down h = (div-lt_iff_lt-mul {k = blocks_across w} across).1 (omega (arith, blocks_most, mul_comm (blocks_across w) (blocks_down h))) in
      let along : k % blocks_across w < blocks_across w = mod-lt k across in
      (omega arith, omega arith)

  -- and have 192 sites each
  pub block_sites : (k : ℕ) → k < blocks_of w h → area_sites w h k ≡ 192
  unfolding area_sites
  block_sites k in_blocks = ap box_sites (area_block k in_blocks) ∙ ap₂ (λ (x y : ℕ). x * y) (between 12 (k / blocks_across w)) (between 16 (k % blocks_across w))
    where
      between : (side at : ℕ) → side * at + side - side * at ≡ side
      between side at = omega arith

  -- the last is the centre, of 768
  pub area_centre : (k : ℕ) → blocks_of w h ≤ k → area_of w h k ≡ centre_of w h
  unfolding area_of
  area_centre k past = rw (le-ltb k (blocks_of w h) past)

  pub centre_sites : (k : ℕ) → blocks_of w h ≤ k → area_sites w h k ≡ 768
  unfolding area_sites
  centre_sites k past = ap box_sites (area_centre k past) ∙ ap₂ (λ (x y : ℕ). x * y) high wide
    where
      high : (centre_of w h).bottom - (centre_of w h).top ≡ 24
      high = omega arith

      wide : (centre_of w h).right - (centre_of w h).left ≡ 32
      wide = omega arith

  -- so no area has more
  pub sites-few : (k : ℕ) → area_sites w h k ≤ 768
  sites-few k =
      ⊎_elim (λ l. omega (arith, block_sites k l)) (λ g. omega (arith, centre_sites k g)) (lt_or_ge k (blocks_of w h))

-- area k of a plane has an entry of the table, which is of that plane and area
module _ (w h : ℕ) (plane k : ℕ) (last : k ≤ blocks_of w h) where
  pub entry_below : plane < 4 → entry_at w h plane k < entries_of w h
  entry_below few = digits_lt few (omega arith)

  pub entry_plane_lem : entry_plane w h (entry_at w h plane k) ≡ plane
  entry_plane_lem = digits_div plane (omega arith)

  pub entry_area_lem : entry_area w h (entry_at w h plane k) ≡ k
  entry_area_lem = digits_mod plane (omega arith)

-- a legal window has a column
pub some_width : (w h : ℕ) → bad_sides w h ≡ false → 0 < w
some_width w h legal = omega (arith, (sides w h legal).wide.low)
