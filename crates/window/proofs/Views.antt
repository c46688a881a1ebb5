-- The laws of what is seen through a mask.
use Prim.Native.Nat.{ℕ, ◌+◌, ◌*◌, ◌≤◌, ◌<◌, zero-le}
use mathlib.Core.Bool.{Bool, true, false, cond}
use mathlib.Core.List.{List}
use mathlib.Core.Path.{◌≡◌, refl, fun_ext}
use native.Mathlib.Nat.{le_trans}
use native.Mathlib.Omega.{arith}
use lib.ListN.{length, get_or}
use borrow.Author.Tests.{eq-eqb, ne_eqb}
use Rattle.laws.specs.Sum.{sum_to}
use Rattle.laws.proofs.Sums.{Shifted, sum-le}
use Rattle.window.specs.Shape.{sites_of}
use Rattle.window.specs.View.{surveyed, seen_at, seen, one}
use Rattle.window.proofs.Sides.{sites-few}

module _ (code value : ℕ) where
  pub seen_in : code ≡ 0 → seen_at code value ≡ value
  unfolding seen_at
  seen_in e = rw (eq-eqb code 0 e)

  pub seen_out : (code ≡ 0 → ⊥) → seen_at code value ≡ 0
  unfolding seen_at
  seen_out e = rw (ne_eqb code 0 e)

  pub seen_le : (b : ℕ) → value ≤ b → seen_at code value ≤ b
  unfolding seen_at
  seen_le b h = by (surveyed code)
    where
      by : (t : Bool) → cond t value 0 ≤ b
      by true = h
      by false = zero-le

  -- what is decided by a value, where it is seen, is decided by it as it is seen
  pub seen_twice : (f : ℕ → ℕ) → seen_at code (f value) ≡ seen_at code (f (seen_at code value))
  unfolding seen_at
  seen_twice f = by (surveyed code)
    where
      by : (t : Bool) → cond t (f value) 0 ≡ cond t (f (cond t value 0)) 0
      by true = refl
      by false = refl

-- what stands at a site
pub seen_is : (mask frame : List ℕ) (i : ℕ) → seen mask frame i ≡ seen_at (get_or mask i 0) (get_or frame i 0)
unfolding seen
seen_is mask frame i = refl

-- a surveyed site is seen as it is, any other as 0
pub seen_there : (mask frame : List ℕ) (i : ℕ) → get_or mask i 0 ≡ 0 → seen mask frame i ≡ get_or frame i 0
unfolding seen
seen_there mask frame i e = seen_in (get_or mask i 0) (get_or frame i 0) e

pub seen_elsewhere : (mask frame : List ℕ) (i : ℕ) → (get_or mask i 0 ≡ 0 → ⊥) → seen mask frame i ≡ 0
unfolding seen
seen_elsewhere mask frame i e = seen_out (get_or mask i 0) (get_or frame i 0) e

pub one_is : (mask : List ℕ) (i : ℕ) → one mask i ≡ seen_at (get_or mask i 0) 1
unfolding one
one_is mask i = refl

pub one_le : (mask : List ℕ) (i : ℕ) → one mask i ≤ 1
one_le mask i = rw one_is (seen_le (get_or mask i 0) 1 1 (omega arith))

-- no more sites are surveyed than there are
pub surveyed-few : (mask : List ℕ) (n : ℕ) → sum_to n (one mask) ≤ n
surveyed-few mask n = omega (arith, sum-le n 1 (one mask) (λ i l. one_le mask i))

pub surveyed_most : (w h : ℕ) (mask : List ℕ) → sum_to (sites_of w h) (one mask) ≤ 16384
surveyed_most w h mask = le_trans (surveyed-few mask (sites_of w h)) (sites-few w h)

-- samples that are at most B where their site is surveyed
pub seen_most : (mask frame : List ℕ) (B i : ℕ) → (surveyed (get_or mask i 0) ≡ true → get_or frame i 0 ≤ B) → seen mask frame i ≤ B
unfolding seen seen_at
seen_most mask frame B i = by (surveyed (get_or mask i 0))
  where
    by : (t : Bool) → (t ≡ true → get_or frame i 0 ≤ B) → cond t (get_or frame i 0) 0 ≤ B
    by true h = h refl
    by false h = zero-le

-- what is seen and at most B is at most B for each site counted
pub seen_counted : (mask frame : List ℕ) (B i : ℕ) → seen mask frame i ≤ B → seen mask frame i ≤ B * one mask i
unfolding seen one seen_at
seen_counted mask frame B i = by (surveyed (get_or mask i 0))
  where
    by : (t : Bool) → cond t (get_or frame i 0) 0 ≤ B → cond t (get_or frame i 0) 0 ≤ B * cond t 1 0
    by true h = omega arith
    by false h = zero-le

-- g is f with one constant, up less down, added to every surveyed sample; at its other sites g may hold anything. Where a constant is taken off, up is 0
-- (a place past the end of the mask is no site)
abbrev pub Offset : ℕ → ℕ → List ℕ → List ℕ → List ℕ → Type 0
Offset up down mask f g = (i : ℕ) → i < length mask → surveyed (get_or mask i 0) ≡ true → get_or g i 0 + down ≡ get_or f i 0 + up

-- so of two frames of one length, and no surveyed sample of g has left 0 to full scale (below 0 there is none)
pub record Drifted (up down full : ℕ) (mask f g : List ℕ) : Type 0 where
  pub long : length g ≡ length f
  pub offset : Offset up down mask f g
  pub in_scale : (i : ℕ) → i < length mask → surveyed (get_or mask i 0) ≡ true → get_or g i 0 ≤ full

-- what is seen at a surveyed site grows by the constant, and at any other by nothing
pub seen_shift : (mask f g : List ℕ) (up down i : ℕ) → (surveyed (get_or mask i 0) ≡ true → get_or g i 0 + down ≡ get_or f i 0 + up)
    → Shifted up down (one mask i) (seen mask f i) (seen mask g i)
unfolding one seen seen_at
seen_shift mask f g up down i = by (surveyed (get_or mask i 0)) (get_or f i 0) (get_or g i 0)
  where
    by : (t : Bool) (x y : ℕ) → (t ≡ true → y + down ≡ x + up) → Shifted up down (cond t 1 0) (cond t x 0) (cond t y 0)
    by true x y h = omega (arith, h refl)
    by false x y h = omega arith

-- two frames of one length that hold the same at every surveyed site (and past the end of a mask that is shorter, which 4 refuses)
pub record Agree (mask f g : List ℕ) : Type 0 where
  pub long : length f ≡ length g
  pub same : (i : ℕ) → surveyed (get_or mask i 0) ≡ true → get_or f i 0 ≡ get_or g i 0

-- are seen alike
pub same_view : {mask f g : List ℕ} → Agree mask f g → seen mask f ≡ seen mask g
unfolding seen seen_at
same_view {mask} {f} {g} a = fun_ext (λ i. by (surveyed (get_or mask i 0)) (a.same i))
  where
    by : (t : Bool) {x y : ℕ} → (t ≡ true → x ≡ y) → cond t x 0 ≡ cond t y 0
    by true h = h refl
    by false h = refl
