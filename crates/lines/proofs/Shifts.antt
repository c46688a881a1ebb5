-- Why a constant added to every surveyed sample changes no mark: s and S grow by it c and C times, so s × C and S × c grow alike.
use Prim.Native.Nat.{ℕ, ◌+◌, ◌*◌, ◌<◌, ◌≤◌}
use mathlib.Core.Bool.{Bool, true, false, cond, ◌&&◌}
use mathlib.Core.List.{List, []}
use mathlib.Core.Logic.{◌⊎◌, inl, inr}
use mathlib.Core.Path.{◌≡◌, refl, ap}
use native.Mathlib.Nat.{mul-add, zero-mul}
use native.Mathlib.Omega.{arith}
use lib.Dec.{ltb}
use borrow.Author.Tests.{le-ltb}
use Rattle.laws.specs.Sum.{sum_to, sum_in}
use Rattle.laws.specs.Signed.{apart}
use Rattle.laws.proofs.Sums.{Shifted, in_shift, shift_cross}
use Rattle.window.specs.View.{seen, one}
use Rattle.plane.proofs.Planes.{box_at_most, seen_scaled}
use Rattle.lines.specs.Lines.{Lines, before, after, pooled, defective, mark_of, line_sum}
use Rattle.lines.proofs.Pools.{before_in, after_in}

-- s × C and S × c stay as far apart
apart_shift : (up down c s t C S T : ℕ) → Shifted up down c s t → Shifted up down C S T → apart (s * C) (S * c) ≡ apart (t * C) (T * c)
apart_shift up down c s t C S T p q =
    omega (arith, shift_cross up down c s t C S T p q)

module _ (n up down l : ℕ) (some : 9 ≤ n) (inside : l < n) (c s t : ℕ → ℕ) (shift : (m : ℕ) → m < n → Shifted up down (c m) (s m) (t m)) where
  pooled_shift : Shifted up down (pooled n c l) (pooled n s l) (pooled n t l)
  unfolding pooled
  pooled_shift =
      in_shift 1 9 up down (λ (j : ℕ). c (before l j) + c (after n l j)) (λ (j : ℕ). s (before l j) + s (after n l j)) (λ (j : ℕ). t (before l j) + t (after n l j))
      (λ j p q. pair (before l j) (after n l j) (before_in n l j some inside (omega arith)) (after_in n l j some inside (omega arith)))
    where
      pair : (a b : ℕ) → a < n → b < n → Shifted up down (c a + c b) (s a + s b) (t a + t b)
      pair a b p q = omega (arith, shift a p, shift b q, mul-add up (c a) (c b), mul-add down (c a) (c b))

  -- so the mark of the line is the same
  pub mark_shift : mark_of n c s l ≡ mark_of n c t l
  unfolding mark_of defective
  mark_shift =
      ap (λ (d : ℕ). cond (ltb 0 (c l) && (ltb 0 (pooled n c l) && ltb (5 * c l * pooled n c l) (2 * d))) 1 0)
      (apart_shift up down (c l) (s l) (t l) (pooled n c l) (pooled n s l) (pooled n t l) (shift l inside) pooled_shift)

-- sums that are all 0 are never far from each other
pub none_far : (n l : ℕ) (c : ℕ → ℕ) → mark_of n c (λ (m : ℕ). 0) l ≡ 0
unfolding mark_of defective pooled sum_in sum_to
none_far n l c =
    let own = zero-mul (pooled n c l) in
    let pool = zero-mul (c l) in
    by (ltb 0 (c l)) (ltb 0 (pooled n c l)) _ (le-ltb (5 * c l * pooled n c l) (2 * apart (0 * pooled n c l) (0 * c l)) (omega arith))
  where
    by : (a b far : Bool) → far ≡ false → ◌≡◌ {A = ℕ} (cond (a && (b && far)) 1 0) 0
    by false b far e = refl
    by true false far e = refl
    by true true far e = rw e

-- a line with no surveyed site is never marked
pub none_surveyed : (n l : ℕ) (c s : ℕ → ℕ) → c l ≡ 0 → mark_of n c s l ≡ 0
unfolding mark_of defective
none_surveyed n l c s e = rw e

-- a mark is 0 or 1
pub zero_or_one : (n l : ℕ) (c s : ℕ → ℕ) → (mark_of n c s l ≡ 0) ⊎ (mark_of n c s l ≡ 1)
unfolding mark_of
zero_or_one n l c s = by (defective (c l) (s l) (pooled n c l) (pooled n s l))
  where
    by : (b : Bool) → (◌≡◌ {A = ℕ} (cond b 1 0) 0) ⊎ (◌≡◌ {A = ℕ} (cond b 1 0) 1)
    by true = inr refl
    by false = inl refl

-- a frame of no sample shows 0 everywhere
pub blank_line : (lines : Lines) (w h plane : ℕ) (mask : List ℕ) (l : ℕ) → line_sum lines w h plane (seen mask []) l ≡ 0
blank_line lines w h plane mask l =
    omega (
      arith,
      box_at_most w h plane (lines.line l) 0 (one mask) (seen mask []) (λ i l. seen_scaled mask [] 0 (λ k. omega arith) i),
      zero-mul (line_sum lines w h plane (one mask) l),
    )
