-- The laws of repair.
use Prim.Native.Nat.{ℕ, ◌+◌, ◌*◌, ◌/◌, ◌<◌, ◌≤◌}
use mathlib.Core.Bool.{Bool, true, false, cond}
use mathlib.Core.List.{List}
use mathlib.Core.Path.{◌≡◌, refl, ◌∙◌}
use native.Mathlib.Nat.{div-lt_iff_lt-mul, le-div_iff_mul-le, add-mul, mul_left_comm}
use native.Mathlib.Omega.{arith}
use lib.Dec.{eqb, ltb}
use lib.ListN.{get_or}
use borrow.Author.Tests.{eqb-true, ltb-true, ne_eqb}
use Rattle.window.specs.View.{surveyed, seen_at, seen, one}
use Rattle.window.proofs.Views.{seen_most, seen_counted}
use Rattle.near.specs.Near.{near_sum}
use Rattle.repair.specs.Repair.{mean_of, filled_at, sample_after, code_after}
use Rattle.near.proofs.Turns.{after, decided}

-- the mean of samples that are at least `least` and at most `most` is so too
pub mean_most : (s c most : ℕ) → 0 < c → s ≤ most * c → mean_of s c ≤ most
unfolding mean_of
mean_most s c most some low =
    let d : (most + 1) * (2 * c) ≡ 2 * (most * c) + 2 * c = add-mul most 1 (2 * c) ∙ omega (arith, mul_left_comm most 2 c) in
    let l : (2 * s + c) / (2 * c) < most + 1 = (div-lt_iff_lt-mul {k = 2 * c} (omega arith)).1 (omega (arith, d)) in
    omega arith

pub mean-least : (s c least : ℕ) → 0 < c → least * c ≤ s → least ≤ mean_of s c
unfolding mean_of
mean-least s c least some high = (le-div_iff_mul-le {k = 2 * c} (omega arith)).1 (omega (arith, mul_left_comm least 2 c))

module _ (w h : ℕ) (mask : List ℕ) (i : ℕ) where
  -- a site of another code is not filled
  pub not_defect : (get_or mask i 0 ≡ 2 → ⊥) → filled_at w h mask i ≡ 0
  unfolding filled_at
  not_defect other = rw (ne_eqb (get_or mask i 0) 2 other)

  pub kept_code : filled_at w h mask i ≡ 0 → get_or mask i 0 ≡ code_after w h mask i
  unfolding code_after
  kept_code e = rw e

  module _ (view : ℕ → ℕ) (frame : List ℕ) where
    pub kept_sample : filled_at w h mask i ≡ 0 → get_or frame i 0 ≡ sample_after w h mask view frame i
    unfolding sample_after
    kept_sample e = rw e

    pub new_sample : filled_at w h mask i ≡ 1 → mean_of (near_sum 1 w h view i) (near_sum 1 w h (one mask) i) ≡ sample_after w h mask view frame i
    unfolding sample_after
    new_sample e = rw e

-- the test that decides a site of code 2
abbrev pub fillable : ℕ → ℕ → List ℕ → ℕ → Bool
fillable w h mask i = ltb 0 (near_sum 1 w h (one mask) i)

-- a site that was 2 and is 3 is filled
pub filled_new : (code : ℕ) (b : Bool) → after 3 code (decided 2 code b) ≡ 3 → code ≡ 2 → decided 2 code b ≡ 1
filled_new code b e two = by b (rw two at e)
  where
    by : (b : Bool) → after 3 2 (decided 2 2 b) ≡ 3 → decided 2 code b ≡ 1
    by true q = rw two
    by false q = absurd (omega arith)

-- it is seen after a repair as before
pub same_seen : (code value new : ℕ) (b : Bool) → (decided 2 code b ≡ 0 → new ≡ value) → seen_at (after 3 code (decided 2 code b)) new ≡ seen_at code value
unfolding seen_at
same_seen code value new b keeps = by (eqb code 2) b refl keeps
  where
    by : (c b : Bool) → eqb code 2 ≡ c → (◌≡◌ {A = ℕ} (cond c (cond b 1 0) 0) 0 → new ≡ value)
        → cond (surveyed (cond (eqb (cond c (cond b 1 0) 0) 0) code 3)) new 0 ≡ cond (surveyed code) value 0
    by true true e k = rw (eqb-true code 2 e)
    by true false e k = rw (k refl)
    by false b e k = rw (k refl)

-- and is not filled again
pub not_again : (code : ℕ) (b : Bool) → decided 2 (after 3 code (decided 2 code b)) b ≡ 0
not_again code b = by (eqb code 2) b refl
  where
    by : (c b : Bool) → eqb code 2 ≡ c → ◌≡◌ {A = ℕ} (cond (eqb (cond (eqb (cond c (cond b 1 0) 0) 0) code 3) 2) (cond b 1 0) 0) 0
    by true true e = refl
    by true false e = rw e
    by false b e = rw e

-- what is seen at a site lies between bounds on surveyed samples
module _ (mask frame : List ℕ) (j bound : ℕ) where
  pub at_least : (get_or mask j 0 ≡ 0 → bound ≤ get_or frame j 0) → bound * one mask j ≤ seen mask frame j
  unfolding one seen seen_at
  at_least low = by (surveyed (get_or mask j 0)) refl
    where
      by : (b : Bool) → surveyed (get_or mask j 0) ≡ b → bound * cond b 1 0 ≤ cond b (get_or frame j 0) 0
      by true e = omega (arith, low (eqb-true (get_or mask j 0) 0 e))
      by false e = omega arith

  pub at_most : (get_or mask j 0 ≡ 0 → get_or frame j 0 ≤ bound) → seen mask frame j ≤ bound * one mask j
  at_most high = seen_counted mask frame bound j (seen_most mask frame bound j (λ e. high (eqb-true (get_or mask j 0) 0 e)))

-- a filled site has a surveyed neighbour
pub filled_some : (w h : ℕ) (mask : List ℕ) (i : ℕ) → filled_at w h mask i ≡ 1 → 0 < near_sum 1 w h (one mask) i
unfolding filled_at
filled_some w h mask i e = by (eqb (get_or mask i 0) 2) (fillable w h mask i) refl e
  where
    by : (c b : Bool) → fillable w h mask i ≡ b → ◌≡◌ {A = ℕ} (cond c (cond b 1 0) 0) 1 → 0 < near_sum 1 w h (one mask) i
    by true true t q = ltb-true 0 (near_sum 1 w h (one mask) i) t
    by true false t q = absurd (omega arith)
    by false b t q = absurd (omega arith)

-- what a repair decides of a site goes by its code and the codes around it, its new sample by the samples there as well
module _ (w h : ℕ) (m n : List ℕ) (i j : ℕ) (code : get_or m i 0 ≡ get_or n j 0) (ones : near_sum 1 w h (one m) i ≡ near_sum 1 w h (one n) j) where
  pub same-filled : filled_at w h m i ≡ filled_at w h n j
  unfolding filled_at
  same-filled = rw (code, ones)

  pub same_code : code_after w h m i ≡ code_after w h n j
  unfolding code_after
  same_code = rw (code, same-filled)

  pub same_sample : (f g : ℕ → ℕ) (k l : List ℕ) → get_or k i 0 ≡ get_or l j 0 → near_sum 1 w h f i ≡ near_sum 1 w h g j
      → sample_after w h m f k i ≡ sample_after w h n g l j
  unfolding sample_after
  same_sample f g k l sample sums = rw (same-filled, sample, sums, ones)
