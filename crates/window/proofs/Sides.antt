-- What legal sides, a legal full scale and a legal count of frames are, and how many sites the sides make.
use Prim.Native.Nat.{ℕ, ◌*◌, ◌%◌, ◌≤◌, ◌<◌}
use mathlib.Core.Bool.{Bool, true, false, not, ◌||◌}
use mathlib.Core.Logic.{⊎_elim}
use mathlib.Core.Path.{◌≡◌, refl}
use native.Mathlib.Nat.{mul_comm, mul-le-mul}
use native.Mathlib.Omega.{arith}
use lib.Dec.{eqb, ltb}
use borrow.Author.Tests.{ltb-false, eqb-true, not-false}
use Rattle.laws.proofs.Cases.{neither, Within, within_is, is_within, true_or_false}
use Rattle.window.specs.Shape.{bad_side, bad_sides, bad_scale, sites_of, bad_count}

pub record Side (n : ℕ) : Type 0 where
  pub even : n % 2 ≡ 0
  pub low : 2 ≤ n
  pub high : n ≤ 128

pub side : (n : ℕ) → bad_side n ≡ false → Side n
unfolding bad_side
side n e =
    let odd = neither (not (eqb (n % 2) 0)) (ltb n 2 || ltb 128 n) e in
    let out = neither (ltb n 2) (ltb 128 n) odd.1 in
    record {
      even = eqb-true (n % 2) 0 (not-false (eqb (n % 2) 0) odd.0);
      low = ltb-false n 2 out.0;
      high = ltb-false 128 n out.1;
    }

pub record Sides (w h : ℕ) : Type 0 where
  pub wide : Side w
  pub high : Side h
  pub sites : sites_of w h ≡ h * w
  pub few : h * w ≤ 16384

pub sides : (w h : ℕ) → bad_sides w h ≡ false → Sides w h
unfolding bad_sides sites_of
sides w h e =
    let both = neither (bad_side w) (bad_side h) e in
    let wide = side w both.0 in
    let high = side h both.1 in
    record { wide = wide; high = high; sites = rw e; few = mul-le-mul high.high wide.high }

-- sides that no window has make no site
pub no_sites : (w h : ℕ) → bad_sides w h ≡ true → sites_of w h ≡ 0
unfolding sites_of
no_sites w h e = rw e

-- so sides that make one are legal
pub some_sites : (w h : ℕ) → 0 < sites_of w h → Sides w h
some_sites w h l =
    ⊎_elim (λ e. absurd (omega (arith, no_sites w h e))) (λ e. sides w h e) (true_or_false (bad_sides w h))

pub sites-few : (w h : ℕ) → sites_of w h ≤ 16384
sites-few w h =
    ⊎_elim
    (λ e. omega (arith, no_sites w h e))
    (λ e. let s = sides w h e in omega (arith, s.sites))
    (true_or_false (bad_sides w h))

-- a window that is turned has as many sites, and is refused alike
pub turned_sides : (w h : ℕ) → bad_sides h w ≡ bad_sides w h
unfolding bad_sides
turned_sides w h = by (bad_side h) (bad_side w)
  where
    by : (a b : Bool) → (a || b) ≡ (b || a)
    by true true = refl
    by true false = refl
    by false true = refl
    by false false = refl

pub turned_sites : (w h : ℕ) → sites_of h w ≡ sites_of w h
unfolding sites_of
turned_sites w h = rw (turned_sides w h, mul_comm w h)

abbrev pub Count : ℕ → Type 0
Count k = Within 100 k

pub frame_count : (k : ℕ) → bad_count k ≡ false → Count k
unfolding bad_count
frame_count k e = within_is 100 k e

pub is_count : (k : ℕ) → Count k → bad_count k ≡ false
unfolding bad_count
is_count k c = is_within 100 k c

abbrev pub Scale : ℕ → Type 0
Scale full = Within 4095 full

pub scale : (full : ℕ) → bad_scale full ≡ false → Scale full
unfolding bad_scale
scale full e = within_is 4095 full e
