-- What the tests that calls share tell where they do not apply, and why a later test may be asked of whole buffers alone.
use Prim.Native.Nat.{ℕ, ◌<◌, ◌≤◌}
use mathlib.Core.Bool.{false, not}
use mathlib.Core.List.{List, [], ◌∷◌}
use mathlib.Core.Path.{◌≡◌, ap}
use lib.Dec.{eqb}
use lib.ListN.{length, get_or}
use borrow.Author.Tests.{eq-eqb, eqb-true, le-ltb, ltb-false, not-false}
use Rattle.laws.specs.First.{some_to}
use Rattle.laws.proofs.Firsts.{first_nowhere, nowhere_first}
use Rattle.verdict.specs.Verdict.{clear, ◌⨟◌, refuse_if}
use Rattle.verdict.proofs.Verdicts.{Tabled, test, tabled, then_same, then_clear, clear_then, unless, clear_unless}
use Rattle.std.specs.Prelude.{Result}
use Rattle.verdict.specs.declared.Refusal.{Refusal}
use Rattle.verdict.specs.declared.Refusal.TheVariants.{Sides, FullScale, Length}
use Rattle.window.specs.Shape.{bad_sides, bad_scale, sites_of}
use Rattle.window.specs.Walk.{walked}
use Rattle.window.proofs.Walks.{walked_whole}
use Rattle.window.specs.View.{bad_code}
use Rattle.refusals.specs.Judge.{shape_by, shape_of, other_than, codes_by, codes_of}

-- 1 and 2
module _ (w h full : ℕ) where
  pub shape_clear : shape_of w h full ≡ clear → (bad_sides w h ≡ false) × (bad_scale full ≡ false)
  unfolding shape_by
  shape_clear e =
      let both = then_clear (refuse_if Sides (bad_sides w h)) (refuse_if FullScale (bad_scale full)) e in
      (unless _ (bad_sides w h) both.0, unless _ (bad_scale full) both.1)

  pub clear_shape : bad_sides w h ≡ false → bad_scale full ≡ false → shape_of w h full ≡ clear
  unfolding shape_by
  clear_shape legal scaled = clear_then (clear_unless _ legal) (clear_unless _ scaled)

  pub shape_tabled : Tabled (shape_of w h full) (test Sides (bad_sides w h) ∷ test FullScale (bad_scale full) ∷ [])
  unfolding shape_by
  shape_tabled = tabled _ _

-- 4 does not apply: the length is the one needed
pub same_length : (needed long : ℕ) → other_than needed long ≡ false → long ≡ needed
same_length needed long e = eqb-true long needed (not-false (eqb long needed) e)

pub right-length : (needed long : ℕ) → long ≡ needed → other_than needed long ≡ false
right-length needed long e = ap not (eq-eqb long needed e)

pub length_clear : (needed long : ℕ) → refuse_if Length (other_than needed long) ≡ clear → long ≡ needed
length_clear needed long e = same_length needed long (unless _ (other_than needed long) e)

pub clear_length : (needed long : ℕ) → long ≡ needed → refuse_if Length (other_than needed long) ≡ clear
clear_length needed long e = clear_unless _ (right-length needed long e)

-- 5 does not apply: every code is at most 3
pub codes_clear : (n : ℕ) (mask : List ℕ) → codes_of n mask ≡ clear → (i : ℕ) → i < n → get_or mask i 0 ≤ 3
codes_clear n mask e i l =
    ltb-false 3 (get_or mask i 0) (first_nowhere (bad_code mask) n (unless _ (some_to n (bad_code mask)) e) i l)

pub clear_codes : (n : ℕ) (mask : List ℕ) → ((i : ℕ) → i < n → get_or mask i 0 ≤ 3) → codes_of n mask ≡ clear
clear_codes n mask low = clear_unless _ (nowhere_first (bad_code mask) n (λ i l. le-ltb 3 (get_or mask i 0) (low i l)))

-- what follows 4 is judged only of a buffer of the length needed
pub measured : {R : Type 0} (r : R) (needed long : ℕ) {b d : Result (Unit {0}) R} → (long ≡ needed → b ≡ d)
    → refuse_if r (other_than needed long) ⨟ b ≡ refuse_if r (other_than needed long) ⨟ d
measured r needed long f = then_same (refuse_if r (other_than needed long)) (λ e. f (same_length needed long (unless r (other_than needed long) e)))

-- so 5 of what a buffer of that length lets be walked is of the whole window
pub codes_whole : {R : Type 0} (told : Refusal → R) (w h : ℕ) (mask : List ℕ) → length mask ≡ sites_of w h
    → codes_by told (walked w h (length mask)) mask ≡ codes_by told (sites_of w h) mask
codes_whole told w h mask e = rw (walked_whole w h (length mask) e)
