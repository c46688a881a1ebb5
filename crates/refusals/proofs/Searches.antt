-- A search over the sites of a window, h rows of w, in row order, by nested loops that are left at the first hit: `at` counts the sites passed.
use Prim.Native.Nat.{ℕ, ◌+◌, ◌*◌, ◌<◌, ◌≤◌}
use mathlib.Core.Bool.{Bool, true, false}
use mathlib.Core.Path.{◌≡◌, sym, ap, ◌∙◌}
use native.Mathlib.Nat.{add-mul, one-mul, zero-mul, le_antisymm}
use native.Mathlib.Omega.{arith}
use lib.Arith.{digits_lt}
use lib.Dec.{ltb}
use Rattle.laws.specs.First.{first_to, some_to}
use Rattle.verdict.specs.Verdict.{clear, refuse_if, refuse_first}
use Rattle.verdict.specs.declared.Refusal.{Refusal}
use Rattle.laws.proofs.Firsts.{first_none, first_past, first_here}

-- row y begins, and nothing was found before it
pub record AtRow (test : ℕ → Bool) (w h y at : ℕ) : Type 0 where
  pub low : y ≤ h
  pub passed : at ≡ y * w
  pub none : first_to at test ≡ at

-- the x-th site of row y, and nothing was found before it
pub record AtSite (test : ℕ → Bool) (w y x at : ℕ) : Type 0 where
  pub low : x ≤ w
  pub passed : at ≡ y * w + x
  pub none : first_to at test ≡ at

pub search_begins : (test : ℕ → Bool) (w h : ℕ) → AtRow test w h 0 0
search_begins test w h = record { low = omega arith; passed = sym (zero-mul w); none = first_none test }

module _ {test : ℕ → Bool} {w h y at : ℕ} where
  pub row_begins : AtRow test w h y at → AtSite test w y 0 at
  row_begins r = record { low = omega arith; passed = omega arith; none = r.none }

  pub search_ends : AtRow test w h y at → h ≤ y → at ≡ first_to (h * w) test
  search_ends r l =
      let e : at ≡ h * w = r.passed ∙ ap (λ (k : ℕ). k * w) (le_antisymm r.low l) in
      rw (← e) (sym r.none)

module _ {test : ℕ → Bool} {w y x at : ℕ} (s : AtSite test w y x at) where
  pub site_in : {h : ℕ} → y < h → x < w → at < h * w
  site_in hy hx = rw s.passed (digits_lt hy hx)

  pub site_passed : x < w → test at ≡ false → AtSite test w y (x + 1) (at + 1)
  site_passed hx t = record { low = omega arith; passed = omega arith; none = first_past test at s.none t }

  pub row_passed : {h : ℕ} → y < h → w ≤ x → AtRow test w h (y + 1) at
  row_passed hy hx = record { low = omega arith; passed = omega (arith, add-mul y 1 w, one-mul w); none = s.none }

  pub search_stops : {h : ℕ} → y < h → x < w → test at ≡ true → at ≡ first_to (h * w) test
  search_stops {h} hy hx t = sym (first_here test (h * w) at (site_in hy hx) s.none t)

module _ (refusal : ℕ → Refusal) (test : ℕ → Bool) where
  -- nothing is refused where the test holds at no site
  pub none_found : (n : ℕ) → some_to n test ≡ false → clear ≡ refuse_first refusal n test
  none_found n e = rw e

  -- what a search over the n sites found is given, however n was come by
  pub found : (n i at : ℕ) → i ≡ n → at ≡ first_to n test → refuse_if (refusal at) (ltb at i) ≡ refuse_first refusal n test
  found n i at p f = rw (f, p)
