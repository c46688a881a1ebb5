-- A window and its transpose: what was asked of one's columns is asked of the other's rows.
use Prim.Native.Nat.{ℕ, zero, suc, ◌+◌, ◌*◌, ◌/◌, ◌%◌, ◌<◌, ◌≤◌}
use mathlib.Core.Bool.{Bool, true, false, not}
use mathlib.Core.List.{List}
use mathlib.Core.Logic.{⊎_elim}
use mathlib.Core.Path.{◌≡◌, sym, ap, ap₂, ◌∙◌}
use native.Mathlib.Nat.{mul_comm, mul-zero, mod-lt, div-add-mod', div-lt_iff_lt-mul}
use native.Mathlib.Omega.{arith}
use lib.Arith.{digits_lt, digits_div, digits_mod}
use lib.Dec.{ltb}
use lib.ListN.{length}
use Rattle.laws.specs.First.{first_to, some_to}
use Rattle.laws.specs.Table.{held, tabulate}
use Rattle.laws.proofs.Cases.{true_or_false, both_ways}
use Rattle.laws.proofs.Firsts.{some_none, nowhere_from}
use Rattle.laws.proofs.Sums.{sum_ext}
use Rattle.laws.proofs.Tables.{length-tabulate, get_d_tabulate}
use Rattle.verdict.specs.Verdict.{Verdict, clear, ◌⨟◌, refuse_if}
use Rattle.verdict.specs.declared.Refusal.TheVariants.{Code}
use Rattle.std.specs.Prelude.{Ok, Err}
use Rattle.window.specs.Shape.{bad_sides, sites_of}
use Rattle.window.specs.View.{bad_code, surveyed, seen_at, seen, above}
use Rattle.window.proofs.Sides.{sides, no_sites, turned_sides, turned_sites}
use Rattle.window.proofs.Views.{seen_is}
use Rattle.refusals.specs.Judge.{shape_by, shape_of, length_of, codes_of, mask_verdict_by, mask_verdict}
use Rattle.pattern.specs.Lines.{columns, rows, line_total}
use Rattle.pattern.specs.Pattern.{unsurveyed, pattern_verdict, pattern_figures}
use Rattle.pattern.proofs.Figuring.{figures_ext}

-- b is the transpose of a, which is h rows of w: column x of a is row x of b
pub record Turned (w h : ℕ) (a b : List ℕ) : Type 0 where
  pub long : length b ≡ length a
  pub sites : (y x : ℕ) → y < h → x < w → held b (x * h + y) ≡ held a (y * w + x)

-- every buffer of a window has one
abbrev pub turn : ℕ → ℕ → List ℕ → List ℕ
turn w h a = tabulate (length a) (λ (k : ℕ). held a (k % h * w + k / h))

pub turns : (w h : ℕ) (a : List ℕ) → length a ≡ h * w → Turned w h a (turn w h a)
turns w h a e = record {
  long = length-tabulate (length a) (λ (k : ℕ). held a (k % h * w + k / h));
  sites = λ y x p q.
      let inside : x * h + y < w * h = digits_lt q p in
      get_d_tabulate (length a) (λ (k : ℕ). held a (k % h * w + k / h)) (x * h + y) (omega (arith, e, mul_comm h w))
      ∙ rw (digits_mod x p, digits_div x p);
}

-- ---- tests of sites
positive : (i h w : ℕ) → i < h * w → 0 < w
positive i h zero l = absurd (omega (arith, mul-zero h))
positive i h (suc w) l = omega arith

carried : (w h : ℕ) (f g : ℕ → Bool) → ((y x : ℕ) → y < h → x < w → f (y * w + x) ≡ g (x * h + y))
    → some_to (w * h) g ≡ false → some_to (h * w) f ≡ false
carried w h f g same =
    nowhere_from (h * w) (w * h) f g (λ (i : ℕ). i % w * h + i / w)
    (λ i l.
    let x : i % w < w = mod-lt i (positive i h w l) in
    let y : i / w < h = (div-lt_iff_lt-mul (positive i h w l)).1 l in
    (digits_lt x y, ap f (sym (div-add-mod' i w)) ∙ same (i / w) (i % w) y x))

-- a test that holds at some site of one window holds at some of the other
some_turned : (w h : ℕ) (f g : ℕ → Bool) → ((y x : ℕ) → y < h → x < w → f (y * w + x) ≡ g (x * h + y))
    → some_to (sites_of w h) g ≡ some_to (sites_of w h) f
some_turned w h f g same =
    ⊎_elim
    (λ b. rw (no_sites w h b, some_none f, some_none g))
    (λ b. rw (sides w h b).sites
    (both_ways (some_to (h * w) g) (some_to (h * w) f)
    (λ e. carried w h f g same (rw (mul_comm h w) at e))
    (λ e. rw (mul_comm h w) (carried h w g f (λ x y p q. sym (same y x q p)) e))))
    (true_or_false (bad_sides w h))

-- ---- verdicts that differ at most in the place of a 5
pub data Twin : Verdict → Verdict → Type 0 where
  alike : (v : Verdict) → Twin v v
  moved : {p q : ℕ} → Twin (Err (Code p)) (Err (Code q))

twin_moved : (p q : ℕ) (applies : Bool) → Twin (refuse_if (Code p) applies) (refuse_if (Code q) applies)
twin_moved p q true = moved
twin_moved p q false = alike clear

-- twins after one verdict, and twins before one, are twins
twin_after : (a : Verdict) {v u : Verdict} → Twin v u → Twin (a ⨟ v) (a ⨟ u)
twin_after (Ok u) t = t
twin_after (Err r) t = alike (Err r)

twin_before : {v u : Verdict} → Twin v u → (b : Verdict) → Twin (v ⨟ b) (u ⨟ b)
twin_before (alike v) b = alike (v ⨟ b)
twin_before moved b = moved

-- 5, and then 1 to 5, of a window and of its transpose
module _ (w h : ℕ) {mask mask' : List ℕ} (m : Turned w h mask mask') where
  codes_turned : Twin (codes_of (sites_of w h) mask) (codes_of (sites_of w h) mask')
  codes_turned =
      rw (some_turned w h (bad_code mask) (bad_code mask') (λ y x p q. ap (ltb 3) (sym (m.sites y x p q))))
      (twin_moved (first_to (sites_of w h) (bad_code mask)) (first_to (sites_of w h) (bad_code mask')) (some_to (sites_of w h) (bad_code mask)))

  mask_turned : (full : ℕ) (parameters lengths : Verdict)
      → Twin (mask_verdict w h full parameters mask lengths) (mask_verdict h w full parameters mask' lengths)
  unfolding mask_verdict_by shape_by
  mask_turned full parameters lengths =
      rw (turned_sides w h, turned_sites w h, m.long)
      (twin_after (shape_of w h full) (twin_after parameters (twin_after (length_of w h (length mask)) (twin_after lengths codes_turned))))

total_turned : (w h : ℕ) (view other : ℕ → ℕ) (i : ℕ) → ((t : ℕ) → t < h → view (t * w + i) ≡ other (i * h + t))
    → line_total (columns w h) view i ≡ line_total (rows h w) other i
unfolding line_total
total_turned w h view other i same = sum_ext h (λ (t : ℕ). view (t * w + i)) (λ (t : ℕ). other (i * h + t)) same

module _ (w h full k : ℕ) {mask mask' sums sums' : List ℕ} (m : Turned w h mask mask') (s : Turned w h sums sums') where
  seen_turned : (y x : ℕ) → y < h → x < w → seen mask sums (y * w + x) ≡ seen mask' sums' (x * h + y)
  seen_turned y x p q =
      seen_is mask sums (y * w + x)
      ∙ ap₂ seen_at (sym (m.sites y x p q)) (sym (s.sites y x p q))
      ∙ sym (seen_is mask' sums' (x * h + y))

  pub verdict_turned : Twin (pattern_verdict columns w h full k mask sums) (pattern_verdict rows h w full k mask' sums')
  unfolding pattern_verdict
  verdict_turned =
      let masked = some_turned w h (unsurveyed mask) (unsurveyed mask') (λ y x p q. ap (λ (c : ℕ). not (surveyed c)) (sym (m.sites y x p q))) in
      let over = some_turned w h (above (k * full) (seen mask sums)) (above (k * full) (seen mask' sums')) (λ y x p q. ap (ltb (k * full)) (seen_turned y x p q)) in
      rw (turned_sites w h, s.long, masked, over) (twin_before (mask_turned w h m full _ _) _)

  pub figures_turned : 12 ≤ w
      → pattern_figures (columns w h) full k (seen mask sums) ≡ pattern_figures (rows h w) full k (seen mask' sums')
  figures_turned low =
      figures_ext w (line_total (columns w h) (seen mask sums)) (line_total (rows h w) (seen mask' sums')) low
      (λ i l. total_turned w h (seen mask sums) (seen mask' sums') i (λ t q. seen_turned t i q l)) (h * k * full)
