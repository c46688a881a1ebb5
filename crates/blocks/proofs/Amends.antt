-- What recoding a site makes of a mask, of what is seen through it, and of a table.
use Prim.Native.Nat.{ℕ, ◌+◌, ◌-◌, ◌*◌, ◌^◌, ◌%◌, ◌≤◌, ◌<◌}
use mathlib.Core.Bool.{Bool, true, false, cond}
use mathlib.Core.List.{List}
use mathlib.Core.Logic.{◌⊎◌, inl, inr, ⊎_elim}
use mathlib.Core.Path.{◌≡◌, refl, sym, ap, ◌∙◌, subst}
use native.Mathlib.Omega.{arith}
use lib.Dec.{eqb}
use lib.ListN.{length}
use borrow.Author.Tests.{eq-eqb, ne_eqb, eqb-true, eqb-false}
use Rattle.laws.specs.Table.{held}
use Rattle.laws.proofs.Cases.{true_or_false, not_both}
use Rattle.laws.proofs.Tables.{length-tabulate, get_d_tabulate, tabulated}
use Rattle.window.specs.View.{surveyed, seen_at}
use Rattle.window.proofs.Sides.{Sides}
use Rattle.window.proofs.Views.{seen_in, seen_out}
use Rattle.blocks.specs.Areas.{entries_of, lies_in}
use Rattle.blocks.specs.Table.{entry_sum, entry_sums}
use Rattle.blocks.specs.Recode.{recoded, amend, amended}
use Rattle.blocks.proofs.Sites.{entry_in, entry_out, entry_fits}

-- ---- one code
-- two codes that are both 0 or neither show alike what is one where they are
pub shown_alike : (old new x y : ℕ) → (old ≡ 0 → new ≡ 0) → (new ≡ 0 → old ≡ 0) → (old ≡ 0 → x ≡ y) → seen_at old x ≡ seen_at new y
shown_alike old new x y to from same =
    ⊎_elim
    (λ t. let o = eqb-true old 0 t in seen_in old x o ∙ same o ∙ sym (seen_in new y (to o)))
    (λ f. let o = eqb-false old 0 f in seen_out old x o ∙ sym (seen_out new y (λ n. o (from n))))
    (true_or_false (surveyed old))

-- ---- one entry
module _ (old new entry : ℕ) where
  -- an entry that lacks the old and has the new is the amended one, where it is below 2^32
  pub amend_is : (after : ℕ) → after + old ≡ entry + new → after < 2 ^ 32 → amend old new entry ≡ after
  unfolding amend
  amend_is after e fits =
      let past : entry + 2 ^ 32 + new - old ≡ after + 2 ^ 32 = omega arith in
      rw past (omega arith)

  pub amend_back : old ≤ 4095 → new ≤ 4095 → entry < 2 ^ 32 → amend new old (amend old new entry) ≡ entry
  unfolding amend
  amend_back o n fits = omega arith

-- nothing for nothing, or the same for the same, is no change
pub amend-same : (old entry : ℕ) → entry < 2 ^ 32 → amend old old entry ≡ entry
amend-same old entry fits = amend_is old old entry entry refl fits

-- what is taken off, and what is put on
pub amend_off : (old entry : ℕ) → amend old 0 entry ≡ (entry + 2 ^ 32 - old) % 2 ^ 32
unfolding amend
amend_off old entry = omega arith

pub amend_on : (new entry : ℕ) → amend 0 new entry ≡ (entry + new) % 2 ^ 32
unfolding amend
amend_on new entry = omega arith

-- ---- all entries of a table
-- entries below 2^32, as those of a u32 buffer always are
abbrev pub Words : List ℕ → Type 0
Words entries = (e : ℕ) → e < length entries → held entries e < 2 ^ 32

module _ (w h site old new : ℕ) (entries : List ℕ) where
  pub amended-long : length (amended w h site old new entries) ≡ length entries
  unfolding amended
  amended-long = length-tabulate (length entries) _

  module _ (e : ℕ) (below : e < length entries) where
    pub amended_at_lem : held (amended w h site old new entries) e ≡ cond (lies_in w h site e) (amend old new (held entries e)) (held entries e)
    unfolding amended
    amended_at_lem = get_d_tabulate (length entries) _ e below

    pub amended_in : lies_in w h site e ≡ true → held (amended w h site old new entries) e ≡ amend old new (held entries e)
    amended_in t = amended_at_lem ∙ rw t

    pub amended_out : lies_in w h site e ≡ false → held (amended w h site old new entries) e ≡ held entries e
    amended_out t = amended_at_lem ∙ rw t

  -- a table that is so entry by entry is the amended one
  pub amended_is : (after : List ℕ) → length after ≡ length entries
      → ((e : ℕ) → e < length entries → lies_in w h site e ≡ true → amend old new (held entries e) ≡ held after e)
      → ((e : ℕ) → e < length entries → lies_in w h site e ≡ false → held entries e ≡ held after e)
      → amended w h site old new entries ≡ after
  unfolding amended
  amended_is after long inside outside =
      sym (tabulated (length entries) _ after long (λ e below. by (lies_in w h site e) (inside e below) (outside e below)))
    where
      by : {x y z : ℕ} (b : Bool) → (b ≡ true → x ≡ z) → (b ≡ false → y ≡ z) → z ≡ cond b x y
      by true p q = sym (p refl)
      by false p q = sym (q refl)

-- nothing changes where no area has the site, or what was seen there is seen again
pub amended_nowhere : (w h site old new : ℕ) (entries : List ℕ) → ((e : ℕ) → lies_in w h site e ≡ false) → amended w h site old new entries ≡ entries
amended_nowhere w h site old new entries out =
    amended_is w h site old new entries entries refl (λ e below t. absurd (not_both t (out e))) (λ e below f. refl)

pub amended-same : (w h site old : ℕ) (entries : List ℕ) → Words entries → amended w h site old old entries ≡ entries
amended-same w h site old entries fits =
    amended_is w h site old old entries entries refl (λ e below t. amend-same old (held entries e) (fits e below)) (λ e below f. refl)

-- there and back
pub amended_back : (w h site old new : ℕ) (entries : List ℕ) → old ≤ 4095 → new ≤ 4095 → Words entries
    → amended w h site new old (amended w h site old new entries) ≡ entries
amended_back w h site old new entries o n fits =
    let long = amended-long w h site old new entries in
    amended_is w h site new old (amended w h site old new entries) entries (sym long)
    (λ e below t. let l : e < length entries = omega (arith, long) in
    rw (amended_in w h site old new entries e l t) (amend_back old new (held entries e) o n (fits e l)))
    (λ e below t. amended_out w h site old new entries e (omega (arith, long)) t)

-- the table of one view, amended at the only site at which another differs, is the table of the other
pub amended-sums : (w h site : ℕ) → Sides w h → site < h * w → (f g : ℕ → ℕ) → ((i : ℕ) → i < h * w → (i ≡ site → ⊥) → f i ≡ g i)
    → ((e : ℕ) → entry_sum w h g e < 2 ^ 32)
    → amended w h site (f site) (g site) (entry_sums w h f) ≡ entry_sums w h g
amended-sums w h site legal inside f g same fits =
    let long = length-tabulate (entries_of w h) (entry_sum w h f) in
    let before : (e : ℕ) → e < entries_of w h → held (entry_sums w h f) e ≡ entry_sum w h f e = get_d_tabulate (entries_of w h) (entry_sum w h f) in
    let after : (e : ℕ) → e < entries_of w h → held (entry_sums w h g) e ≡ entry_sum w h g e = get_d_tabulate (entries_of w h) (entry_sum w h g) in
    amended_is w h site (f site) (g site) (entry_sums w h f) (entry_sums w h g) (length-tabulate (entries_of w h) (entry_sum w h g) ∙ sym long)
    (λ e below t. let l : e < entries_of w h = omega (arith, long) in
    rw (before e l, after e l) (amend_is (f site) (g site) (entry_sum w h f e) (entry_sum w h g e) (entry_in w h site legal inside f g same e t) (fits e)))
    (λ e below t. let l : e < entries_of w h = omega (arith, long) in
    rw (before e l, after e l) (sym (entry_out w h site legal inside f g same e l t)))

-- ---- the mask
module _ (site code : ℕ) (mask : List ℕ) where
  -- one code: the mask keeps its length, has the code at the site, and every other code as it was
  pub recoded-long : length (recoded site code mask) ≡ length mask
  unfolding recoded
  recoded-long = length-tabulate (length mask) _

  pub recoded_here : site < length mask → held (recoded site code mask) site ≡ code
  unfolding recoded
  recoded_here inside = get_d_tabulate (length mask) _ site inside ∙ rw (eq-eqb site site refl)

  pub recoded_else : (i : ℕ) → i < length mask → (i ≡ site → ⊥) → held (recoded site code mask) i ≡ held mask i
  unfolding recoded
  recoded_else i inside other = get_d_tabulate (length mask) _ i inside ∙ rw (ne_eqb i site other)

  -- what holds at each site of its old code, and at the site of the new one, holds of all codes afterwards
  pub recoded-all : (P : ℕ → ℕ → Type 0) → P site code → ((i : ℕ) → i < length mask → P i (held mask i))
      → (i : ℕ) → i < length mask → P i (held (recoded site code mask) i)
  recoded-all P there all i inside =
      ⊎_elim
      (λ t. let e = eqb-true i site t in rw e (subst (P site) (sym (recoded_here (rw e at inside))) there))
      (λ f. subst (P i) (sym (recoded_else i inside (eqb-false i site f))) (all i inside))
      (true_or_false (eqb i site))

  -- there and back
  pub recoded_back : site < length mask → recoded site (held mask site) (recoded site code mask) ≡ mask
  unfolding recoded
  recoded_back inside =
      sym (tabulated (length (recoded site code mask)) _ mask (sym recoded-long) (λ i below. by i below (true_or_false (eqb i site))))
    where
      by : (i : ℕ) → i < length (recoded site code mask) → (eqb i site ≡ true) ⊎ (eqb i site ≡ false)
          → held mask i ≡ cond (eqb i site) (held mask site) (held (recoded site code mask) i)
      by i below (inl t) = rw (t, eqb-true i site t)
      by i below (inr f) = rw f (sym (recoded_else i (omega (arith, recoded-long)) (eqb-false i site f)))

-- of what is seen through a mask, samples or ones, the table under the new mask is the amended one
module _ (w h site code : ℕ) (mask : List ℕ) (value : ℕ → ℕ) where
  pub amended_afresh : Sides w h → length mask ≡ h * w → site < h * w
      → ((i : ℕ) → i < h * w → seen_at (held (recoded site code mask) i) (value i) ≤ 4095)
      → amended w h site (seen_at (held mask site) (value site)) (seen_at code (value site)) (entry_sums w h (λ (i : ℕ). seen_at (held mask i) (value i)))
      ≡ entry_sums w h (λ (i : ℕ). seen_at (held (recoded site code mask) i) (value i))
  amended_afresh legal long inside low =
      ap (λ (c : ℕ). amended w h site (seen_at (held mask site) (value site)) (seen_at c (value site)) (entry_sums w h (λ (i : ℕ). seen_at (held mask i) (value i))))
      (sym (recoded_here site code mask (omega arith)))
      ∙ amended-sums w h site legal inside (λ (i : ℕ). seen_at (held mask i) (value i)) (λ (i : ℕ). seen_at (held (recoded site code mask) i) (value i))
      (λ i l other. ap (λ (c : ℕ). seen_at c (value i)) (sym (recoded_else site code mask i (omega arith) other)))
      (λ e. entry_fits w h e (λ (i : ℕ). seen_at (held (recoded site code mask) i) (value i)) low)
