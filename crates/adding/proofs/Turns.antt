-- What one turn of each loop does, and what a buffer is that was made anew, over plain values.
use Prim.Native.Nat.{ℕ, zero, suc, ◌+◌, ◌^◌, ◌≤◌, ◌<◌}
use mathlib.Core.Bool.{Bool, true, false, cond}
use mathlib.Core.List.{List}
use mathlib.Core.Logic.{⊎_elim}
use mathlib.Core.Path.{◌≡◌, refl, sym, ap, ◌∙◌}
use native.Mathlib.Nat.{le_refl}
use native.Mathlib.Omega.{arith}
use lib.ListN.{length, get_or, set, get_or-eq_default}
use borrow.Author.Tests.{eqb-true, eqb-false, eq-eqb, ne_eqb}
use Rattle.laws.specs.Table.{tabulate}
use Rattle.laws.proofs.Cases.{lt_or_ge, true_or_false}
use Rattle.laws.proofs.Tables.{Filling, filling_rest, filling_more, length-tabulate, get_d_tabulate, tabulate_ext}
use Rattle.window.specs.View.{surveyed, seen_at, seen}
use Rattle.window.proofs.Views.{seen_in}
use Rattle.adding.specs.After.{renewed, extreme, extreme_at}

-- a turn: what stands at the site still is what stood there, so what is stored is what is defined
module _ (f : ℕ → ℕ → ℕ) {d l : List ℕ} {i v : ℕ} (so_far : Filling (λ (k : ℕ). f k (get_or d k 0)) d l i) (made : v ≡ f i (get_or l i 0)) where
  made_is : v ≡ f i (get_or d i 0)
  made_is = made ∙ ap (f i) (filling_rest so_far i (le_refl i))

  one_renewed : i < length l → Filling (λ (k : ℕ). f k (get_or d k 0)) d (set l i v) (i + 1)
  one_renewed h = filling_more v so_far h made_is

-- a turn of either sum
module _ (view : ℕ → ℕ) {d l : List ℕ} {i v : ℕ} (so_far : Filling (λ (k : ℕ). get_or d k 0 + view k) d l i) (here : v ≡ view i) where
  sum_made : get_or l i 0 + v ≡ get_or l i 0 + view i
  sum_made = ap (λ (x : ℕ). get_or l i 0 + x) here

  pub has_room : get_or d i 0 + view i < 2 ^ 32 → get_or l i 0 + v < 2 ^ 32
  has_room h = omega (arith, made_is (λ (k sum : ℕ). sum + view k) so_far sum_made)

  pub one_added : i < length l → Filling (λ (k : ℕ). get_or d k 0 + view k) d (set l i (get_or l i 0 + v)) (i + 1)
  one_added h = one_renewed (λ (k sum : ℕ). sum + view k) so_far sum_made h

-- what an extreme becomes with no frames in, and with some
module _ (choose : ℕ → ℕ → ℕ) (k before sample : ℕ) where
  pub extreme_none_in : k ≡ 0 → extreme choose k before sample ≡ sample
  unfolding extreme
  extreme_none_in none = rw none

  pub extreme_some_in : (k ≡ 0 → ⊥) → extreme choose k before sample ≡ choose before sample
  unfolding extreme
  extreme_some_in some = by k some
    where
      by : (m : ℕ) → (m ≡ 0 → ⊥) → extreme choose m before sample ≡ choose before sample
      by zero none = absurd (none refl)
      by (suc m) none = refl

-- what a site's extreme becomes
module _ (choose : ℕ → ℕ → ℕ) (k code before sample : ℕ) where
  pub extreme_out : (code ≡ 0 → ⊥) → extreme_at choose k code before sample ≡ before
  unfolding extreme_at
  extreme_out out = rw (ne_eqb code 0 out)

  pub extreme_in_lem : code ≡ 0 → extreme_at choose k code before sample ≡ extreme choose k before sample
  unfolding extreme_at
  extreme_in_lem inside = rw (eq-eqb code 0 inside)

  -- by what is chosen of the two that are there
  pub extreme_chosen : {chosen : ℕ} → chosen ≡ choose before sample → extreme_at (λ (x y : ℕ). chosen) k code before sample ≡ extreme_at choose k code before sample
  unfolding extreme_at extreme
  extreme_chosen {chosen} e = ap (λ (x : ℕ). cond (surveyed code) x before) (by k)
    where
      by : (m : ℕ) → extreme (λ (x y : ℕ). chosen) m before sample ≡ extreme choose m before sample
      by zero = refl
      by (suc m) = e

  -- by the sample as it is seen
  pub extreme_seen : extreme_at choose k code before sample ≡ extreme_at choose k code before (seen_at code sample)
  unfolding extreme_at seen_at
  extreme_seen = by (surveyed code)
    where
      by : (b : Bool) → cond b (extreme choose k before sample) before ≡ cond b (extreme choose k before (cond b sample 0)) before
      by true = refl
      by false = refl

-- a turn of either extreme
module _ (choose : ℕ → ℕ → ℕ) (k : ℕ) (mask frame : List ℕ) {d l : List ℕ} {i v : ℕ} where
  pub one_widened : Filling (λ (j : ℕ). extreme_at choose k (get_or mask j 0) (get_or d j 0) (seen mask frame j)) d l i
      → v ≡ extreme_at choose k (get_or mask i 0) (get_or l i 0) (get_or frame i 0) → i < length l
      → Filling (λ (j : ℕ). extreme_at choose k (get_or mask j 0) (get_or d j 0) (seen mask frame j)) d (set l i v) (i + 1)
  unfolding seen
  one_widened so_far here h =
      one_renewed (λ (j before : ℕ). extreme_at choose k (get_or mask j 0) before (seen mask frame j)) so_far (here ∙ extreme_seen choose k (get_or mask i 0) (get_or l i 0) (get_or frame i 0)) h

-- a sum has room for what is seen, where as much as is seen of it does: where it is not surveyed, nothing is added
pub leaves_room : (code s v b : ℕ) → s < 2 ^ 32 → seen_at code s + v ≤ b → ((code ≡ 0 → ⊥) → v ≡ 0) → b < 2 ^ 32 → s + v < 2 ^ 32
leaves_room code s v b fits sum none small =
    ⊎_elim
    (λ t. omega (arith, seen_in code s (eqb-true code 0 t)))
    (λ t. omega (arith, none (eqb-false code 0 t)))
    (true_or_false (surveyed code))

-- ---- a buffer made anew
module _ (f : ℕ → ℕ → ℕ) where
  renewed_at : (d : List ℕ) (i : ℕ) → i < length d → get_or (renewed f d) i 0 ≡ f i (get_or d i 0)
  unfolding renewed
  renewed_at d i l = get_d_tabulate (length d) (λ (k : ℕ). f k (get_or d k 0)) i l

  renewed-past : (d : List ℕ) (i : ℕ) → length d ≤ i → get_or (renewed f d) i 0 ≡ 0
  unfolding renewed
  renewed-past d i g =
      get_or-eq_default (tabulate (length d) (λ (k : ℕ). f k (get_or d k 0))) 0 {n = i} (omega (arith, length-tabulate (length d) (λ (k : ℕ). f k (get_or d k 0))))

  -- it depends, at each site, on what stood there
  pub renewed-same : (a b : List ℕ) (i : ℕ) → length a ≡ length b → get_or a i 0 ≡ get_or b i 0 → get_or (renewed f a) i 0 ≡ get_or (renewed f b) i 0
  renewed-same a b i long same =
      ⊎_elim
      (λ (l : i < length a). renewed_at a i l ∙ ap (f i) same ∙ sym (renewed_at b i (omega arith)))
      (λ (g : length a ≤ i). renewed-past a i g ∙ sym (renewed-past b i (omega arith)))
      (lt_or_ge i (length a))

  -- what stays at a site
  pub renewed_keeps : (d : List ℕ) (i : ℕ) → f i (get_or d i 0) ≡ get_or d i 0 → get_or (renewed f d) i 0 ≡ get_or d i 0
  renewed_keeps d i stays =
      ⊎_elim
      (λ (l : i < length d). renewed_at d i l ∙ stays)
      (λ (g : length d ≤ i). renewed-past d i g ∙ sym (get_or-eq_default d 0 {n = i} g))
      (lt_or_ge i (length d))

  -- of a table
  pub renewed_table : (n : ℕ) (g : ℕ → ℕ) → renewed f (tabulate n g) ≡ tabulate n (λ (i : ℕ). f i (g i))
  unfolding renewed
  renewed_table n g =
      ap (λ (m : ℕ). tabulate m (λ (i : ℕ). f i (get_or (tabulate n g) i 0))) (length-tabulate n g)
      ∙ tabulate_ext n (λ (i : ℕ). f i (get_or (tabulate n g) i 0)) (λ (i : ℕ). f i (g i)) (λ i l. ap (f i) (get_d_tabulate n g i l))
