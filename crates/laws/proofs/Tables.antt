-- The laws of `tabulate`, and the invariants of loops that write a buffer, from its start and from some place on.
use Prim.Native.Nat.{ℕ, zero, suc, ◌+◌, ◌-◌, ◌<◌, ◌≤◌, suc-le-suc, zero-le}
use mathlib.Core.Bool.{cond}
use mathlib.Core.List.{List, [], ◌∷◌, ◌++◌, append-nil}
use mathlib.Core.Logic.{◌⊎◌, ⊎_elim}
use mathlib.Core.Path.{◌≡◌, refl, sym, ap, ◌∙◌, subst}
use native.Mathlib.Nat.{not-suc-le-zero, le_of_suc-le-suc, zero-lt-suc, lt_irrefl, eq-or-lt_of_le}
use native.Mathlib.Numerals.{add-one}
use native.Mathlib.Omega.{arith}
use lib.Dec.{eqb}
use lib.ListN.{length, set, drop, get_or, drop_of_length-le, length-set, get_or-append}
use lib.Seq.{get_or-append-add, get_or-drop, get_or-set_same, get_or-set_other}
use borrow.Author.Tests.{eqb-true, eqb-false}
use Rattle.laws.specs.Table.{tabulate}
use Rattle.laws.proofs.Cases.{true_or_false}

pub length-tabulate : (n : ℕ) (f : ℕ → ℕ) → length (tabulate n f) ≡ n
unfolding tabulate
length-tabulate zero f = refl
length-tabulate (suc n) f = ap suc (length-tabulate n (λ (k : ℕ). f (suc k)))

pub get_d_tabulate : (n : ℕ) (f : ℕ → ℕ) (i : ℕ) → i < n → get_or (tabulate n f) i 0 ≡ f i
unfolding tabulate
get_d_tabulate zero f i h = absurd (not-suc-le-zero h)
get_d_tabulate (suc n) f zero h = refl
get_d_tabulate (suc n) f (suc i) h = get_d_tabulate n (λ (k : ℕ). f (suc k)) i (le_of_suc-le-suc h)

-- two tables of functions that agree below n are one
pub tabulate_ext : (n : ℕ) (f g : ℕ → ℕ) → ((k : ℕ) → k < n → f k ≡ g k) → tabulate n f ≡ tabulate n g
unfolding tabulate
tabulate_ext zero f g h = refl
tabulate_ext (suc n) f g h =
    rw (h zero (zero-lt-suc n), tabulate_ext n (λ (k : ℕ). f (suc k)) (λ (k : ℕ). g (suc k)) (λ k l. h (suc k) (suc-le-suc l)))

-- a list is the table of its own elements
pub tabulate-get_or : (l : List ℕ) → tabulate (length l) (λ (i : ℕ). get_or l i 0) ≡ l
unfolding tabulate
tabulate-get_or [] = refl
tabulate-get_or (x ∷ l) = ap (λ (t : List ℕ). x ∷ t) (tabulate-get_or l)

-- a list is a table where it has the table's length and elements
pub tabulated : (n : ℕ) (f : ℕ → ℕ) (l : List ℕ) → length l ≡ n → ((k : ℕ) → k < n → get_or l k 0 ≡ f k) → l ≡ tabulate n f
tabulated n f l e h =
    sym (tabulate-get_or l)
    ∙ ap (λ (m : ℕ). tabulate m (λ (i : ℕ). get_or l i 0)) e
    ∙ tabulate_ext n (λ (i : ℕ). get_or l i 0) f h

-- A buffer that was d and is l now, in a loop that stores f 0, f 1, .. from its start: the next to be stored is f i.
pub record Filling (f : ℕ → ℕ) (d l : List ℕ) (i : ℕ) : Type 0 where
  pub within : i ≤ length d
  pub long : length l ≡ length d
  pub written : l ≡ tabulate i f ++ drop i d

stored : (i : ℕ) (f : ℕ → ℕ) (d : List ℕ) → i < length d
    → set (tabulate i f ++ drop i d) i (f i) ≡ tabulate (suc i) f ++ drop (suc i) d
unfolding tabulate
stored i f [] l = absurd (not-suc-le-zero l)
stored zero f (x ∷ d) l = refl
stored (suc i) f (x ∷ d) l = ap (λ (t : List ℕ). f zero ∷ t) (stored i (λ (k : ℕ). f (suc k)) d (le_of_suc-le-suc l))

-- where the loop begins
pub filling_none : (f : ℕ → ℕ) (d : List ℕ) → Filling f d d 0
unfolding tabulate
filling_none f d = record { within = zero-le; long = refl; written = refl }

pub filling_as : {f : ℕ → ℕ} {d l : List ℕ} {i : ℕ} (j : ℕ) → i ≡ j → Filling f d l i → Filling f d l j
filling_as {f} {d} {l} j e r = subst (λ (k : ℕ). Filling f d l k) e r

module _ {f : ℕ → ℕ} {d l : List ℕ} {i : ℕ} where
  -- a turn of it
  pub filling_more : (v : ℕ) → Filling f d l i → i < length l → v ≡ f i → Filling f d (set l i v) (i + 1)
  filling_more v r h e =
      let h' : i < length d = omega (arith, r.long) in
      record {
        within = omega arith;
        long = length-set l i v ∙ r.long;
        written = rw (add-one i, r.written, e) (stored i f d h');
      }

  -- its end
  pub filling_done : (n : ℕ) → Filling f d l i → length l ≤ i → length d ≡ n → l ≡ tabulate n f
  filling_done n r h e =
      let m : i ≡ n = omega (arith, r.long, r.within) in
      let past : length d ≤ i = omega (arith, r.long) in
      r.written
      ∙ ap (λ (t : List ℕ). tabulate i f ++ t) (drop_of_length-le d past)
      ∙ append-nil (tabulate i f)
      ∙ ap (λ (k : ℕ). tabulate k f) m

  -- what is written can be read
  pub filling_read : Filling f d l i → (j : ℕ) → j < i → get_or l j 0 ≡ f j
  filling_read r j h =
      let e : j < length (tabulate i f) = omega (arith, length-tabulate i f) in
      ap (λ (t : List ℕ). get_or t j 0) r.written
      ∙ get_or-append (tabulate i f) (drop i d) 0 j e
      ∙ get_d_tabulate i f j h

  -- what is not yet written is as it was
  pub filling_rest : Filling f d l i → (j : ℕ) → i ≤ j → get_or l j 0 ≡ get_or d j 0
  filling_rest r j h =
      let e : i + (j - i) ≡ j = omega arith in
      let at : (xs : List ℕ) → get_or xs j 0 ≡ get_or xs (i + (j - i)) 0 = λ xs. rw e in
      ap (λ (t : List ℕ). get_or t j 0) r.written
      ∙ at (tabulate i f ++ drop i d)
      ∙ ap (λ (k : ℕ). get_or (tabulate i f ++ drop i d) (k + (j - i)) 0) (sym (length-tabulate i f))
      ∙ get_or-append-add (tabulate i f) (drop i d) (j - i) 0
      ∙ get_or-drop i d (j - i) 0
      ∙ sym (at d)

-- A buffer that was d and is l now, in a loop that stores f 0, f 1, .. from `at` on: the next to be stored is f i.
pub record Storing (f : ℕ → ℕ) (d l : List ℕ) (at i : ℕ) : Type 0 where
  pub long : length l ≡ length d
  pub before : (j : ℕ) → j < at → get_or l j 0 ≡ get_or d j 0
  pub stored : (j : ℕ) → j < i → get_or l (at + j) 0 ≡ f j

pub storing_none : (f : ℕ → ℕ) (d : List ℕ) (at : ℕ) → Storing f d d at 0
storing_none f d at = record { long = refl; before = λ j _. refl; stored = λ j l. absurd (not-suc-le-zero l) }

pub storing_more : {f : ℕ → ℕ} {d l : List ℕ} {at i : ℕ} (v : ℕ) → Storing f d l at i → at + i < length l → v ≡ f i
    → Storing f d (set l (at + i) v) at (i + 1)
storing_more {f} {d} {l} {at} {i} v r h e =
    record {
      long = length-set l (at + i) v ∙ r.long;
      before = λ j b. get_or-set_other l (at + i) j v 0 (λ q. lt_irrefl j (omega arith)) ∙ r.before j b;
      stored = λ j b. ⊎_elim
          (λ q. rw q (get_or-set_same l (at + i) v 0 h ∙ e))
          (λ b. get_or-set_other l (at + i) (at + j) v 0 (λ q. lt_irrefl j (omega arith)) ∙ r.stored j b)
          (last_or_before j b);
    }
  where
    last_or_before : (j : ℕ) → j < i + 1 → (j ≡ i) ⊎ (j < i)
    last_or_before j b = eq-or-lt_of_le (omega arith)

-- a list with one element written
pub tabulate-set : (l : List ℕ) (at v : ℕ) → at < length l → set l at v ≡ tabulate (length l) (λ (k : ℕ). cond (eqb k at) v (get_or l k 0))
tabulate-set l at v h =
    tabulated (length l) (λ (k : ℕ). cond (eqb k at) v (get_or l k 0)) (set l at v) (length-set l at v)
    (λ k b. ⊎_elim
    (λ t. let here = eqb-true k at t in rw (t, here) (get_or-set_same l at v 0 h))
    (λ t. rw t (get_or-set_other l at k v 0 (eqb-false k at t)))
    (true_or_false (eqb k at)))
