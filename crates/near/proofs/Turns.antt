-- A decision that turns one code into another, and nothing else: the search turns 0 into 2, a repair turns 2 into 3.
use Prim.Native.Nat.{ℕ, ◌≤◌}
use mathlib.Core.Bool.{Bool, true, false, cond}
use mathlib.Core.List.{List}
use mathlib.Core.Logic.{◌⊎◌, inl, inr}
use mathlib.Core.Path.{◌≡◌, refl, sym, ap, ◌∙◌}
use native.Mathlib.Omega.{arith}
use lib.Dec.{eqb}
use lib.ListN.{get_or}
use mir.Val.{bool_byte}
use borrow.Author.Tests.{eqb-true, eq-eqb, ne_eqb}
use Rattle.laws.specs.Sum.{sum_to}
use Rattle.laws.specs.Table.{tabulate}
use Rattle.laws.proofs.Sums.{sum_ext}
use Rattle.laws.proofs.Tables.{get_d_tabulate}

-- 1 where a site's code was `from` and is `to`
abbrev pub turned : ℕ → ℕ → ℕ → ℕ → ℕ
turned from to before after = cond (eqb before from) (cond (eqb after to) 1 0) 0

-- how many of n sites were `from` and are `to`
abbrev pub turned_count : ℕ → ℕ → ℕ → List ℕ → List ℕ → ℕ
turned_count n from to before after = sum_to n (λ (i : ℕ). turned from to (get_or before i 0) (get_or after i 0))

-- nothing but `from` to `to` was changed at a site
abbrev pub OnlyTurned : ℕ → ℕ → ℕ → ℕ → Type 0
OnlyTurned from to before after = (after ≡ before) ⊎ ((before ≡ from) × (after ≡ to))

-- 1 where the code is `from` and the test holds
abbrev pub decided : ℕ → ℕ → Bool → ℕ
decided from code test = cond (eqb code from) (cond test 1 0) 0

abbrev pub after : ℕ → ℕ → ℕ → ℕ
after to code d = cond (eqb d 0) code to

module _ (from to code : ℕ) where
  pub tied : (test : Bool) → (from ≡ to → ⊥) → decided from code test ≡ turned from to code (after to code (decided from code test))
  tied test other = by (eqb code from) test refl
    where
      by : (b test : Bool) → eqb code from ≡ b
          → ◌≡◌ {A = ℕ} (cond b (cond test 1 0) 0) (cond b (cond (eqb (cond (eqb (cond b (cond test 1 0) 0) 0) code to) to) 1 0) 0)
      by true true e = rw (eq-eqb to to refl)
      by true false e = rw (ne_eqb code to (λ q. other (sym (eqb-true code from e) ∙ q)))
      by false test e = refl

  pub only_turned : (test : Bool) → OnlyTurned from to code (after to code (decided from code test))
  only_turned test = by (eqb code from) test refl
    where
      by : (b test : Bool) → eqb code from ≡ b → OnlyTurned from to code (cond (eqb (cond b (cond test 1 0) 0) 0) code to)
      by true true e = inr (eqb-true code from e, refl)
      by true false e = inl refl
      by false test e = inl refl

  pub kept : (test : Bool) → (code ≡ from → ⊥) → after to code (decided from code test) ≡ code
  kept test other = rw (ne_eqb code from other)

-- the count of decisions is the count of codes that were turned
pub count_tied : (n from to : ℕ) (before : List ℕ) (d : ℕ → ℕ) (f : ℕ → ℕ)
    → ((i : ℕ) → d i ≡ turned from to (get_or before i 0) (f i)) → sum_to n d ≡ turned_count n from to before (tabulate n f)
count_tied n from to before d f one =
    sum_ext n d (λ (i : ℕ). turned from to (get_or before i 0) (get_or (tabulate n f) i 0))
    (λ i l. one i ∙ ap (turned from to (get_or before i 0)) (sym (get_d_tabulate n f i l)))
