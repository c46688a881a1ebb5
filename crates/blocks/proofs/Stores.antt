-- The laws of a table that is written area by area, all four planes of an area at once.
use Prim.Native.Nat.{ℕ, ◌+◌, ◌*◌, ◌/◌, ◌%◌, ◌≤◌, ◌<◌}
use mathlib.Core.List.{List}
use mathlib.Core.Logic.{⊎_elim}
use mathlib.Core.Path.{◌≡◌, refl, sym, ◌∙◌}
use native.Mathlib.Nat.{mod-lt, div-add-mod', div-lt_iff_lt-mul}
use native.Mathlib.Omega.{arith}
use lib.Dec.{eqb}
use lib.ListN.{length, set, get_or, length-set}
use lib.Seq.{get_or-set_same, get_or-set_other}
use borrow.Author.Tests.{eqb-true, eqb-false}
use Rattle.laws.specs.Table.{held, tabulate}
use Rattle.blocks.specs.Walk.{stores}
use Rattle.laws.proofs.Cases.{true_or_false, lt_or_ge}
use Rattle.laws.proofs.Tables.{tabulated}

-- a list with one place written holds f at e, if it held it or that is the place
written : (f : ℕ → ℕ) (l : List ℕ) (at v e : ℕ) → at < length l → v ≡ f at → ((e ≡ at → ⊥) → get_or l e 0 ≡ f e) → get_or (set l at v) e 0 ≡ f e
written f l at v e within is held =
    ⊎_elim
    (λ t. let here = eqb-true e at t in rw here (get_or-set_same l at v 0 within ∙ is))
    (λ t. let other = eqb-false e at t in get_or-set_other l at e v 0 other ∙ held other)
    (true_or_false (eqb e at))

-- an entry of area k is in one of the four planes
one_of_four : (areas k e : ℕ) → k < areas → e < 4 * areas → e % areas ≡ k
    → (e ≡ 0 * areas + k → ⊥) → (e ≡ 1 * areas + k → ⊥) → (e ≡ 2 * areas + k → ⊥) → (e ≡ 3 * areas + k → ⊥) → ⊥
one_of_four areas k e last below is first second third fourth =
    ⊎_elim
    (λ a. first (omega (arith, at 0 (omega arith))))
    (λ a. ⊎_elim
    (λ b. second (omega (arith, at 1 (omega arith))))
    (λ b. ⊎_elim (λ c. third (omega (arith, at 2 (omega arith)))) (λ c. fourth (omega (arith, at 3 (omega (arith, few))))) (lt_or_ge (e / areas) 3))
    (lt_or_ge (e / areas) 2))
    (lt_or_ge (e / areas) 1)
  where
    few : e / areas < 4
    few = (div-lt_iff_lt-mul {k = areas} (omega arith)).1 below

    at : (plane : ℕ) → e / areas ≡ plane → plane * areas + k ≡ e
    at plane of = rw (← of, ← is) (div-add-mod' e areas)

-- A table that was d and is l now, in a loop that stores f at the entries of area 0, 1, .., each in all four planes: the next is area k.
pub record Stored (f : ℕ → ℕ) (areas : ℕ) (d l : List ℕ) (k : ℕ) : Type 0 where
  pub long : length l ≡ length d
  pub stored : (e : ℕ) → e < 4 * areas → e % areas < k → get_or l e 0 ≡ f e

-- where the loop begins
pub stored_none : (f : ℕ → ℕ) (areas : ℕ) (d : List ℕ) → Stored f areas d d 0
stored_none f areas d = record { long = refl; stored = λ e below area. absurd (omega arith) }

module _ {f : ℕ → ℕ} {areas : ℕ} {d l : List ℕ} {k : ℕ} where
  -- a turn of it
  pub stored_more : (of_planes : List ℕ) → Stored f areas d l k → k < areas → length d ≡ 4 * areas
      → held of_planes 0 ≡ f (0 * areas + k) → held of_planes 1 ≡ f (1 * areas + k) → held of_planes 2 ≡ f (2 * areas + k) → held of_planes 3 ≡ f (3 * areas + k)
      → Stored f areas d (stores l areas k of_planes 4) (k + 1)
  unfolding stores
  stored_more of_planes r last long p q s t =
      let l1 = set l (0 * areas + k) (held of_planes 0) in
      let l2 = set l1 (1 * areas + k) (held of_planes 1) in
      let l3 = set l2 (2 * areas + k) (held of_planes 2) in
      let long1 : length l1 ≡ 4 * areas = length-set l (0 * areas + k) _ ∙ r.long ∙ long in
      let long2 : length l2 ≡ 4 * areas = length-set l1 (1 * areas + k) _ ∙ long1 in
      let long3 : length l3 ≡ 4 * areas = length-set l2 (2 * areas + k) _ ∙ long2 in
      record {
        long = length-set l3 (3 * areas + k) _ ∙ long3 ∙ sym long;
        stored = λ e below area. written f l3 (3 * areas + k) _ e (omega arith) t
            (λ n3. written f l2 (2 * areas + k) _ e (omega arith) s
            (λ n2. written f l1 (1 * areas + k) _ e (omega arith) q
            (λ n1. written f l (0 * areas + k) _ e (omega (arith, r.long)) p
            (λ n0. ⊎_elim (λ m. r.stored e below m) (λ g. absurd (one_of_four areas k e last below (omega arith) n0 n1 n2 n3)) (lt_or_ge (e % areas) k)))));
      }

  -- its end
  pub stored_done : (n : ℕ) → Stored f areas d l k → areas ≤ k → 0 < areas → length d ≡ n → n ≡ 4 * areas → l ≡ tabulate n f
  stored_done n r past some long is =
      tabulated n f l (r.long ∙ long) (λ e below. r.stored e (omega arith) (omega (arith, mod-lt e some)))
