-- The order of floats that are numbers, finite and not negative: `<=` of IEEE 754 compares just their values, 0 among them.
use Prim.Native.Nat.{ℕ, ◌*◌, ◌≤◌}
use mathlib.Core.Bool.{true, false, ◌||◌, ◌&&◌}
use mathlib.Core.Path.{refl}
use native.Mathlib.Omega.{arith}
use lib.Dec.{T, ltb, eqb}
use lib.Ieee.{Float, nan, inf, fin, up, down, le}
use lib.Ieee.Exact.{HasValue}
use lib.Ieee.Order.{le_of_values}
use lib.Ieee.Positive.{num, den, den_pos}
use Rattle.std.proofs.lemmas.Bool.Decides.{nat_tests}
use Rattle.exact.specs.Bound.{plain, AtMost, ByValue}

not_above : (a b : ℕ) → T (ltb a b || (eqb a b && true)) → a ≤ b
not_above a b h = grind (arith, nat_tests)

values_of : (x y : Float) → T (plain x) → T (plain y) → T (le x y) → num x * den y ≤ num y * den x
unfolding le
values_of nan y p q h = absurd p
values_of (inf s) y p q h = absurd p
values_of (fin true m e) y p q h = absurd p
values_of (fin false m e) nan p q h = absurd q
values_of (fin false m e) (inf t) p q h = absurd q
values_of (fin false m e) (fin true n d) p q h = absurd q
values_of (fin false m e) (fin false n d) p q h = not_above (m * up e * down d) (n * up d * down e) h

own_value : (x : Float) → T (plain x) → HasValue x false (num x) (den x)
own_value nan p = absurd p
own_value (inf s) p = absurd p
own_value (fin true m e) p = absurd p
own_value (fin false m e) p = (refl, refl)

module _ (x y : Float) (p : T (plain x)) (q : T (plain y)) where
  pub by_value : ByValue x y
  by_value = record {
    to_values = values_of x y p q;
    from_values = le_of_values x y (num x) (den x) (num y) (den y) (den_pos x) (den_pos y) (own_value x p) (own_value y q);
  }

  pub at_most : T (le x y) → AtMost x y
  at_most h = record { compared = h; valued = values_of x y p q h }
