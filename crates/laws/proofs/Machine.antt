-- A signed local of the code is its bits: what they stand for is `to_z`, and what an operation writes is `of_z`.
use Prim.Native.Nat.{ℕ, ◌+◌, ◌*◌, ◌^◌, ◌<◌}
use mathlib.Core.Logic.{⊎_elim}
use mathlib.Core.Path.{◌≡◌, sym, ap₂, ◌∙◌}
use native.Mathlib.Omega.{arith}
use lib.IntN.{ℤ, pos, ◌+ℤ◌, ◌-ℤ◌, ◌*ℤ◌}
use mir.Syntax.{w64}
use mir.Val.{SFits, to_z, of_z}
use mir.Facts.{to_z-of_z}
use Rattle.laws.specs.Signed.{◌⊖◌}
use Rattle.laws.proofs.Cases.{lt_or_ge}
use Rattle.laws.proofs.Signeds.{⊖-add, ⊖-sub, ⊖-zero, ⊖-eq, ⊖-ge, ⊖-less, ⊖-scale}

-- a difference of two numbers below 2 ^ 63 fits an i64
pub ⊖-fits : (a b : ℕ) → a < 2 ^ 63 → b < 2 ^ 63 → SFits w64 (a ⊖ b)
⊖-fits a b p q =
    ⊎_elim
    (λ l. rw (⊖-less a b l) (record { sfits = omega arith }))
    (λ g. rw (⊖-ge a b g) (record { sfits = omega arith }))
    (lt_or_ge a b)

pub nat_fits : (n : ℕ) → n < 2 ^ 63 → SFits w64 (pos n)
nat_fits n h = record { sfits = h }

-- the bits x stand for a less b, and both parts leave room
pub record Is (x a b : ℕ) : Type 0 where
  pub val : to_z w64 x ≡ a ⊖ b
  pub up : a < 2 ^ 63
  pub down : b < 2 ^ 63

pub nat_is : (n : ℕ) → n < 2 ^ 63 → Is n n 0
nat_is n h = record { val = to_z-of_z {w = w64} {z = pos n} (nat_fits n h) ∙ sym (⊖-zero n); up = h; down = omega arith }

-- a signed number as it is laid down
pub laid_is : (z : ℤ) (a b : ℕ) → z ≡ a ⊖ b → a < 2 ^ 63 → b < 2 ^ 63 → Is (of_z w64 z) a b
laid_is z a b e p q = record { val = to_z-of_z {w = w64} (rw e (⊖-fits a b p q)) ∙ e; up = p; down = q }

-- the same number by two other parts
pub is_as : {x a b : ℕ} (c d : ℕ) → Is x a b → a + d ≡ c + b → c < 2 ^ 63 → d < 2 ^ 63 → Is x c d
is_as {x} {a} {b} c d i e p q = record { val = i.val ∙ ⊖-eq a b c d e; up = p; down = q }

module _ {x y a b c d : ℕ} (i : Is x a b) (j : Is y c d) where
  pub add_fits : a + c < 2 ^ 63 → b + d < 2 ^ 63 → SFits w64 (to_z w64 x +ℤ to_z w64 y)
  add_fits p q = rw (i.val, j.val, ⊖-add a b c d) (⊖-fits (a + c) (b + d) p q)

  pub add_is : a + c < 2 ^ 63 → b + d < 2 ^ 63 → Is (of_z w64 (to_z w64 x +ℤ to_z w64 y)) (a + c) (b + d)
  add_is p q = record { val = to_z-of_z {w = w64} (add_fits p q) ∙ rw (i.val, j.val) (⊖-add a b c d); up = p; down = q }

  pub sub_fits : a + d < 2 ^ 63 → b + c < 2 ^ 63 → SFits w64 (to_z w64 x -ℤ to_z w64 y)
  sub_fits p q = rw (i.val, j.val, ⊖-sub a b c d) (⊖-fits (a + d) (b + c) p q)

  pub sub_is : a + d < 2 ^ 63 → b + c < 2 ^ 63 → Is (of_z w64 (to_z w64 x -ℤ to_z w64 y)) (a + d) (b + c)
  sub_is p q = record { val = to_z-of_z {w = w64} (sub_fits p q) ∙ rw (i.val, j.val) (⊖-sub a b c d); up = p; down = q }

-- a difference times a number that was cast
module _ {x a b : ℕ} (n : ℕ) (i : Is x a b) (small : n < 2 ^ 63) (p : a * n < 2 ^ 63) (q : b * n < 2 ^ 63) where
  product : to_z w64 x *ℤ to_z w64 n ≡ (a ⊖ b) *ℤ pos n
  product = ap₂ (λ (y z : ℤ). y *ℤ z) i.val ((nat_is n small).val ∙ ⊖-zero n)

  pub scale_fits : SFits w64 (to_z w64 x *ℤ to_z w64 n)
  scale_fits = rw (product, ⊖-scale a b n) (⊖-fits (a * n) (b * n) p q)

  pub scale_is : to_z w64 (of_z w64 (to_z w64 x *ℤ to_z w64 n)) ≡ (a ⊖ b) *ℤ pos n
  scale_is = to_z-of_z {w = w64} scale_fits ∙ product

-- a difference of two numbers that were cast
module _ (x y : ℕ) (p : x < 2 ^ 63) (q : y < 2 ^ 63) where
  pub less_fits : SFits w64 (to_z w64 x -ℤ to_z w64 y)
  less_fits = sub_fits (nat_is x p) (nat_is y q) (omega arith) (omega arith)

  pub less_is : Is (of_z w64 (to_z w64 x -ℤ to_z w64 y)) x y
  less_is = is_as x y (sub_is (nat_is x p) (nat_is y q) (omega arith) (omega arith)) (omega arith) p q
