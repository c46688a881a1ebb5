-- The laws of `root`: its square is at most x, the next number's is above, and no other number has both.
use Prim.Native.Nat.{ℕ, zero, suc, ◌+◌, ◌*◌, ◌≤◌, ◌<◌}
use mathlib.Core.Bool.{Bool, true, false, cond}
use mathlib.Core.Path.{◌≡◌, refl, sym}
use native.Mathlib.Nat.{le_trans, le_antisymm, mul-add}
use native.Mathlib.Numerals.{add-one}
use native.Mathlib.Omega.{arith}
use borrow.Author.Tests.{leb-true, leb-false}
use Rattle.exact.specs.Root.{IsRoot, root_to, root}

root_to_lem : (k x : ℕ) → x < (k + 1) * (k + 1) → IsRoot x (root_to k x)
unfolding root_to
root_to_lem zero x h = record { low = omega arith; high = h }
root_to_lem (suc k) x h =
    by _ (λ t. leb-true _ _ t) (λ t. root_to_lem k x (rw (add-one k) (leb-false _ _ t)))
  where
    by : (test : Bool) → (test ≡ true → suc k * suc k ≤ x) → (test ≡ false → IsRoot x (root_to k x))
        → IsRoot x (cond test (suc k) (root_to k x))
    by true here below = record { low = here refl; high = h }
    by false here below = below refl

pub root_is : (x : ℕ) → IsRoot x (root x)
unfolding root
root_is x = root_to_lem x x (omega (arith, mul-add (x + 1) x 1))

pub greatest : {x r : ℕ} (s : ℕ) → IsRoot x r → s * s ≤ x → s ≤ r
greatest s i h = grind arith

-- at most one number is the root
pub only_root : {x r s : ℕ} → IsRoot x r → IsRoot x s → r ≡ s
only_root {r = r} {s = s} i j = le_antisymm (greatest r j i.low) (greatest s i j.low)

pub is_root : {x r : ℕ} → IsRoot x r → r ≡ root x
is_root {x} i = only_root i (root_is x)

pub root_under : (x b : ℕ) → x < b * b → root x < b
root_under x b h = grind (arith, root_is x)

pub root-zero : root 0 ≡ 0
root-zero = sym (is_root (record { low = omega arith; high = omega arith }))

-- a greater number has no smaller root
pub root_mono : (x y : ℕ) → x ≤ y → root x ≤ root y
root_mono x y h = greatest (root x) (root_is y) (le_trans (root_is x).low h)
