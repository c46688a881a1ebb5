-- Max is the greatest of the sizes of the deviations, which have their signs here.
use Prim.Native.Nat.{ℕ, ◌+◌, ◌-◌, ◌*◌, ◌≤◌}
use mathlib.Core.Bool.{false}
use mathlib.Core.Logic.{◌⊎◌}
use mathlib.Core.Path.{◌≡◌, sym, ap, ◌∙◌}
use native.Mathlib.Omega.{arith}
use lib.IntN.{ℤ, pos, nat_abs, neg_ℤ}
use lib.Signed.{lt_z}
use Rattle.laws.specs.Signed.{◌⊖◌}
use Rattle.laws.proofs.Greatests.{greatest-le}
use Rattle.laws.proofs.Signeds.{⊖-eq, ⊖-zero, ⊖-size, ⊖-either, ⊖-up-to, ⊖-down-to}
use Rattle.pattern.specs.Figures.{ten_around, deviation, max_of}
use Rattle.pattern.proofs.Figuring.{max_of_lem}

-- 10 × C[i] less the ten totals around line i, with its sign
abbrev pub signed_deviation : (ℕ → ℕ) → ℕ → ℤ
signed_deviation C i = 10 * C i ⊖ ten_around C i

-- d gives each line a signed number: some line from 5 to n − 6 has m or −m
pub record Reached (n m : ℕ) (d : ℕ → ℤ) : Type 0 where
  pub line : ℕ
  pub first : 5 ≤ line
  pub last : line + 6 ≤ n
  pub is : (d line ≡ pos m) ⊎ (d line ≡ neg_ℤ (pos m))

-- m is the greatest of their sizes: no line from 5 to n − 6 has more than m or less than −m, and some line has m or −m
pub record GreatestSize (n m : ℕ) (d : ℕ → ℤ) : Type 0 where
  pub not_above : (i : ℕ) → 5 ≤ i → i + 6 ≤ n → lt_z (pos m) (d i) ≡ false
  pub not_below : (i : ℕ) → 5 ≤ i → i + 6 ≤ n → lt_z (d i) (neg_ℤ (pos m)) ≡ false
  pub reached : Reached n m d

-- every line from 5 to n − 6 has 0
abbrev pub NoneOut : ℕ → (ℕ → ℤ) → Type 0
NoneOut n d = (i : ℕ) → 5 ≤ i → i + 6 ≤ n → d i ≡ pos 0

module _ (n : ℕ) (C : ℕ → ℕ) where
  -- no deviation is above Max
  each : (i : ℕ) → 5 ≤ i → i + 6 ≤ n → deviation C i ≤ max_of n C
  each i p q = greatest-le 5 (n - 5) (deviation C) i p (omega arith)

  -- so it is 0 only where no line stands out
  pub zero_none : max_of n C ≡ 0 → NoneOut n (signed_deviation C)
  unfolding deviation
  zero_none z i p q = ⊖-eq (10 * C i) (ten_around C i) 0 0 (omega (arith, each i p q, z)) ∙ ⊖-zero 0

  module _ (low : 12 ≤ n) where
    pub max-greatest : GreatestSize n (max_of n C) (signed_deviation C)
    unfolding deviation
    max-greatest = record {
      not_above = λ i p q. ⊖-up-to (10 * C i) (ten_around C i) (max_of n C) (each i p q);
      not_below = λ i p q. ⊖-down-to (10 * C i) (ten_around C i) (max_of n C) (each i p q);
      reached = max_of_lem n C low (λ (m : ℕ). Reached n m (signed_deviation C)) (λ i p q. record { line = i; first = p; last = q; is = ⊖-either (10 * C i) (ten_around C i) });
    }

    -- and it is 0 there
    pub none_zero : NoneOut n (signed_deviation C) → max_of n C ≡ 0
    unfolding deviation
    none_zero none =
        max_of_lem n C low (λ (m : ℕ). m ≡ 0) (λ i p q. sym (⊖-size (10 * C i) (ten_around C i)) ∙ ap nat_abs (none i p q))
