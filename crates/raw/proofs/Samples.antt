-- Samples and the bytes they are joined of, over the width.
use Prim.Native.Nat.{ℕ, ◌+◌, ◌-◌, ◌*◌, ◌/◌, ◌%◌, ◌^◌, ◌<◌, ◌≤◌}
use mathlib.Core.Bool.{cond}
use mathlib.Core.List.{List}
use mathlib.Core.Path.{◌≡◌, ap₂, ◌∙◌}
use native.Mathlib.Nat.{mod-lt, mul_comm, zero-div, zero-mod, zero-mul, zero-add, mul-zero, div-one, mod-mod, div-add-mod'}
use native.Mathlib.Omega.{arith}
use lib.Arith.{digits_div, digits_mod, digits_lt}
use lib.Dec.{eqb}
use lib.Bits.{bit_and, bit_or, and_mask, or_shifted}
use lib.ListN.{length, get_or, set, length-set}
use lib.Pow.{pow_pos, pow-add, shl_exact}
use borrow.Author.Tests.{ne_eqb}
use Rattle.laws.specs.Table.{tabulate}
use Rattle.laws.proofs.Tables.{Filling, filling_as, filling_more, get_d_tabulate}
use Rattle.raw.specs.Packed.{joined, sample_at}

-- shifts and masks join the upper byte and the lower bits
pub joins : (low w upper last j : ℕ) → upper < 2 ^ 8 → 8 + low ≤ w
    → bit_or ((upper * 2 ^ low) % 2 ^ w) (bit_and (last / 2 ^ (low * j)) (2 ^ low - 1)) ≡ joined low upper last j
unfolding joined
joins low w upper last j h l =
    ap₂ bit_or (shl_exact 8 low w h l) (and_mask (last / 2 ^ (low * j)) low)
    ∙ or_shifted upper low (last / 2 ^ (low * j) % 2 ^ low) (mod-lt (last / 2 ^ (low * j)) (pow_pos low))

-- sample j of a group, at i, is joined of the byte at `at` and of the group's last
pub in_group : (low per : ℕ) (bytes : List ℕ) (group j i at : ℕ) → j < per → i ≡ per * group + j → at ≡ (per + 1) * group + j
    → joined low (get_or bytes at 0) (get_or bytes ((per + 1) * group + per) 0) j ≡ sample_at low per bytes i
unfolding sample_at
in_group low per bytes group j i at h p q =
    rw (p, q, mul_comm per group, mul_comm (per + 1) group, digits_div group h, digits_mod group h)

-- whole groups leave no sample over
pub fours : (bytes out : ℕ) → 4 * bytes ≡ 5 * out → out ≤ 4 * (out / 4)
fours bytes out e = let m : out ≡ 4 * (bytes - out) = omega arith in of_four out (bytes - out) m
  where
    of_four : (n k : ℕ) → n ≡ 4 * k → n ≤ 4 * (n / 4)
    of_four n k e = omega arith

-- a turn that stores the four samples of a group
pub four : {f : ℕ → ℕ} {d l : List ℕ} (g v₀ v₁ v₂ v₃ : ℕ) → Filling f d l (4 * g) → 4 * g + 3 < length l
    → v₀ ≡ f (4 * g) → v₁ ≡ f (4 * g + 1) → v₂ ≡ f (4 * g + 2) → v₃ ≡ f (4 * g + 3)
    → Filling f d (set (set (set (set l (4 * g) v₀) (4 * g + 1) v₁) (4 * g + 2) v₂) (4 * g + 3) v₃) (4 * (g + 1))
four g v₀ v₁ v₂ v₃ r h e₀ e₁ e₂ e₃ =
    let r₁ = filling_more v₀ r (omega arith) e₀ in
    let r₂ = filling_as (4 * g + 2) (omega arith) (filling_more v₁ r₁ (simp length-set (omega arith)) e₁) in
    let r₃ = filling_as (4 * g + 3) (omega arith) (filling_more v₂ r₂ (simp length-set (omega arith)) e₂) in
    filling_as (4 * (g + 1)) (omega arith) (filling_more v₃ r₃ (simp length-set (omega arith)) e₃)

-- a sample has 8 + low bits
pub sample_below : (low per : ℕ) (bytes : List ℕ) → ((k : ℕ) → get_or bytes k 0 < 256) → (i : ℕ) → sample_at low per bytes i < 2 ^ (8 + low)
unfolding sample_at joined
sample_below low per bytes small i =
    rw (pow-add 2 8 low) (digits_lt (small (i / per * (per + 1) + i % per)) (mod-lt (get_or bytes (i / per * (per + 1) + per) 0 / 2 ^ (low * (i % per))) (pow_pos low)))

-- the bytes of a group whose first sample is v
abbrev pub first_is : ℕ → ℕ → ℕ → ℕ
first_is low v k = cond (eqb k 0) (v / 2 ^ low) (v % 2 ^ low)

-- and every number of that many bits is a sample
pub sample_occurs : (low per v : ℕ) → 0 < per → sample_at low per (tabulate (per + 1) (first_is low v)) 0 ≡ v
unfolding sample_at joined
sample_occurs low per v p =
    let bytes = tabulate (per + 1) (first_is low v) in
    let upper : get_or bytes 0 0 ≡ v / 2 ^ low = get_d_tabulate (per + 1) (first_is low v) 0 (omega arith) in
    let last : get_or bytes per 0 ≡ v % 2 ^ low =
    get_d_tabulate (per + 1) (first_is low v) per (omega arith) ∙ rw (ne_eqb per 0 (λ e. omega arith)) in
    rw (zero-div per, zero-mod per, zero-mul (per + 1), zero-add per, mul-zero low, upper, last, div-one (v % 2 ^ low), mod-mod v (2 ^ low))
    (div-add-mod' v (2 ^ low))
