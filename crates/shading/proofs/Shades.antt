-- The laws of one block and ratio, by what is seen in the block and at the centre.
use Prim.Native.Nat.{ℕ, zero, suc, ◌+◌, ◌-◌, ◌*◌, ◌^◌, ◌≤◌, ◌<◌}
use mathlib.Core.Bool.{Bool, true, false, cond}
use mathlib.Core.Logic.{◌⊎◌, inl, inr, ⊎_elim, ⊎_map}
use mathlib.Core.Path.{◌≡◌, refl, sym, ap, ap₂, ◌∙◌}
use native.Mathlib.Nat.{le_trans, add-le-add, mul-le-mul, mul_assoc, mul_left_comm, mul_comm, mul-pos, mul-le-mul_right}
use native.Mathlib.Omega.{arith}
use lib.Dec.{eqb, ltb}
use lib.IntN.{ℤ, pos, negsuc, nat_abs, neg_ℤ, ◌*ℤ◌, ◌-ℤ◌, +ℤ_invr}
use borrow.Author.Tests.{ltb-false, lt-ltb, le-ltb, eqb-true, eqb-false, not-true}
use Rattle.std.specs.Prelude.{Ok, Err}
use Rattle.verdict.specs.Verdict.{◌⨟◌, refuse_if}
use Rattle.verdict.specs.declared.Refusal.TheVariants.{TooFew, TooDark}
use Rattle.laws.specs.Signed.{◌⊖◌}
use Rattle.laws.proofs.Cases.{neither, either, times_le}
use Rattle.laws.proofs.Signeds.{⊖-zero, ⊖-ge, ⊖-less, ⊖-scale, ⊖-sub, ⊖-within}
use Rattle.plane.specs.declared.Sums.{Sums}
use Rattle.colour.specs.Colour.{above_black, not_above, ratio_of}
use Rattle.colour.specs.declared.Ratio.{Ratio}
use Rattle.colour.proofs.Totals.{not_above_is, above_black_lem}
use Rattle.shading.specs.Shade.{ratio_in, unseen, too_few, too_dark, offset, base, fails, judged_shade, shade_of, Written, written_of}
use Rattle.shading.specs.Walk.{Possible}
use Rattle.shading.specs.OfRatio.{Tint}

-- ---- 7 and 10
-- one of the two planes has no surveyed site in the block or at the centre
abbrev pub Unsurveyed : Tint → Tint → Type 0
Unsurveyed block centre =
    (block.colour.count ≡ 0) ⊎ (block.green.count ≡ 0) ⊎ (centre.colour.count ≡ 0) ⊎ (centre.green.count ≡ 0)

-- each has one in both
pub record Surveyed (block centre : Tint) : Type 0 where
  pub colour : 0 < block.colour.count
  pub green : 0 < block.green.count
  pub centre_colour : 0 < centre.colour.count
  pub centre_green : 0 < centre.green.count

-- T is at most 0: of the green in the block or at the centre, or of the colour at the centre
abbrev pub Dim : ℕ → Tint → Tint → Type 0
Dim black block centre =
    (block.green.total ≤ black * block.green.count)
    ⊎ (centre.green.total ≤ black * centre.green.count)
    ⊎ (centre.colour.total ≤ black * centre.colour.count)

-- all three are above 0
pub record Lit (black : ℕ) (block centre : Tint) : Type 0 where
  pub green : black * block.green.count < block.green.total
  pub centre_green : black * centre.green.count < centre.green.total
  pub centre_colour : black * centre.colour.count < centre.colour.total

-- which are each other's contrary
pub not_surveyed : {block centre : Tint} → Surveyed block centre → Unsurveyed block centre → ⊥
not_surveyed s = ⊎_elim (λ e. omega arith) (⊎_elim (λ e. omega arith) (⊎_elim (λ e. omega arith) (λ e. omega arith)))

pub not_lit : {black : ℕ} {block centre : Tint} → Lit black block centre → Dim black block centre → ⊥
not_lit l = ⊎_elim (λ e. omega arith) (⊎_elim (λ e. omega arith) (λ e. omega arith))

-- the three ways in which a block and ratio is told
pub data Told (black limit : ℕ) (block centre : Tint) : Written → Type 0 where
  seven : Unsurveyed block centre → Told black limit block centre (written_of (Err TooFew))
  ten : Surveyed block centre → Dim black block centre → Told black limit block centre (written_of (Err TooDark))
  judged : Surveyed block centre → Lit black block centre → Told black limit block centre (written_of (Ok (judged_shade limit (ratio_in black block) (ratio_in black centre))))

module _ (block centre : Tint) where
  unsurveyed : too_few block centre ≡ true → Unsurveyed block centre
  unfolding unseen
  unsurveyed e =
      ⊎_elim
      (λ b. ⊎_elim (λ t. inl (eqb-true block.colour.count 0 t)) (λ t. inr (inl (eqb-true block.green.count 0 t))) (either _ _ b))
      (λ c. ⊎_elim (λ t. inr (inr (inl (eqb-true centre.colour.count 0 t)))) (λ t. inr (inr (inr (eqb-true centre.green.count 0 t)))) (either _ _ c))
      (either (unseen block) (unseen centre) e)

  surveyed : too_few block centre ≡ false → Surveyed block centre
  unfolding unseen
  surveyed e =
      let both = neither (unseen block) (unseen centre) e in
      let in_block = neither (eqb block.colour.count 0) (eqb block.green.count 0) both.0 in
      let in_centre = neither (eqb centre.colour.count 0) (eqb centre.green.count 0) both.1 in
      record {
        colour = some block.colour.count in_block.0;
        green = some block.green.count in_block.1;
        centre_colour = some centre.colour.count in_centre.0;
        centre_green = some centre.green.count in_centre.1;
      }
    where
      some : (n : ℕ) → eqb n 0 ≡ false → 0 < n
      some n t = let other = eqb-false n 0 t in omega arith

  module _ (black : ℕ) where
    dim : too_dark black block centre ≡ true → Dim black block centre
    unfolding too_dark
    dim e =
        ⊎_map (low block.green) (λ t. ⊎_map (low centre.green) (low centre.colour) (either (not_above (above_black black centre.green)) _ t))
        (either (not_above (above_black black block.green)) _ e)
      where
        low : (shown : Sums) → not_above (above_black black shown) ≡ true → shown.total ≤ black * shown.count
        low shown t =
            ltb-false (black * shown.count) shown.total (not-true (ltb (black * shown.count) shown.total) (sym (not_above_is black shown) ∙ t))

    lit : too_dark black block centre ≡ false → Lit black block centre
    unfolding too_dark
    lit e =
        let first = neither (not_above (above_black black block.green)) _ e in
        let rest = neither (not_above (above_black black centre.green)) (not_above (above_black black centre.colour)) first.1 in
        record {
          green = above_black_lem black block.green first.0;
          centre_green = above_black_lem black centre.green rest.0;
          centre_colour = above_black_lem black centre.colour rest.1;
        }

    pub told : (limit : ℕ) → Told black limit block centre (written_of (shade_of black limit block centre))
    unfolding shade_of
    told limit = by (too_few block centre) (too_dark black block centre) refl refl
      where
        by : (few dark : Bool) → too_few block centre ≡ few → too_dark black block centre ≡ dark
            → Told black limit block centre
            (written_of (refuse_if TooFew few ⨟ refuse_if TooDark dark ⨟ Ok (judged_shade limit (ratio_in black block) (ratio_in black centre))))
        by true dark p q = seven (unsurveyed p)
        by false true p q = ten (surveyed p) (dim q)
        by false false p q = judged (surveyed p) (lit q)

-- ---- what is told by the number
module _ {black limit : ℕ} {block centre : Tint} where
  pub told_seven : {s : Written} → Told black limit block centre s → (s.number ≡ 7 → Unsurveyed block centre) × (Unsurveyed block centre → s.number ≡ 7)
  unfolding judged_shade
  told_seven (seven u) = (λ e. u, λ u. refl)
  told_seven (ten s d) = (λ e. absurd (omega arith), λ u. absurd (not_surveyed s u))
  told_seven (judged s l) = (λ e. absurd (omega arith), λ u. absurd (not_surveyed s u))

  pub told_ten : {s : Written} → Told black limit block centre s
      → (s.number ≡ 10 → (Unsurveyed block centre → ⊥) × Dim black block centre) × ((Unsurveyed block centre → ⊥) → Dim black block centre → s.number ≡ 10)
  unfolding judged_shade
  told_ten (seven u) = (λ e. absurd (omega arith), λ f d. absurd (f u))
  told_ten (ten s d) = (λ e. (not_surveyed s, d), λ f d. refl)
  told_ten (judged s l) = (λ e. absurd (omega arith), λ f d. absurd (not_lit l d))

  pub told_none : {s : Written} → Told black limit block centre s
      → (s.number ≡ 0 → (Unsurveyed block centre → ⊥) × (Dim black block centre → ⊥))
      × ((Unsurveyed block centre → ⊥) → (Dim black block centre → ⊥) → s.number ≡ 0)
  unfolding judged_shade
  told_none (seven u) = (λ e. absurd (omega arith), λ f g. absurd (f u))
  told_none (ten s d) = (λ e. absurd (omega arith), λ f g. absurd (g d))
  told_none (judged s l) = (λ e. (not_surveyed s, not_lit l), λ f g. refl)

  pub told_one : {s : Written} → Told black limit block centre s → (s.number ≡ 0) ⊎ (s.number ≡ 7) ⊎ (s.number ≡ 10)
  unfolding judged_shade
  told_one (seven u) = inr (inl refl)
  told_one (ten s d) = inr (inr refl)
  told_one (judged s l) = inl refl

  pub told_zeros : {s : Written} → Told black limit block centre s → (s.number ≡ 0 → ⊥) → (s.numerator ≡ 0) × (s.denominator ≡ 0) × (s.fail ≡ 0)
  unfolding judged_shade
  told_zeros (seven u) f = (refl, refl, refl)
  told_zeros (ten s d) f = (refl, refl, refl)
  told_zeros (judged s l) f = absurd (f refl)

-- ---- what is judged
-- with a/b in the block and c/d at the centre, all four signed: |a × d − c × b| over c × b itself, which is above 0
pub record Measured (limit : ℕ) (a b c d : ℤ) (s : Written) : Type 0 where
  pub number : s.number ≡ 0
  pub numerator : s.numerator ≡ nat_abs (a *ℤ d -ℤ c *ℤ b)
  pub denominator : pos s.denominator ≡ c *ℤ b
  pub above : 0 < s.denominator
  pub fails : limit * s.denominator < 16 * s.numerator → s.fail ≡ 1
  pub passes : 16 * s.numerator ≤ limit * s.denominator → s.fail ≡ 0

-- T × n, as in document 01
abbrev pub times : ℕ → Sums → ℕ → ℤ
times black shown n = (shown.total ⊖ black * shown.count) *ℤ pos n

-- so the numbers that are judged
module _ {black limit : ℕ} {block centre : Tint} where
  pub measured : {s : Written} → Told black limit block centre s → s.number ≡ 0
      → Measured limit
      (times black block.colour block.green.count)
      (times black block.green block.colour.count)
      (times black centre.colour centre.green.count)
      (times black centre.green centre.colour.count)
      s
  unfolding judged_shade ratio_of above_black fails
  measured (seven _) e = absurd (omega arith)
  measured (ten _ _) e = absurd (omega arith)
  measured (judged seen lit) e =
      let b = positive block.green block.colour.count lit.green in
      let c = positive centre.colour centre.green.count lit.centre_colour in
      let d = positive centre.green centre.colour.count lit.centre_green in
      record {
        number = refl;
        numerator = rw (b, c, d);
        denominator = rw (b, c);
        above = rw (b, c) (mul-pos (mul-pos (omega (arith, lit.centre_colour)) seen.centre_green) (mul-pos (omega (arith, lit.green)) seen.colour));
        fails = λ l. rw (lt-ltb _ _ l);
        passes = λ l. rw (le-ltb _ _ l);
      }
    where
      positive : (shown : Sums) (n : ℕ) → black * shown.count < shown.total → times black shown n ≡ pos ((shown.total - black * shown.count) * n)
      positive shown n l = rw (⊖-ge shown.total (black * shown.count) (omega arith))

-- ---- where every sample of a plane is the same
-- two totals that are s × count, each of a count of its own
pub record Even (s : ℕ) (one other : Sums) : Type 0 where
  pub in_one : one.total ≡ s * one.count
  pub in_other : other.total ≡ s * other.count

-- the size of a product
size_times : (z : ℤ) (n : ℕ) → nat_abs (z *ℤ pos n) ≡ nat_abs z * n
size_times (pos a) n = refl
size_times (negsuc a) n = turned (suc a * n)
  where
    turned : (m : ℕ) → nat_abs (neg_ℤ (pos m)) ≡ m
    turned zero = refl
    turned (suc m) = refl

module _ (black s : ℕ) where
  -- T × n is then (s − black) × count × n
  even_times : (m n : ℕ) → (s * m ⊖ black * m) *ℤ pos n ≡ (s ⊖ black) *ℤ pos (m * n)
  even_times m n =
      ⊖-scale (s * m) (black * m) n
      ∙ ap₂ (λ (x y : ℕ). x ⊖ y) (mul_assoc s m n) (mul_assoc black m n)
      ∙ sym (⊖-scale s black (m * n))

  -- so a × d and c × b are one, with p and q for the two counts' product in the block and at the centre
  even-offset : (p q z : ℕ) → ((s ⊖ black) *ℤ pos p) *ℤ pos (z * q) -ℤ ((s ⊖ black) *ℤ pos q) *ℤ pos (z * p) ≡ pos 0
  even-offset p q z =
      ap₂ (λ (x y : ℤ). x -ℤ y) (twice p (z * q)) (twice q (z * p) ∙ ap (λ (n : ℕ). (s ⊖ black) *ℤ pos n) crossed)
      ∙ +ℤ_invr ((s ⊖ black) *ℤ pos (p * (z * q)))
    where
      twice : (m n : ℕ) → ((s ⊖ black) *ℤ pos m) *ℤ pos n ≡ (s ⊖ black) *ℤ pos (m * n)
      twice m n = ap (λ (x : ℤ). x *ℤ pos n) (⊖-scale s black m) ∙ even_times m n

      crossed : q * (z * p) ≡ p * (z * q)
      crossed = mul_left_comm q z p ∙ ap (λ (n : ℕ). z * n) (mul_comm q p) ∙ mul_left_comm z p q

module _ (black s g : ℕ) (block centre : Tint) (of-colour : Even s block.colour centre.colour) (of-green : Even g block.green centre.green) where
  -- no block is off the centre
  pub flat : nat_abs (offset (ratio_in black block) (ratio_in black centre)) ≡ 0
  unfolding ratio_of above_black
  flat =
      rw (
        of-colour.in_one,
        of-colour.in_other,
        of-green.in_one,
        of-green.in_other,
        even_times black s block.colour.count block.green.count,
        even_times black s centre.colour.count centre.green.count,
        down block.green.count block.colour.count,
        down centre.green.count centre.colour.count,
      )
      (ap nat_abs (even-offset black s (block.colour.count * block.green.count) (centre.colour.count * centre.green.count) (nat_abs (g ⊖ black))))
    where
      down : (m n : ℕ) → nat_abs ((g * m ⊖ black * m) *ℤ pos n) ≡ nat_abs (g ⊖ black) * (n * m)
      down m n = ap nat_abs (even_times black g m n) ∙ size_times (g ⊖ black) (m * n) ∙ ap (λ (k : ℕ). nat_abs (g ⊖ black) * k) (mul_comm m n)

  pub flat_shade : (limit : ℕ) → (written_of (shade_of black limit block centre)).numerator ≡ 0
  unfolding judged_shade
  flat_shade limit = by (told block centre black limit)
    where
      by : {s : Written} → Told black limit block centre s → s.numerator ≡ 0
      by (seven _) = refl
      by (ten _ _) = refl
      by (judged _ _) = flat

-- ---- the limit
-- of a block and ratio at two limits: the numbers are the same, and it passes at the second where it does at the first
pub record Eased (first second : Written) : Type 0 where
  pub number : first.number ≡ second.number
  pub numerator : first.numerator ≡ second.numerator
  pub denominator : first.denominator ≡ second.denominator
  pub fail : first.fail ≡ 0 → second.fail ≡ 0

pub eased : (black low high : ℕ) (block centre : Tint) → low ≤ high → Eased (written_of (shade_of black low block centre)) (written_of (shade_of black high block centre))
unfolding shade_of judged_shade fails
eased black low high block centre l = by (too_few block centre) (too_dark black block centre)
  where
    n : ℕ
    n = nat_abs (offset (ratio_in black block) (ratio_in black centre))

    d : ℕ
    d = nat_abs (base (ratio_in black block) (ratio_in black centre))

    passed : (b : Bool) → ◌≡◌ {A = ℕ} (cond b 1 0) 0 → b ≡ false
    passed true e = absurd (omega arith)
    passed false e = refl

    by : (few dark : Bool)
        → Eased
        (written_of (refuse_if TooFew few ⨟ refuse_if TooDark dark ⨟ Ok (judged_shade low (ratio_in black block) (ratio_in black centre))))
        (written_of (refuse_if TooFew few ⨟ refuse_if TooDark dark ⨟ Ok (judged_shade high (ratio_in black block) (ratio_in black centre))))
    by true dark = record { number = refl; numerator = refl; denominator = refl; fail = λ e. e }
    by false true = record { number = refl; numerator = refl; denominator = refl; fail = λ e. e }
    by false false = record {
      number = refl;
      numerator = refl;
      denominator = refl;
      fail = λ e. ap (λ (b : Bool). cond b 1 0)
          (le-ltb (high * d) (16 * n) (le_trans (ltb-false (low * d) (16 * n) (passed (ltb (low * d) (16 * n)) e)) (mul-le-mul_right d l)));
    }

-- ---- how large the numbers can be
-- T × n, by how many sites the area has
scaled_low : (black sites n : ℕ) (shown : Sums) → black ≤ 4095 → shown.count ≤ sites → shown.total ≤ 4095 * sites → n ≤ sites
    → nat_abs (above_black black shown *ℤ pos n) ≤ 4095 * sites * sites
unfolding above_black
scaled_low black sites n shown dark few low times =
    rw (⊖-scale shown.total (black * shown.count) n)
    (⊖-within (shown.total * n) (black * shown.count * n) (4095 * sites * sites)
    (times_le shown.total n (4095 * sites) sites low times)
    (times_le (black * shown.count) n (4095 * sites) sites (times_le black shown.count 4095 sites dark few) times))

-- a ratio neither of whose numbers is above m in size
pub record Small (m : ℕ) (r : Ratio) : Type 0 where
  pub up : nat_abs r.numerator ≤ m
  pub down : r.denominator ≤ m

pub small : (black sites : ℕ) (area : Tint) → black ≤ 4095 → Possible sites area → Small (4095 * sites * sites) (ratio_in black area)
unfolding ratio_of
small black sites area dark can = record {
  up = scaled_low black sites area.green.count area.colour dark can.0 can.1 can.2;
  down = scaled_low black sites area.colour.count area.green dark can.2 can.3 can.0;
}

-- a signed number as a difference of two that are at most its size
pub record Parts (z : ℤ) : Type 0 where
  pub up : ℕ
  pub down : ℕ
  pub is : z ≡ up ⊖ down
  pub up_low : up ≤ nat_abs z
  pub down_low : down ≤ nat_abs z

pub parts : (z : ℤ) → Parts z
parts (pos n) = record { up = n; down = 0; is = sym (⊖-zero n); up_low = omega arith; down_low = omega arith }
parts (negsuc n) = record { up = 0; down = suc n; is = ap negsuc (omega arith) ∙ sym (⊖-less 0 (suc n) (omega arith)); up_low = omega arith; down_low = omega arith }

-- a difference is no larger than both sizes together
difference_most : (x y : ℤ) → nat_abs (x -ℤ y) ≤ nat_abs x + nat_abs y
difference_most x y =
    let p = parts x in
    let q = parts y in
    rw (ap₂ (λ (u v : ℤ). u -ℤ v) p.is q.is ∙ ⊖-sub p.up p.down q.up q.down)
    (⊖-within (p.up + q.down) (p.down + q.up) (nat_abs x + nat_abs y) (omega arith) (omega arith))

module _ {m n : ℕ} {block centre : Ratio} (of-block : Small m block) (of-centre : Small n centre) where
  pub base_most : nat_abs (base block centre) ≤ n * m
  base_most = rw (size_times centre.numerator block.denominator) (mul-le-mul of-centre.up of-block.down)

  pub offset_most : nat_abs (offset block centre) ≤ m * n + n * m
  offset_most =
      le_trans (difference_most (block.numerator *ℤ pos centre.denominator) (base block centre))
      (add-le-add (rw (size_times block.numerator centre.denominator) (mul-le-mul of-block.up of-centre.down)) base_most)

-- 16 times either number fits 64 bits
pub record Fits (s : Written) : Type 0 where
  pub numerator : s.numerator < 2 ^ 60
  pub denominator : s.denominator < 2 ^ 60

pub fits : (black limit : ℕ) (block centre : Tint) → black ≤ 4095
    → Possible 192 block → Possible 768 centre → Fits (written_of (shade_of black limit block centre))
unfolding judged_shade
fits black limit block centre dark in_block at_centre = by (told block centre black limit)
  where
    by : {s : Written} → Told black limit block centre s → Fits s
    by (seven _) = record { numerator = omega arith; denominator = omega arith }
    by (ten _ _) = record { numerator = omega arith; denominator = omega arith }
    by (judged _ _) =
        let b = small black 192 block dark in_block in
        let c = small black 768 centre dark at_centre in
        record { numerator = omega (arith, offset_most b c); denominator = omega (arith, base_most b c) }
