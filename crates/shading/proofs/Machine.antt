-- What the machine's products and differences are: a shade stays far inside an i64.
use Prim.Native.Nat.{ℕ, ◌*◌, ◌^◌, ◌≤◌, ◌<◌}
use mathlib.Core.Bool.{Bool}
use mathlib.Core.Path.{◌≡◌, sym, ap, ap₂, ◌∙◌}
use native.Mathlib.Omega.{arith}
use lib.IntN.{ℤ, pos, nat_abs, ◌*ℤ◌, ◌-ℤ◌}
use mir.Syntax.{w64}
use mir.Val.{SFits, to_z, of_z}
use mir.Facts.{to_z-of_z}
use Rattle.laws.specs.Signed.{◌⊖◌}
use Rattle.laws.proofs.Cases.{times_le}
use Rattle.laws.proofs.Signeds.{⊖-scale}
use Rattle.laws.proofs.Machine.{Is, laid_is, scale_fits, scale_is, sub_fits}
use Rattle.colour.specs.declared.Ratio.{Ratio}
use Rattle.shading.specs.Shade.{offset, base, shade, fails, judged_shade}
use Rattle.shading.proofs.Shades.{Small, parts, offset_most, base_most}

-- the bits of a signed number times a natural one
abbrev timed : ℤ → ℕ → ℕ
timed z n = of_z w64 (to_z w64 (of_z w64 z) *ℤ to_z w64 n)

-- such a product, as a difference of two that are far inside an i64
pub record Product (z : ℤ) (n : ℕ) : Type 0 where
  pub fits : SFits w64 (to_z w64 (of_z w64 z) *ℤ to_z w64 n)
  pub val : to_z w64 (timed z n) ≡ z *ℤ pos n
  pub up : ℕ
  pub down : ℕ
  pub is : z *ℤ pos n ≡ up ⊖ down
  pub up_low : up < 2 ^ 59
  pub down_low : down < 2 ^ 59

-- by bounds on its factors
product : (z : ℤ) (n m k : ℕ) → nat_abs z ≤ m → n ≤ k → m < 2 ^ 60 → k < 2 ^ 60 → m * k < 2 ^ 59 → Product z n
product z n m k small times m-fits k-fits room =
    let p = parts z in
    let up = times_le p.up n m k (omega arith) times in
    let down = times_le p.down n m k (omega arith) times in
    let laid = laid_is z p.up p.down p.is (omega arith) (omega arith) in
    let same = ap (λ (y : ℤ). y *ℤ pos n) p.is in
    record {
      fits = scale_fits n laid (omega arith) (omega arith) (omega arith);
      val = scale_is n laid (omega arith) (omega arith) (omega arith) ∙ sym same;
      up = p.up * n;
      down = p.down * n;
      is = same ∙ ⊖-scale p.up p.down n;
      up_low = omega arith;
      down_low = omega arith;
    }

laid_so : {z : ℤ} {n : ℕ} (p : Product z n) → Is (timed z n) p.up p.down
laid_so p = record { val = p.val ∙ p.is; up = omega arith; down = omega arith }

-- a/b in a block of 192 sites, and c/d in a centre of 768
module _ {block centre : Ratio} (of-block : Small (4095 * 192 * 192) block) (of-centre : Small (4095 * 768 * 768) centre) where
  -- c × b and a × d
  pub c_times_b : Product centre.numerator block.denominator
  c_times_b = product centre.numerator block.denominator (4095 * 768 * 768) (4095 * 192 * 192) of-centre.up of-block.down (omega arith) (omega arith) (omega arith)

  pub a_times_d : Product block.numerator centre.denominator
  a_times_d = product block.numerator centre.denominator (4095 * 192 * 192) (4095 * 768 * 768) of-block.up of-centre.down (omega arith) (omega arith) (omega arith)

  pub offset_fits : SFits w64 (to_z w64 (timed block.numerator centre.denominator) -ℤ to_z w64 (timed centre.numerator block.denominator))
  offset_fits = let ad = a_times_d in let cb = c_times_b in sub_fits (laid_so ad) (laid_so cb) (omega arith) (omega arith)

  -- the sizes that the code finds are those of the definition
  module _ {numerator denominator : ℕ}
      (n : numerator ≡ nat_abs (to_z w64 (of_z w64 (to_z w64 (timed block.numerator centre.denominator) -ℤ to_z w64 (timed centre.numerator block.denominator)))))
      (d : denominator ≡ nat_abs (to_z w64 (timed centre.numerator block.denominator))) where
    numerator_is : numerator ≡ nat_abs (offset block centre)
    numerator_is = n ∙ ap nat_abs (to_z-of_z offset_fits ∙ ap₂ (λ (x y : ℤ). x -ℤ y) a_times_d.val c_times_b.val)

    denominator_is : denominator ≡ nat_abs (base block centre)
    denominator_is = d ∙ ap nat_abs c_times_b.val

    -- and stay far inside a u64
    pub numerator-low : numerator < 2 ^ 60
    numerator-low = omega (arith, numerator_is, offset_most of-block of-centre)

    pub denominator-low : denominator < 2 ^ 60
    denominator-low = omega (arith, denominator_is, base_most of-block of-centre)

    pub shade_is : (limit : ℕ) (fail : Bool) → fail ≡ fails limit numerator denominator
        → shade numerator denominator fail ≡ judged_shade limit block centre
    unfolding judged_shade
    shade_is limit fail f = rw (f, numerator_is, denominator_is)
