-- The laws of a ratio: what it is made of, how large it can be, and what leaves it as it is.
use Prim.Native.Nat.{ℕ, ◌+◌, ◌-◌, ◌*◌, ◌≤◌, ◌<◌}
use mathlib.Core.Path.{◌≡◌, refl}
use native.Mathlib.Nat.{add-mul, mul-pos}
use native.Mathlib.Omega.{arith}
use lib.IntN.{pos, nat_abs, ◌*ℤ◌}
use Rattle.laws.proofs.Cases.{times_le}
use Rattle.laws.proofs.Signeds.{⊖-eq, ⊖-ge, ⊖-scale, ⊖-within}
use Rattle.plane.specs.declared.Sums.{Sums}
use Rattle.colour.specs.Colour.{above_black, ratio_of}
use Rattle.colour.specs.declared.Ratio.{Ratio}
use Rattle.colour.proofs.Judged.{Lit, top}

-- T(X) × c(Gr) over T(Gr) × c(X): the denominator is that product itself and above 0, and neither number is above 4,095 × 768 × 768
pub record Sound (black : ℕ) (colour gr : Sums) (ratio : Ratio) : Type 0 where
  pub up : ratio.numerator ≡ above_black black colour *ℤ pos gr.count
  pub down : pos ratio.denominator ≡ above_black black gr *ℤ pos colour.count
  pub above : 0 < ratio.denominator
  pub up_most : nat_abs ratio.numerator ≤ 2415329280
  pub down_most : ratio.denominator ≤ 2415329280

pub sound : {full black : ℕ} {colour gr : Sums} → full ≤ 4095 → black ≤ full → Lit full colour → Lit full gr
    → black * gr.count < gr.total → Sound black colour gr (ratio_of black colour gr)
unfolding ratio_of above_black
sound {full} {black} {colour} {gr} scale dark x g bright =
    let least : black * colour.count ≤ 4095 * 768 = times_le black colour.count 4095 768 (omega arith) x.few in
    let more : 0 < gr.total - black * gr.count = omega arith in
    let high : gr.total - black * gr.count ≤ 4095 * 768 = omega (arith, top scale g) in
    record {
      up = refl;
      down = rw (⊖-ge gr.total (black * gr.count) (omega arith));
      above = rw (⊖-ge gr.total (black * gr.count) (omega arith)) (mul-pos more x.some);
      up_most =
          rw (⊖-scale colour.total (black * colour.count) gr.count)
          (⊖-within (colour.total * gr.count) (black * colour.count * gr.count) 2415329280
          (times_le colour.total gr.count (4095 * 768) 768 (top scale x) g.few)
          (times_le (black * colour.count) gr.count (4095 * 768) 768 least g.few));
      down_most =
          rw (⊖-ge gr.total (black * gr.count) (omega arith))
          (times_le (gr.total - black * gr.count) colour.count (4095 * 768) 768 high x.few);
    }

-- T stays where the black level and each sample that is counted are raised by d
pub same_total : (black d : ℕ) (shown raised : Sums) → raised.count ≡ shown.count → raised.total ≡ shown.total + d * shown.count
    → above_black (black + d) raised ≡ above_black black shown
unfolding above_black
same_total black d shown raised c t =
    rw (c, t)
    (⊖-eq (shown.total + d * shown.count) ((black + d) * shown.count) shown.total (black * shown.count)
    (omega (arith, add-mul black d shown.count)))

-- and so does a ratio
pub same-ratio : (black d : ℕ) (colour gr tint green : Sums)
    → tint.count ≡ colour.count → tint.total ≡ colour.total + d * colour.count
    → green.count ≡ gr.count → green.total ≡ gr.total + d * gr.count
    → ratio_of (black + d) tint green ≡ ratio_of black colour gr
unfolding ratio_of
same-ratio black d colour gr tint green c t n s =
    rw (same_total black d colour tint c t, same_total black d gr green n s, c, n)
