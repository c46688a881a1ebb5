-- T as the difference of two natural numbers: when it is above 0, and that T × c stays far inside an i64.
use Prim.Native.Nat.{ℕ, ◌*◌, ◌≤◌, ◌<◌}
use mathlib.Core.Bool.{true, false, not}
use mathlib.Core.Logic.{⊎_elim}
use mathlib.Core.Path.{◌≡◌, sym, ◌∙◌}
use native.Mathlib.Omega.{arith}
use lib.Dec.{ltb, leb}
use lib.IntN.{ℤ, pos, nat_abs, ◌*ℤ◌}
use mir.Syntax.{w64}
use mir.Val.{SFits, to_z, of_z}
use borrow.Author.Tests.{ltb-true, lt-ltb, le-ltb, not-false, le-leb, lt-leb}
use Rattle.laws.proofs.Cases.{lt_or_ge, times_le}
use Rattle.laws.proofs.Signeds.{⊖-above}
use Rattle.laws.proofs.Machine.{Is, laid_is, scale_is, scale_fits}
use Rattle.plane.specs.declared.Sums.{Sums}
use Rattle.colour.specs.Colour.{above_black, not_above, ratio, ratio_of}

module _ (black : ℕ) (shown : Sums) where
  -- T is not above 0 where the black level for each site reaches the samples' sum
  pub not_above_is : not_above (above_black black shown) ≡ not (ltb (black * shown.count) shown.total)
  unfolding not_above above_black
  not_above_is = rw (⊖-above shown.total (black * shown.count))

  pub reached : shown.total ≤ black * shown.count → true ≡ not_above (above_black black shown)
  reached h = rw (not_above_is, le-ltb (black * shown.count) shown.total h)

  pub compared : leb shown.total (black * shown.count) ≡ not_above (above_black black shown)
  compared =
      ⊎_elim
      (λ l. rw (not_above_is, lt-ltb (black * shown.count) shown.total l, lt-leb shown.total (black * shown.count) l))
      (λ g. le-leb shown.total (black * shown.count) g ∙ reached g)
      (lt_or_ge (black * shown.count) shown.total)

  -- where T is above 0
  pub above_black_lem : not_above (above_black black shown) ≡ false → black * shown.count < shown.total
  above_black_lem e = omega (arith, ltb-true (black * shown.count) shown.total (not-false (ltb (black * shown.count) shown.total) (sym not_above_is ∙ e)))

-- T × n, for sums and a count n in the bits that the code has for them
module _ (black : ℕ) (shown : Sums) (n : ℕ) (z : ℤ) (is : z ≡ above_black black shown)
    (dark : black ≤ 65535) (few : shown.count ≤ 65535) (low : shown.total ≤ 4294967295) (times : n ≤ 65535) where
  up : shown.total * n ≤ 4294967295 * 65535
  up = times_le shown.total n 4294967295 65535 low times

  least : black * shown.count ≤ 65535 * 65535
  least = times_le black shown.count 65535 65535 dark few

  down : black * shown.count * n ≤ 65535 * 65535 * 65535
  down = times_le (black * shown.count) n (65535 * 65535) 65535 least times

  laid : Is (of_z w64 z) shown.total (black * shown.count)
  unfolding above_black
  laid = laid_is z shown.total (black * shown.count) is (omega arith) (omega (arith, least))

  pub product_fits : SFits w64 (to_z w64 (of_z w64 z) *ℤ to_z w64 n)
  product_fits = scale_fits n laid (omega arith) (omega (arith, up)) (omega (arith, down))

  pub product_is : to_z w64 (of_z w64 (to_z w64 (of_z w64 z) *ℤ to_z w64 n)) ≡ above_black black shown *ℤ pos n
  unfolding above_black
  product_is = scale_is n laid (omega arith) (omega (arith, up)) (omega (arith, down))

pub ratio_is : (black : ℕ) (colour gr : Sums) (y z : ℤ)
    → y ≡ above_black black colour *ℤ pos gr.count → z ≡ above_black black gr *ℤ pos colour.count
    → (d : ℕ) → d ≡ nat_abs z → ratio y d ≡ ratio_of black colour gr
unfolding ratio_of
ratio_is black colour gr y z p q d s = rw (s, p, q)
