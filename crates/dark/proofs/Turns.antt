-- One turn of the sum of sample minus black level: what is added is the sample less the black level at a surveyed site, and 0 at any other.
use Prim.Native.Nat.{ℕ, ◌+◌, ◌*◌, ◌≤◌, ◌<◌}
use mathlib.Core.Bool.{Bool, true, false, cond}
use mathlib.Core.List.{List}
use mathlib.Core.Path.{◌≡◌, sym, ◌∙◌}
use native.Mathlib.Nat.{mul-add, mul-zero, mul-one}
use native.Mathlib.Omega.{arith}
use lib.IntN.{ℤ, pos, ◌+ℤ◌, ◌-ℤ◌}
use lib.ListN.{get_or}
use mir.Syntax.{w16, w64}
use mir.Val.{Fits, SFits, to_z, of_z}
use Rattle.laws.specs.Sum.{sum_to}
use Rattle.laws.specs.Signed.{◌⊖◌}
use Rattle.laws.proofs.Cases.{times_le}
use Rattle.laws.proofs.Sums.{sum_none, sum_more, sum-le}
use Rattle.laws.proofs.Signeds.{⊖-self, ⊖-zero}
use Rattle.laws.proofs.Machine.{Is, nat_is, laid_is, is_as, sub_is, add_is, add_fits}
use Rattle.window.specs.View.{surveyed, seen_at, seen, one}
use Rattle.window.proofs.Views.{seen_is, one_is, seen_le, surveyed-few}

-- a difference that is chosen where the site is surveyed is a difference of what is seen there
chosen : (code x black : ℕ) (z : ℤ) → z ≡ cond (surveyed code) (x ⊖ black) (pos 0) → z ≡ seen_at code x ⊖ black * seen_at code 1
unfolding seen_at
chosen code x black z e = by (surveyed code) e
  where
    by : (t : Bool) → z ≡ cond t (x ⊖ black) (pos 0) → z ≡ cond t x 0 ⊖ black * cond t 1 0
    by true e = rw (mul-one black) e
    by false e = rw (mul-zero black) (e ∙ sym (⊖-self 0))

module _ (black : ℕ) (mask frame : List ℕ) where
  pub start : Is 0 (sum_to 0 (seen mask frame)) (black * sum_to 0 (one mask))
  start = rw (← sum_none (seen mask frame), ← sum_none (one mask), mul-zero black) (nat_is 0 (omega arith))

  module _ (i sum code : ℕ) (s z : ℤ) (small : black ≤ 4095) (inside : i < 16384) (fits : (j : ℕ) → Fits w16 (get_or frame j 0))
      (so_far : to_z w64 sum ≡ sum_to i (seen mask frame) ⊖ black * sum_to i (one mask)) where
    up : sum_to i (seen mask frame) ≤ i * 65535
    up = sum-le i 65535 (seen mask frame) (λ j l. rw seen_is (seen_le (get_or mask j 0) (get_or frame j 0) 65535 (omega (arith, fits j))))

    down : black * sum_to i (one mask) ≤ 4095 * 16384
    down = times_le black (sum_to i (one mask)) 4095 16384 small (omega (arith, surveyed-few mask i))

    summed : Is sum (sum_to i (seen mask frame)) (black * sum_to i (one mask))
    summed = record { val = so_far; up = omega (arith, up); down = omega (arith, down) }

    one_up : seen_at code (get_or frame i 0) ≤ 65535
    one_up = seen_le code (get_or frame i 0) 65535 (omega (arith, fits i))

    one_down : black * seen_at code 1 ≤ 4095 * 1
    one_down = times_le black (seen_at code 1) 4095 1 small (seen_le code 1 1 (omega arith))

    -- a turn's sample stands at its index, whatever code it is taken by
    module _ (framed : s ≡ pos (get_or frame i 0))
        (here : z ≡ cond (surveyed code) (to_z w64 (of_z w64 (to_z w64 (of_z w64 s) -ℤ to_z w64 black))) (pos 0)) where
      less : Is (of_z w64 (to_z w64 (of_z w64 s) -ℤ to_z w64 black)) (get_or frame i 0) black
      less =
          let x = get_or frame i 0 in
          let laid = laid_is s x 0 (framed ∙ sym (⊖-zero x)) (omega (arith, fits i)) (omega arith) in
          is_as x black (sub_is laid (nat_is black (omega arith)) (omega (arith, fits i)) (omega arith)) (omega arith) (omega (arith, fits i)) (omega arith)

      added : Is (of_z w64 z) (seen_at code (get_or frame i 0)) (black * seen_at code 1)
      added =
          laid_is z (seen_at code (get_or frame i 0)) (black * seen_at code 1) (chosen code (get_or frame i 0) black z (rw less.val at here))
          (omega (arith, one_up)) (omega (arith, one_down))

      pub turn_fits : SFits w64 (to_z w64 sum +ℤ to_z w64 (of_z w64 z))
      turn_fits = add_fits summed added (omega (arith, up, one_up)) (omega (arith, down, one_down))

    -- and so does its code
    pub turn : (masked : code ≡ get_or mask i 0) (framed : s ≡ pos (get_or frame i 0))
        (here : z ≡ cond (surveyed code) (to_z w64 (of_z w64 (to_z w64 (of_z w64 s) -ℤ to_z w64 black))) (pos 0))
        → Is (of_z w64 (to_z w64 sum +ℤ to_z w64 (of_z w64 z))) (sum_to (i + 1) (seen mask frame)) (black * sum_to (i + 1) (one mask))
    turn masked framed here =
        rw (← sum_more i (seen mask frame), ← sum_more i (one mask), mul-add black (sum_to i (one mask)) (one mask i), seen_is, one_is, ← masked)
        (add_is summed (added framed here) (omega (arith, up, one_up)) (omega (arith, down, one_down)))
