-- What the numbers and sums of an accepted call leave room for, and that the totals as walked have the lines' figures.
use Prim.Native.Nat.{ℕ, ◌+◌, ◌*◌, ◌<◌, ◌≤◌}
use mathlib.Core.List.{List}
use mathlib.Core.Path.{◌≡◌, sym, ap, ap₂, ◌∙◌}
use native.Mathlib.Nat.{mul_assoc}
use native.Mathlib.Omega.{arith}
use lib.ListN.{length, take}
use Rattle.std.proofs.Common.{length-take, get_or-take}
use Rattle.laws.specs.Table.{held, tabulate}
use Rattle.laws.proofs.Cases.{times_le, row_end}
use Rattle.laws.proofs.Tables.{length-tabulate, get_d_tabulate}
use Rattle.window.specs.declared.Lines as window
use Rattle.pattern.specs.Lines.{line_total}
use Rattle.pattern.specs.Figures.{figures_of}
use Rattle.pattern.specs.Pattern.{pattern_figures}
use Rattle.pattern.specs.Walk.{lined, line_of, Possible, Accepted}
use Rattle.pattern.proofs.Totals.{passed, passed_le, whole, count_is, long_is, side_le, total_le}
use Rattle.pattern.proofs.Figuring.{figures_ext}

module _ (way : window.Lines) (w h full k : ℕ) (sums : List ℕ) (a : Accepted w h full k sums) where
  -- row y can be added to the totals of the rows before it
  pub row_ready : (y : ℕ) (totals : List ℕ) → y < h → ((i : ℕ) → held sums i ≤ 4294967295) → totals ≡ tabulate 128 (passed way w (held sums) y)
      → (w ≤ 128)
      × (y < 128)
      × (y * w + w ≤ length sums)
      × (length totals ≡ 128)
      × ((i : ℕ) → i < 128 → held totals i ≤ y * 549755813760)
  row_ready y totals l small e = (
    a.wide,
    omega (arith, a.high),
    omega (arith, row_end y h w l, a.long),
    rw e (length-tabulate 128 (passed way w (held sums) y)),
    λ i m. rw (e, get_d_tabulate 128 (passed way w (held sums) y) i m) (room i),
  )
    where
      room : (i : ℕ) → passed way w (held sums) y i ≤ y * 549755813760
      room i =
          let row = times_le w 4294967295 128 4294967295 a.wide (omega arith) in
          let rows = times_le y (w * 4294967295) y 549755813760 (omega arith) row in
          omega (arith, passed_le way w (held sums) y 4294967295 small i)

  -- a line's sites, each of k frames at full scale
  pub unit_le : line_of way w h * k * full ≤ 52416000
  unit_le =
      let sites = times_le (line_of way w h) k 128 100 (side_le way w h 128 a.wide a.high) a.frames in
      times_le (line_of way w h * k) full 12800 4095 sites a.scale

  module _ (totals : List ℕ) (e : totals ≡ tabulate 128 (passed way w (held sums) h)) where
    -- once all rows are added, the array holds the lines' totals
    totals_are : (i : ℕ) → i < line_of way h w → held totals i ≡ line_total (lined way w h) (held sums) i
    totals_are i l =
        let few = side_le way h w 128 a.high a.wide in
        rw (e, get_d_tabulate 128 (passed way w (held sums) h) i (omega arith))
        (whole way w h (held sums) i (rw (count_is way w h) l))

    -- of which the first are lent, as many as there are lines
    module _ (count : ℕ) (p : count ≡ line_of way h w) where
      few : count ≤ 128
      few = omega (arith, p, side_le way h w 128 a.high a.wide)

      lent_long : length (take count totals) ≡ count
      lent_long =
          let long : length totals ≡ 128 = rw e (length-tabulate 128 (passed way w (held sums) h)) in
          omega (arith, length-take count totals, few, long)

      lent_are : (i : ℕ) → i < line_of way h w → held (take count totals) i ≡ line_total (lined way w h) (held sums) i
      lent_are i l = get_or-take count totals i 0 (omega (arith, p)) ∙ totals_are i l

      pub lent_possible : Possible (take count totals)
      lent_possible i l =
          let inside : i < line_of way h w = omega (arith, lent_long, p) in
          let total = total_le way w h (held sums) (k * full) a.possible i (rw (count_is way w h) inside) in
          omega (arith, lent_are i inside, total, ap (λ (n : ℕ). n * (k * full)) (long_is way w h), mul_assoc (line_of way w h) k full, unit_le)

      module _ (low : 12 ≤ line_of way h w) where
        pub lent_enough : (12 ≤ length (take count totals)) × (length (take count totals) ≤ 128)
        lent_enough = (omega (arith, lent_long, p), omega (arith, lent_long, few))

        pub lent_figures : (long : ℕ) → long ≡ line_of way w h
            → figures_of (length (take count totals)) (long * k * full) (held (take count totals)) ≡ pattern_figures (lined way w h) full k (held sums)
        lent_figures long q =
            ap₂ (λ (n m : ℕ). figures_of n (m * k * full) (held (take count totals))) (lent_long ∙ p) q
            ∙ figures_ext (line_of way h w) (held (take count totals)) (line_total (lined way w h) (held sums)) low lent_are (line_of way w h * k * full)
            ∙ ap₂ (λ (n m : ℕ). figures_of n (m * k * full) (line_total (lined way w h) (held sums))) (sym (count_is way w h)) (sym (long_is way w h))
