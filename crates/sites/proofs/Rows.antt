-- A view has each pair of its rows, and each row.
use Prim.Native.Nat.{ℕ, ◌+◌, ◌*◌, ◌/◌, ◌%◌, ◌<◌, ◌≤◌}
use mathlib.Core.Path.{◌≡◌, sym, ◌∙◌}
use native.Mathlib.Nat.{add-mul, mul_assoc, mul_comm, mul-le-mul_right}
use native.Mathlib.Omega.{arith}
use lib.ListN.{length}
use Rattle.laws.proofs.Cases.{row_end}
use Rattle.window.specs.Shape.{sites_of}
use Rattle.window.specs.declared.View.{View}
use Rattle.window.proofs.Sides.{sides}

module _ (v : View) where
  -- that its pair of rows u lies in the buffers
  pub record PairIn (u : ℕ) : Type 0 where
    pub wide : v.width ≤ 128
    pub few : u < 64
    pub inside : 2 * v.width * u + 2 * v.width ≤ length v.mask.now
    pub framed : length v.frame.now ≡ length v.mask.now

  pub pair_in : (u : ℕ) → u < v.height / 2 → PairIn u
  pair_in u low =
      let legal = sides _ _ v.legal in
      let rows : 2 * (u + 1) ≤ v.height = omega arith in
      record {
        wide = legal.wide.high;
        few = omega (arith, legal.high.high);
        inside = omega (arith, v.masked, legal.sites, mul-le-mul_right v.width rows, mul_assoc 2 v.width u, mul_comm v.width u, mul_assoc 2 u v.width, mul_assoc 2 (u + 1) v.width, add-mul u 1 v.width);
        framed = v.framed ∙ sym v.masked;
      }

  -- that row y does
  pub record RowIn (y : ℕ) : Type 0 where
    pub wide : v.width ≤ 128
    pub even : v.width % 2 ≡ 0
    pub high : y < 128
    pub inside : y * v.width + v.width ≤ sites_of v.width v.height

  pub row_in : (y : ℕ) → y < v.height → RowIn y
  row_in y low =
      let legal = sides _ _ v.legal in
      record {
        wide = legal.wide.high;
        even = legal.wide.even;
        high = omega (arith, legal.high.high);
        inside = omega (arith, legal.sites, row_end y v.height v.width low);
      }
