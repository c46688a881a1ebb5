-- What the walks of a table see: which area comes next, 11 of one entry more, the entries of an area, and both halves of a buffer.
use Prim.Native.Nat.{ℕ, ◌+◌, ◌-◌, ◌*◌, ◌%◌, ◌≤◌, ◌<◌}
use mathlib.Core.Bool.{Bool, false, ◌||◌}
use mathlib.Core.List.{List}
use mathlib.Core.Logic.{⊎_elim}
use mathlib.Core.Path.{◌≡◌, refl, sym, ap, ◌∙◌}
use native.Mathlib.Nat.{le_trans, add-mul, zero-mul, one-mul, mod-eq_of_lt}
use native.Mathlib.Omega.{arith}
use lib.Arith.{digits_mod}
use lib.ListN.{length}
use Rattle.laws.specs.First.{some_to}
use Rattle.laws.specs.Table.{held}
use Rattle.laws.proofs.Cases.{lt_or_ge}
use Rattle.laws.proofs.Firsts.{some_none, some_more}
use Rattle.laws.proofs.Tables.{tabulated, Storing}
use Rattle.plane.specs.Plane.{sums}
use Rattle.plane.specs.declared.Sums.{Sums}
use Rattle.blocks.specs.Areas.{blocks_of, areas_of, area_sites, entries_of}
use Rattle.blocks.proofs.Areas.{sites-few, entry_below}
use Rattle.shading.specs.Shade.{tint}
use Rattle.shading.specs.Judge.{impossible, impossible_at, impossible_in, tint_of, shade_in, shade_at, shades_of}
use Rattle.shading.specs.Walk.{Whole, Possible, Stored}
use Rattle.shading.specs.declared.Asked.{Asked}
use Rattle.shading.specs.OfRatio.{Planes}
use Rattle.shading.specs.Shade.{Written}
use Rattle.shading.proofs.Entries.{InFour, shade_at_lem, entry_possible, tint-possible}

-- the area of the next entry: one more, or the first again
pub next_area : (k areas : ℕ) → k + 1 < areas → k + 1 ≡ (k + 1) % areas
next_area k areas l = sym (mod-eq_of_lt l)

pub first_area : (k areas : ℕ) → k < areas → areas ≤ k + 1 → 0 ≡ (k + 1) % areas
first_area k areas l g =
    let all : 1 * areas + 0 ≡ k + 1 = omega (arith, one-mul areas) in
    let some : 0 < areas = omega arith in
    sym (ap (λ (x : ℕ). x % areas) (sym all) ∙ digits_mod 1 some)

-- what a walk of one ratio's blocks has stored at its end
pub half_stored : {part : Written → ℕ} {given : Asked} {totals counts d l : List ℕ} {ratio blocks first k : ℕ}
    → first ≡ ratio * blocks → blocks ≡ blocks_of given.width given.height → k ≡ blocks
    → Storing (λ (i : ℕ). part (shade_in given totals counts ratio i)) d l first k → Stored part given totals counts ratio d l
half_stored {part} {given} {totals} {counts} {d} {l} {ratio} {blocks} {first} {k} f b e s =
    let at : first ≡ ratio * blocks_of given.width given.height = f ∙ ap (λ (n : ℕ). ratio * n) b in
    record {
      long = s.long;
      kept = λ j low. s.before j (omega (arith, at));
      stored = λ i low. rw (← at) (s.stored i (omega (arith, b, e)));
    }

-- A buffer that was d and is l now, in a loop that stores one ratio's half after the other: the next is this ratio's.
pub record Filled (part : Written → ℕ) (given : Asked) (totals counts : List ℕ) (d l : List ℕ) (ratio : ℕ) : Type 0 where
  pub long : length l ≡ length d
  pub filled : (j : ℕ) → j < ratio * blocks_of given.width given.height → held l j ≡ part (shade_at given totals counts j)

-- where the loop begins
pub filled_none : (part : Written → ℕ) (given : Asked) (totals counts d : List ℕ) → Filled part given totals counts d d 0
filled_none part given totals counts d = record { long = refl; filled = λ j low. absurd (omega (arith, zero-mul (blocks_of given.width given.height))) }

module _ {part : Written → ℕ} {given : Asked} {totals counts d l : List ℕ} {ratio : ℕ} (f : Filled part given totals counts d l ratio) where
  blocks : ℕ
  blocks = blocks_of given.width given.height

  -- a turn of it
  pub filled_more : {next : List ℕ} → Stored part given totals counts ratio l next → Filled part given totals counts d next (ratio + 1)
  unfolding blocks
  filled_more {next} s = record {
    long = s.long ∙ f.long;
    filled = λ j low. ⊎_elim (λ old. s.kept j old ∙ f.filled j old)
        (λ new. at (j - ratio * blocks) j (omega (arith, add-mul ratio 1 blocks, one-mul blocks)) (omega arith))
        (lt_or_ge j (ratio * blocks));
  }
    where
      at : (k j : ℕ) → k < blocks → ratio * blocks + k ≡ j → held next j ≡ part (shade_at given totals counts j)
      at k j below is = rw (← is) (s.stored k below ∙ sym (ap part (shade_at_lem given totals counts ratio k below)))

  -- its end: both halves of a buffer are all of it
  pub filled_done : ratio ≡ 2 → length d ≡ 2 * blocks_of given.width given.height → l ≡ shades_of part given totals counts
  filled_done e long =
      tabulated (2 * blocks_of given.width given.height) (λ (j : ℕ). part (shade_at given totals counts j)) l (f.long ∙ long)
      (λ j low. f.filled j (rw e low))

module _ (w h : ℕ) where
  -- 11 of one entry more: where the walk begins, a turn, and its end
  module _ (full : ℕ) (totals counts : List ℕ) where
    pub asked_none : false ≡ some_to 0 (impossible_at w h full totals counts)
    asked_none = sym (some_none _)

    pub asked_more : (e sites k : ℕ) (found odd : Bool) → found ≡ some_to e (impossible_at w h full totals counts)
        → k ≡ e % areas_of w h → sites ≡ area_sites w h k → odd ≡ impossible full sites (held totals e) (held counts e)
        → (found || odd) ≡ some_to (e + 1) (impossible_at w h full totals counts)
    asked_more e sites k found odd f b s o = rw (f, o, s, b) (some_more (impossible_at w h full totals counts) e)

    pub asked-all : (n : ℕ) (found : Bool) → found ≡ some_to n (impossible_at w h full totals counts) → n ≡ entries_of w h → found ≡ impossible_in w h full totals counts
    unfolding impossible_in
    asked-all n found f e = f ∙ ap (λ (n : ℕ). some_to n (impossible_at w h full totals counts)) e

-- of a whole table the entry of an area of a plane can be read, and holds what is possible; the code has the count of blocks
module _ (given : Asked) (totals counts : List ℕ) (whole : Whole given totals counts) (k blocks : ℕ)
    (in-areas : k < areas_of given.width given.height) (is : blocks ≡ blocks_of given.width given.height) where
  last : k ≤ blocks_of given.width given.height
  last = omega arith

  pub read_at : (plane : ℕ) → plane < 4
      → (plane * (blocks + 1) + k < length totals) × (plane * (blocks + 1) + k < length counts) × (held counts (plane * (blocks + 1) + k) ≤ 768)
  read_at plane p =
      let w = given.width in
      let h = given.height in
      let below = entry_below w h plane k last p in
      let few = (entry_possible w h given.full totals counts whole.0 whole.3 plane k p last).0 in
      rw is (omega (arith, whole.1), omega (arith, whole.2), le_trans few (sites-few w h k))

  pub tint_is : (of : Planes) → InFour of → (colour green : Sums)
      → colour ≡ sums (held counts (of.colour * (blocks + 1) + k)) (held totals (of.colour * (blocks + 1) + k))
      → green ≡ sums (held counts (of.green * (blocks + 1) + k)) (held totals (of.green * (blocks + 1) + k))
      → (tint colour green ≡ tint_of given.width given.height totals counts of k)
      × Possible (area_sites given.width given.height k) (tint colour green)
  unfolding tint_of
  tint_is of low colour green c g =
      rw (c, g, is) (refl, tint-possible given.width given.height given.full totals counts whole.0 whole.3 of low k last)
