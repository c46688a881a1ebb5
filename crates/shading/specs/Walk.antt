-- What the inner functions ask and promise: a table that can be read, sums whose products fit, and the half of a buffer that is one ratio's.
use Rattle.std.specs.Prelude.{ℕ, ◌+◌, ◌*◌, ◌≤◌, ◌<◌, false, List, ◌≡◌, length}
use Rattle.laws.specs.Table.{held}
use Rattle.blocks.specs.Areas.{blocks_of, entries_of}
use Rattle.shading.specs.Judge.{impossible_in, shade_in}
use Rattle.shading.specs.declared.Asked.{Asked}
use Rattle.shading.specs.Shade.{Written}
use Rattle.shading.specs.OfRatio.{Tint}

-- a table that 4 and 11 let pass, and a full scale that 2 does
abbrev pub Whole : Asked → List ℕ → List ℕ → Type 0
Whole given totals counts =
    (given.full ≤ 4095)
    × (length totals ≡ entries_of given.width given.height) × (length counts ≡ entries_of given.width given.height)
    × (impossible_in given.width given.height given.full totals counts ≡ false)

-- what two planes can show in an area of so many sites
abbrev pub Possible : ℕ → Tint → Type 0
Possible sites area =
    (area.colour.count ≤ sites) × (area.colour.total ≤ 4095 * sites)
    × (area.green.count ≤ sites) × (area.green.total ≤ 4095 * sites)

-- a buffer in which one part of every shade of a ratio is stored, all before them being as it was
pub record Stored (part : Written → ℕ) (given : Asked) (totals counts : List ℕ) (ratio : ℕ) (before after : List ℕ) : Type 0 where
  pub long : length after ≡ length before
  pub kept : (j : ℕ) → j < ratio * blocks_of given.width given.height → held after j ≡ held before j
  pub stored : (k : ℕ) → k < blocks_of given.width given.height
      → held after (ratio * blocks_of given.width given.height + k) ≡ part (shade_in given totals counts ratio k)
