-- Document 01, "Colour ratios": the centre of each plane, and what is seen there.
use Rattle.std.specs.Prelude.{ℕ, ◌+◌, ◌-◌, ◌/◌, Bool, ◌||◌, eqb, ltb}
use Rattle.plane.specs.Plane.{box_sum, sums}
use Rattle.plane.specs.declared.PlaneBox.{PlaneBox}
use Rattle.plane.specs.declared.Sums.{Sums}
use Rattle.colour.specs.Mosaic.{Centres}

-- of a plane w / 2 wide and h / 2 high: 32 wide and 24 high, left and top being half the rest rounded down
abbrev pub centre_of : ℕ → ℕ → PlaneBox
centre_of w h = record {
  top = (h / 2 - 24) / 2;
  bottom = (h / 2 - 24) / 2 + 24;
  left = (w / 2 - 32) / 2;
  right = (w / 2 - 32) / 2 + 32;
}

-- 9: a smaller plane
unfoldable pub too_small : ℕ → ℕ → Bool
too_small w h = ltb (w / 2) 32 || ltb (h / 2) 24

-- how many sites of a plane's centre are surveyed, and the sum of their samples, by what is seen of a frame and a mask
abbrev pub centre_sums : ℕ → ℕ → (ℕ → ℕ) → (ℕ → ℕ) → ℕ → Sums
centre_sums w h view ones plane =
    sums (box_sum w h plane (centre_of w h) ones) (box_sum w h plane (centre_of w h) view)

-- 7: no surveyed site in some plane's centre
unfoldable pub some_empty : Centres → Bool
some_empty seen =
    eqb seen.r.count 0 || (eqb seen.gr.count 0 || (eqb seen.b.count 0 || eqb seen.gb.count 0))
