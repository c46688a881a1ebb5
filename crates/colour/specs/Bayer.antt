-- Document 01, "Colour ratios": which plane of a window has which colour.
use Rattle.std.specs.Prelude.{ℕ, cond, eqb}
use Rattle.plane.specs.declared.Sums.{Sums}
use Rattle.colour.specs.Mosaic.{Mosaic}
use Rattle.colour.specs.Mosaic.{Centres}

-- the planes of R, Gr, B and Gb
abbrev pub mosaic : ℕ → ℕ → ℕ → ℕ → Mosaic
mosaic r gr b gb = record { r = r; gr = gr; b = b; gb = gb }

-- Bayer order names the colour at site (0,0): 0 R, 1 Gr, 2 B, 3 Gb. Gr shares R's rows, Gb shares B's.
-- Beside each order: the colours of the planes 0 and 1, which share their rows, and of 2 and 3, which do.
unfoldable pub mosaic_of : ℕ → Mosaic
mosaic_of order =
    cond (eqb order 0) (mosaic 0 1 3 2)  -- R Gr, Gb B
    (cond (eqb order 1) (mosaic 1 0 2 3)  -- Gr R, B Gb
    (cond (eqb order 2) (mosaic 3 2 0 1)  -- B Gb, Gr R
    (mosaic 2 3 1 0)))  -- Gb B, R Gr

-- what the planes show, by colour
abbrev pub centres_of : ℕ → (ℕ → Sums) → Centres
centres_of order shown = record {
  r = shown (mosaic_of order).r;
  gr = shown (mosaic_of order).gr;
  b = shown (mosaic_of order).b;
  gb = shown (mosaic_of order).gb;
}
