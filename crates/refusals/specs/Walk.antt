-- Of which sites the laws of 6 speak, where mask and frame have these lengths.
use Rattle.std.specs.Prelude.{ℕ, cond, not, ◌||◌, eqb}
use Rattle.window.specs.Shape.{bad_scale}
use Rattle.window.specs.Walk.{walked}

-- all sites of the window, where full scale is legal and a mask and a frame of these lengths both have just as many, or none
unfoldable pub ranged : ℕ → ℕ → ℕ → ℕ → ℕ → ℕ
ranged w h full mask frame = cond (bad_scale full || not (eqb mask frame)) 0 (walked w h mask)
