-- Document 01, "What the bench does", "Refusal numbers": the sides of a window, its full scale, and a stack's count of frames.
use Rattle.std.specs.Prelude.{ℕ, ◌*◌, ◌%◌, Bool, not, cond, ◌||◌, eqb, ltb}

-- odd, or not in 2..128
unfoldable pub bad_side : ℕ → Bool
bad_side side = not (eqb (side % 2) 0) || (ltb side 2 || ltb 128 side)

unfoldable pub bad_sides : ℕ → ℕ → Bool
bad_sides w h = bad_side w || bad_side h

-- not in 1..4095
unfoldable pub bad_scale : ℕ → Bool
bad_scale full = eqb full 0 || ltb 4095 full

-- a frame count that no figure of a stack has: 0, or above 100
unfoldable pub bad_count : ℕ → Bool
bad_count k = eqb k 0 || ltb 100 k

-- how many sites a window has; sides that no window has make none
unfoldable pub sites_of : ℕ → ℕ → ℕ
sites_of w h = cond (bad_sides w h) 0 (h * w)
