-- Document 01, "Defective sites", "Repair": the sites of a site's own plane around it.
use Rattle.std.specs.Prelude.{ℕ, ◌+◌, ◌-◌}
use Rattle.plane.specs.Plane.{plane_of, plane_row, plane_column, box_sum}
use Rattle.plane.specs.declared.PlaneBox.{PlaneBox}

-- at most `reach` rows and `reach` columns from a site of a window w wide
abbrev pub around : ℕ → ℕ → ℕ → PlaneBox
around reach w i = record {
  top = plane_row w i - reach;
  bottom = plane_row w i + reach + 1;
  left = plane_column w i - reach;
  right = plane_column w i + reach + 1;
}

-- a view summed over these sites of its plane, cut off at the plane's edges
unfoldable pub near_sum : ℕ → ℕ → ℕ → (ℕ → ℕ) → ℕ → ℕ
near_sum reach w h view i = box_sum w h (plane_of w i) (around reach w i) view
