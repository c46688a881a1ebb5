-- One thing for each of a ratio's two planes: which they are, and what is seen of them in one area.
use Rattle.std.specs.Prelude.{ℕ}
use Rattle.plane.specs.declared.Sums.{Sums}
use Rattle.shading.specs.declared.OfRatio.{OfRatio}

abbrev pub Planes : Type 0
Planes = OfRatio ℕ

abbrev pub Tint : Type 0
Tint = OfRatio Sums
