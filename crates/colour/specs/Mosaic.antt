-- One thing for each colour: the plane that has it, and what is seen in that plane's centre.
use Rattle.std.specs.Prelude.{ℕ}
use Rattle.plane.specs.declared.Sums.{Sums}
use Rattle.colour.specs.declared.ByColour.{ByColour}

abbrev pub Mosaic : Type 0
Mosaic = ByColour ℕ

abbrev pub Centres : Type 0
Centres = ByColour Sums
