-- The refusals' numbers fit a byte.
use Prim.Native.Nat.{◌≤◌}
use native.Mathlib.Omega.{arith}
use Rattle.verdict.specs.Numbers.{refusal_number}
use Rattle.verdict.specs.declared.Refusal.{Refusal}
use Rattle.verdict.specs.declared.Refusal.TheVariants.{Sides, FullScale, Parameter, Length, Code, Over, TooFew, Unsurveyed, TooSmall, TooDark, Impossible, StackFull, EqualMeans, TooLarge, Cut, OtherTag, OtherLength, Extra, TooWide}

-- no refusal has a number above 24
pub number_low : (r : Refusal) → refusal_number r ≤ 24
number_low Sides = omega arith
number_low FullScale = omega arith
number_low Parameter = omega arith
number_low Length = omega arith
number_low (Code _) = omega arith
number_low (Over _ _) = omega arith
number_low TooFew = omega arith
number_low Unsurveyed = omega arith
number_low TooSmall = omega arith
number_low TooDark = omega arith
number_low Impossible = omega arith
number_low StackFull = omega arith
number_low EqualMeans = omega arith
number_low TooLarge = omega arith
number_low (Cut _) = omega arith
number_low (OtherTag _) = omega arith
number_low (OtherLength _) = omega arith
number_low (Extra _) = omega arith
number_low TooWide = omega arith
