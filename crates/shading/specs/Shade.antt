-- Document 02 j: how far a block's ratio is off the centre's, and where it is refused.
use Rattle.std.specs.Prelude.{ℕ, ◌*◌, Bool, false, cond, ◌||◌, eqb, ltb, Result, Ok, ℤ, pos, nat_abs, ◌*ℤ◌, ◌-ℤ◌}
use Rattle.std.specs.Result.{result_unwrap_or}
use Rattle.verdict.specs.Verdict.{◌⨟◌, refuse_if, number_of}
use Rattle.verdict.specs.declared.Refusal.{Refusal}
use Rattle.verdict.specs.declared.Refusal.TheVariants.{TooFew, TooDark}
use Rattle.plane.specs.declared.Sums.{Sums}
use Rattle.colour.specs.Colour.{above_black, not_above, ratio_of}
use Rattle.colour.specs.declared.Ratio.{Ratio}
use Rattle.shading.specs.OfRatio.{Tint}
use Rattle.shading.specs.declared.Shade.{Shade}

-- what is seen in one area of a ratio's two planes: of R and Gr, or of B and Gb
abbrev pub tint : Sums → Sums → Tint
tint colour green = record { colour = colour; green = green }

-- their ratio, as in document 01: R over Gr, or B over Gb
abbrev pub ratio_in : ℕ → Tint → Ratio
ratio_in black area = ratio_of black area.colour area.green

-- one of the two planes has no surveyed site in an area
unfoldable pub unseen : Tint → Bool
unseen area = eqb area.colour.count 0 || eqb area.green.count 0

-- 7: in the block or at the centre
abbrev pub too_few : Tint → Tint → Bool
too_few block centre = unseen block || unseen centre

-- 10: T of the green is not above 0 in the block or at the centre, or T of the colour is not at the centre
unfoldable pub too_dark : ℕ → Tint → Tint → Bool
too_dark black block centre =
    not_above (above_black black block.green)
    || (not_above (above_black black centre.green) || not_above (above_black black centre.colour))

-- with a/b in the block and c/d at the centre: c × b, and a × d − c × b
abbrev pub base : Ratio → Ratio → ℤ
base block centre = centre.numerator *ℤ pos block.denominator

abbrev pub offset : Ratio → Ratio → ℤ
offset block centre = block.numerator *ℤ pos centre.denominator -ℤ base block centre

-- |a × d − c × b| over c × b fails where it is above so many sixteenths
unfoldable pub fails : ℕ → ℕ → ℕ → Bool
fails limit numerator denominator = ltb (limit * denominator) (16 * numerator)

abbrev pub shade : ℕ → ℕ → Bool → Shade
shade numerator denominator fail =
    record { numerator = numerator; denominator = denominator; fail = fail }

-- one that is judged; after 10 b, c and d are above 0, so the size of c × b is c × b itself
unfoldable pub judged_shade : ℕ → Ratio → Ratio → Shade
judged_shade limit block centre =
    let numerator = nat_abs (offset block centre) in
    let denominator = nat_abs (base block centre) in
    shade numerator denominator (fails limit numerator denominator)

-- by what is seen in the block and at the centre: 7, then 10
unfoldable pub shade_of : ℕ → ℕ → Tint → Tint → Result Shade Refusal
shade_of black limit block centre =
    refuse_if TooFew (too_few block centre)
    ⨟ refuse_if TooDark (too_dark black block centre)
    ⨟ Ok (judged_shade limit (ratio_in black block) (ratio_in black centre))

-- the four numbers that are written of a block and ratio
pub record Written : Type 0 where
  pub number : ℕ
  pub numerator : ℕ
  pub denominator : ℕ
  pub fail : ℕ

abbrev pub no_shade : Shade
no_shade = shade 0 0 false

-- 0 and its figures, with 1 where it fails, else 0; of one that is refused the refusal's number, and every other number 0
abbrev pub written_of : Result Shade Refusal → Written
written_of told =
    let s = result_unwrap_or told no_shade in
    record { number = number_of told; numerator = s.numerator; denominator = s.denominator; fail = cond s.fail 1 0 }
