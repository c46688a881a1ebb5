-- Document 02, e: photon transfer and gain. What `photon_transfer` answers.
use Rattle.std.specs.Prelude.{ℕ, ◌+◌, ◌-◌, ◌^◌, Bool, ◌||◌, List, [], eqb, ltb, leb, ℤ, pos, nat_abs, length, get_or, Result}
use Rattle.std.specs.Float.{binary64}
use Rattle.std.specs.Float.Ieee.{of_bits}
use Rattle.laws.specs.First.{some_to}
use Rattle.laws.specs.Greatest.{first_greatest}
use Rattle.exact.specs.Quotient.{signed_quotient}
use Rattle.verdict.specs.Verdict.{Verdict, ◌⨟◌, refuse_if}
use Rattle.verdict.specs.Answer.{answer_of, Paper, answer_paper, paper_for}
use Rattle.verdict.specs.declared.Refusal.{Refusal}
use Rattle.verdict.specs.declared.Refusal.TheVariants.{Parameter, TooFew, EqualMeans, TooLarge}
use Rattle.gain.specs.Slope.{joint_spread, all_equal}
use Rattle.gain.specs.declared.Point.{Point}
use Rattle.gain.specs.declared.Gain.{Gain}

-- a photon transfer curve, all that is seen of a list of points: how many there are, and of each place, from 0, the mean in sixteenths of a grey level
-- and the variance in sixteenths of one squared. Exposure enters no figure and no refusal
pub record Curve : Type 0 where
  pub count : ℕ
  pub mean : ℕ → ℕ
  pub variance : ℕ → ℕ

-- what is read past the end of a list, where no answer looks
abbrev pub no_point : Point
no_point = record { exposure = 0; mean = 0; variance = 0 }

abbrev pub curve_of : List Point → Curve
curve_of points = record {
  count = length points;
  mean = λ (i : ℕ). (get_or points i no_point).mean;
  variance = λ (i : ℕ). (get_or points i no_point).variance;
}

-- a point that lies as a row of three numbers: exposure, mean, variance
abbrev pub point_of : List ℕ → Point
point_of row = record { exposure = get_or row 0 0; mean = get_or row 1 0; variance = get_or row 2 0 }

-- the curve of a list of such rows (the law `rows_are_points`)
abbrev pub curve_of_rows : List (List ℕ) → Curve
curve_of_rows rows = record {
  count = length rows;
  mean = λ (i : ℕ). (point_of (get_or rows i [])).mean;
  variance = λ (i : ℕ). (point_of (get_or rows i [])).variance;
}

-- a point is out of limits: its mean is above 65,520, or its variance above 2^28
unfoldable pub out_of_limits : ℕ → ℕ → Bool
out_of_limits mean variance = ltb 65520 mean || ltb (2 ^ 28) variance

-- 3, of the list: it is empty or has more than 64 points,
unfoldable pub bad_length : ℕ → Bool
bad_length count = eqb count 0 || ltb 64 count

-- or some point of it, chosen or not, is out of limits
unfoldable pub bad_list : Curve → Bool
bad_list c = bad_length c.count || some_to c.count (λ (i : ℕ). out_of_limits (c.mean i) (c.variance i))

-- 3, of the ends: one is outside a list of so many points, or they are reversed
unfoldable pub bad_ends : ℕ → ℕ → ℕ → Bool
bad_ends count first last = leb count first || (leb count last || ltb last first)

-- the chosen points, from first to last, both included: m = last + 1 − first of them, of which the one at k is at first + k in the list
abbrev pub chosen : Curve → ℕ → ℕ → Curve
chosen c first last = record {
  count = last + 1 - first;
  mean = λ (k : ℕ). c.mean (first + k);
  variance = λ (k : ℕ). c.variance (first + k);
}

-- of chosen points, x being the mean and y the variance: m × Σxy − Σx × Σy, signed
abbrev pub numerator : Curve → ℤ
numerator picked = joint_spread picked.count picked.mean picked.variance

-- and m × Σx² − (Σx)², which is never below 0 (the law `never_negative`), so its size is the number itself
abbrev pub denominator : Curve → ℕ
denominator picked = nat_abs (joint_spread picked.count picked.mean picked.mean)

-- 14: numerator or denominator is 2^53 or more in size (within the limits of 3 only the numerator can be)
unfoldable pub too_large : ℤ → ℕ → Bool
too_large top bottom = leb (2 ^ 53) (nat_abs top) || leb (2 ^ 53) bottom

-- the refusals in their order: 3 of the list and of the ends, 7 where fewer than two points are chosen, 13 where all their means are equal, then 14
unfoldable pub transfer_verdict : Curve → ℕ → ℕ → Verdict
transfer_verdict c first last =
    let picked = chosen c first last in
    refuse_if Parameter (bad_list c)
    ⨟ refuse_if Parameter (bad_ends c.count first last)
    ⨟ refuse_if TooFew (ltb picked.count 2)
    ⨟ refuse_if EqualMeans (all_equal picked.count picked.mean)
    ⨟ refuse_if TooLarge (too_large (numerator picked) (denominator picked))

-- the slope of the chosen points, rounded once, and the saturation: the first place of the greatest variance in the whole list
abbrev pub gain_of : Curve → ℕ → ℕ → Gain
gain_of c first last =
    let picked = chosen c first last in
    record {
      numerator = numerator picked;
      denominator = denominator picked;
      slope = signed_quotient (numerator picked) (denominator picked);
      saturation = first_greatest c.count c.variance;
    }

-- every number 0: what stands beside a refusal
abbrev pub no_gain : Gain
no_gain = record { numerator = pos 0; denominator = 0; slope = of_bits binary64 0; saturation = 0 }

-- the answer: the figures, or the refusal
unfoldable pub transfer_answer : Curve → ℕ → ℕ → Result Gain Refusal
transfer_answer c first last = answer_of (transfer_verdict c first last) (gain_of c first last)

-- the paper's numbers of an answer
abbrev pub paper_of : Result Gain Refusal → Paper Gain
paper_of = answer_paper no_gain

-- the paper's numbers for all inputs
unfoldable pub transfer_paper : Curve → ℕ → ℕ → Paper Gain
transfer_paper c first last = paper_for (transfer_verdict c first last) (gain_of c first last) no_gain
