-- What the one walk keeps, and what the functions that it calls make of it: words of inner functions, none of the paper.
use Rattle.std.specs.Prelude.{ℕ, zero, suc, ◌+◌, ◌-◌, ◌*◌, ◌≤◌, ◌≡◌, Bool, true, false, cond, ◌&&◌, eqb, ltb, leb, nat_abs, Result}
use Rattle.laws.specs.First.{some_to}
use Rattle.laws.specs.Signed.{◌⊖◌}
use Rattle.exact.specs.Quotient.{signed_quotient}
use Rattle.verdict.specs.Verdict.{Verdict, ◌⨟◌, refuse_if}
use Rattle.verdict.specs.Answer.{answer_of}
use Rattle.verdict.specs.declared.Refusal.{Refusal}
use Rattle.verdict.specs.declared.Refusal.TheVariants.{Parameter, TooFew, EqualMeans, TooLarge}
use Rattle.gain.specs.Gain.{Curve, out_of_limits, bad_length, bad_ends, too_large}
use Rattle.gain.specs.declared.Point.{Point}
use Rattle.gain.specs.declared.Sums.{Sums}
use Rattle.gain.specs.declared.Peak.{Peak}
use Rattle.gain.specs.declared.Fit.{Fit}
use Rattle.gain.specs.declared.Parts.{Parts}
use Rattle.gain.specs.declared.Gain.{Gain}

-- place i is one of the chosen
abbrev pub is_chosen : ℕ → ℕ → ℕ → Bool
is_chosen first last i = leb first i && leb i last

-- sums of i points at most: each is at most i times its greatest term
pub record Room (i : ℕ) (t : Sums) : Type 0 where
  pub of_x : t.x ≤ 65520 * i
  pub of_y : t.y ≤ 268435456 * i
  pub of_xy : t.xy ≤ 17587891077120 * i
  pub of_xx : t.xx ≤ 4292870400 * i

-- a chosen point is added, another is not
abbrev pub summed : Sums → ℕ → ℕ → Bool → Sums
summed t x y true = record { x = t.x + x; y = t.y + y; xy = t.xy + x * y; xx = t.xx + x * x }
summed t x y false = t

-- a greater variance than any before it is the new top
abbrev pub topped : Peak → ℕ → ℕ → Peak
topped peak y i = cond (ltb peak.top y) (record { top = y; place = i }) peak

-- with a point within limits, the one at i
abbrev pub taken : Fit → ℕ → ℕ → ℕ → Bool → Fit
taken s mean variance i on =
    record { sums = summed s.sums mean variance on; peak = topped s.peak variance i }

-- with the point at i, or 3 where it is out of limits
unfoldable pub with_point : Fit → ℕ → ℕ → ℕ → ℕ → ℕ → Result Fit Refusal
with_point s mean variance i first last =
    answer_of (refuse_if Parameter (out_of_limits mean variance)) (taken s mean variance i (is_chosen first last i))

-- before the first point
abbrev pub nothing_yet : Fit
nothing_yet = record { sums = record { x = 0; y = 0; xy = 0; xx = 0 }; peak = record { top = 0; place = 0 } }

-- after i points: one out of limits leaves all as it was
unfoldable pub fit_to : Curve → ℕ → ℕ → ℕ → Fit
fit_to c first last zero = nothing_yet
fit_to c first last (suc i) =
    cond (out_of_limits (c.mean i) (c.variance i))
    (fit_to c first last i)
    (taken (fit_to c first last i) (c.mean i) (c.variance i) i (is_chosen first last i))

-- some point, chosen or not, is out of limits
abbrev pub some_out : Curve → ℕ → Bool
some_out c n = some_to n (λ (i : ℕ). out_of_limits (c.mean i) (c.variance i))

-- after the last point, or 3 where some point is out of limits
unfoldable pub fit_of : Curve → ℕ → ℕ → Result Fit Refusal
fit_of c first last = answer_of (refuse_if Parameter (some_out c c.count)) (fit_to c first last c.count)

-- a value converts to one point alone
abbrev pub ConvertsBy : {A : Type 0} → (A → Point → Type 0) → (A → Point) → Type 0
ConvertsBy {A} converts point = (x : A) (p : Point) → converts x p → p ≡ point x

-- the numerator and the denominator, of m points with these sums
abbrev pub parts_of : ℕ → Sums → Parts
parts_of m t = record {
  numerator = m * t.xy ⊖ t.x * t.y;
  denominator = nat_abs (m * t.xx ⊖ t.x * t.x);
}

-- 7, 13 and 14 of m points with these parts
abbrev pub parts_verdict : ℕ → Parts → Verdict
parts_verdict m p =
    refuse_if TooFew (ltb m 2)
    ⨟ refuse_if EqualMeans (eqb p.denominator 0)
    ⨟ refuse_if TooLarge (too_large p.numerator p.denominator)

-- the figures of a slope that nothing refuses
abbrev pub gain_from : Parts → ℕ → Gain
gain_from p place = record {
  numerator = p.numerator;
  denominator = p.denominator;
  slope = signed_quotient p.numerator p.denominator;
  saturation = place;
}

unfoldable pub measured_of : ℕ → Parts → ℕ → Result Gain Refusal
measured_of m p place = answer_of (parts_verdict m p) (gain_from p place)

-- what is answered where only the walk, and then 7, 13 and 14 are left to ask
unfoldable pub finished : Curve → ℕ → ℕ → Result Gain Refusal
finished c first last =
    let m = last + 1 - first in
    let s = fit_to c first last c.count in
    refuse_if Parameter (some_out c c.count) ⨟ measured_of m (parts_of m s.sums) s.peak.place

-- all of it: 3 of the list's length and of the ends, and then of its points
unfoldable pub walked_answer : Curve → ℕ → ℕ → Result Gain Refusal
walked_answer c first last =
    refuse_if Parameter (bad_length c.count) ⨟ refuse_if Parameter (bad_ends c.count first last) ⨟ finished c first last
