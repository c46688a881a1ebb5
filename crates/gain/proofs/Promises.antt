-- What is promised of `photon_transfer`, for any list of points and any two ends.
use Prim.Native.Nat.{ℕ, zero, suc, ◌+◌, ◌-◌, ◌*◌, ◌^◌, ◌≤◌, ◌<◌}
use mathlib.Core.Bool.{false, or-false}
use mathlib.Core.List.{List, [], ◌∷◌, map}
use mathlib.Core.Logic.{⊎_elim}
use mathlib.Core.Path.{◌≡◌, refl, sym, ap, ◌∙◌}
use native.Mathlib.Nat.{add-zero, le_trans}
use native.Mathlib.Omega.{arith}
use lib.Dec.{ltb, leb}
use lib.Ieee.{binary64, of_bits}
use lib.IntN.{ℤ, pos, nat_abs, ◌*ℤ◌}
use lib.ListN.{length, get_or, length-map, get_or-eq_default}
use borrow.Author.Tests.{ltb-false, leb-false, eqb-false, lt-leb}
use Rattle.laws.specs.Greatest.{first_greatest}
use Rattle.laws.specs.Signed.{◌⊖◌}
use Rattle.laws.proofs.Cases.{lt_or_ge, neither, times_le}
use Rattle.laws.proofs.Firsts.{nowhere_first}
use Rattle.laws.proofs.Greatests.{LeadsAt, first_greatest_is, first_greatest_ext}
use Rattle.laws.proofs.Sole.{Sole, sole}
use Rattle.exact.specs.Bound.{without_sign, CloseTo}
use Rattle.exact.specs.Quotient.{signed_quotient}
use Rattle.exact.proofs.Quotients.{quotient_close, without_sign_lem, signed_plain, quotient-zero, zero_bits}
use Rattle.verdict.specs.Verdict.{Verdict, clear, refuse_if}
use Rattle.verdict.specs.Answer.{answer_of}
use Rattle.verdict.proofs.Verdicts.{Test, Tabled, Passed, past, end, Refuses, test, tabled, refuses, never_placed, then_same, unless, clear_then, clear_unless}
use Rattle.verdict.proofs.Answers.{was_accepted}
use Rattle.verdict.specs.declared.Refusal.TheVariants.{Parameter, TooFew, EqualMeans, TooLarge}
use Rattle.std.specs.Prelude.{Result, Ok, Err}
use Rattle.verdict.specs.declared.Refusal.{Refusal}
use Rattle.gain.specs.Slope.{joint_spread, all_equal}
use Rattle.gain.specs.Gain.{Curve, no_point, curve_of, curve_of_rows, out_of_limits, bad_list, bad_ends, chosen, numerator, denominator, too_large, transfer_verdict, gain_of, no_gain, transfer_answer, paper_of, transfer_paper}
use Rattle.gain.specs.declared.Point.{Point}
use Rattle.gain.specs.declared.Gain.{Gain}
use Rattle.gain.proofs.Slopes as slopes
use Rattle.gain.proofs.Walks.{Legal, legal, limits, paper_of_lem, same_curve}

-- what holds from first to last holds of each chosen point
to_chosen : (first last : ℕ) (P : ℕ → Type 0) → ((i : ℕ) → first ≤ i → i ≤ last → P i) → (k : ℕ) → k < last + 1 - first → P (first + k)
to_chosen first last P h k l = h (first + k) (omega arith) (omega arith)

-- the means from first to last are all equal
abbrev pub OneMean : Curve → ℕ → ℕ → Type 0
OneMean c first last = (i j : ℕ) → first ≤ i → i ≤ last → first ≤ j → j ≤ last → c.mean i ≡ c.mean j

-- never_negative: m × Σx² − (Σx)² is never below 0, so the denominator is that number itself
pub never_negative : (c : Curve) → joint_spread c.count c.mean c.mean ≡ pos (denominator c)
never_negative c = slopes.never_negative c.count c.mean

-- ---- what is answered
module _ (c : Curve) (first last : ℕ) where
  abbrev picked : Curve
  picked = chosen c first last

  -- the tests in the order of document 02, e
  abbrev pub tests : List Test
  tests =
      test Parameter (bad_list c)
      ∷ test Parameter (bad_ends c.count first last)
      ∷ test TooFew (ltb picked.count 2)
      ∷ test EqualMeans (all_equal picked.count picked.mean)
      ∷ test TooLarge (too_large (numerator picked) (denominator picked))
      ∷ []

  -- given: 3, 7, 13 and 14 exactly as tabled, in that order
  pub given : Tabled (transfer_verdict c first last) tests
  unfolding transfer_verdict
  given = tabled _ (_ ∷ _ ∷ _ ∷ _ ∷ [])

  -- only: no second answer meets the promise
  pub only : Sole (transfer_answer c first last)
  only = sole _

  -- the paper's numbers are those of the answer
  pub paper_is : paper_of (transfer_answer c first last) ≡ transfer_paper c first last
  paper_is = paper_of_lem c first last

  -- refused: where the number is not 0 every figure is 0, and where it is 0 so is the place
  pub refused : Refuses (transfer_paper c first last).number (transfer_paper c first last).place ((transfer_paper c first last).figures ≡ no_gain)
  unfolding transfer_paper
  refused = refuses (transfer_verdict c first last) given refl (λ r e. rw e)

  -- no refusal has a place: it is always 0
  pub no_place : (transfer_paper c first last).place ≡ 0
  unfolding transfer_paper
  no_place = never_placed (transfer_verdict c first last) given refl

  -- flat: the denominator is 0 exactly where the chosen means are all equal, which is what 13 refuses
  pub flat : (denominator picked ≡ 0 → OneMean c first last) × (OneMean c first last → denominator picked ≡ 0)
  flat = (
    λ e i j p q r s.
        let same : c.mean (first + (i - first)) ≡ c.mean (first + (j - first)) = slopes.zero_equal _ picked.mean e (i - first) (j - first) (omega arith) (omega arith) in
        let of-i : first + (i - first) ≡ i = omega arith in
        let of-j : first + (j - first) ≡ j = omega arith in
        rw (of-i, of-j) at same,
    λ same. slopes.equal_zero _ picked.mean (λ k n p q. same (first + k) (first + n) (omega arith) (omega arith) (omega arith) (omega arith)),
  )

  -- level: where the chosen variances are all equal the numerator is 0
  pub level : (v : ℕ) → ((i : ℕ) → first ≤ i → i ≤ last → c.variance i ≡ v) → numerator picked ≡ pos 0
  level v same = slopes.spread_level picked.count v picked.mean picked.variance (to_chosen first last (λ (i : ℕ). c.variance i ≡ v) same)

  -- ---- where 3 does not refuse
  module _ (list : bad_list c ≡ false) (ends : bad_ends c.count first last ≡ false) where
    within : Legal c first last
    within = legal c first last (clear_then (clear_unless _ list) (clear_unless _ ends))

    point : (k : ℕ) → k < picked.count → (picked.mean k ≤ 65520) × (picked.variance k ≤ 268435456)
    point k l = limits (picked.mean k) (picked.variance k) (within.fine (first + k) (omega (arith, within.ends.inside)))

    -- in_limits: the denominator is at most 4,395,899,289,600, so below 2^53; the numerator at most 72,040,001,851,883,520 in size, so below 2^63
    pub in_limits : (denominator picked ≤ 4395899289600) × (denominator picked < 2 ^ 53)
        × (nat_abs (numerator picked) ≤ 72040001851883520) × (nat_abs (numerator picked) < 2 ^ 63)
    in_limits =
        let m = picked.count in
        let few : m ≤ 64 = omega (arith, within.ends.few, within.ends.inside) in
        let bottom : denominator picked ≤ 4395899289600 =
        omega (arith, slopes.spread_quarter m picked.mean 65520 (λ k l. (point k l).0), times_le (m * 65520) (m * 65520) 4193280 4193280 (omega arith) (omega arith)) in
        let top : nat_abs (numerator picked) ≤ 72040001851883520 =
        le_trans (slopes.spread_most m 65520 268435456 picked.mean picked.variance (λ k l. (point k l).0) (λ k l. (point k l).1))
        (times_le (m * 65520) (m * 268435456) 4193280 17179869184 (omega arith) (omega arith)) in
        (bottom, omega arith, top, omega arith)

    -- spare: so only the numerator's size decides 14
    pub spare : too_large (numerator picked) (denominator picked) ≡ leb (2 ^ 53) (nat_abs (numerator picked))
    unfolding too_large
    spare = rw (lt-leb (2 ^ 53) (denominator picked) in_limits.1) (or-false _)

-- ---- of an accepted call
module _ (c : Curve) (first last : ℕ) where
  record Accepted : Type 0 where
    list : bad_list c ≡ false
    ends : bad_ends c.count first last ≡ false
    two : 2 ≤ last + 1 - first
    some : 0 < denominator (chosen c first last)
    small : nat_abs (numerator (chosen c first last)) < 2 ^ 53

  accepted : transfer_verdict c first last ≡ clear → Accepted
  unfolding too_large
  accepted e = by ((given c first last).clear e)
    where
      by : Passed (tests c first last) → Accepted
      by (past list (past ends (past two (past unequal (past small end))))) = record {
        list = list;
        ends = ends;
        two = ltb-false (last + 1 - first) 2 two;
        some = let other = eqb-false (denominator (chosen c first last)) 0 (slopes.zero_is_equal (last + 1 - first) (chosen c first last).mean ∙ unequal) in omega arith;
        small = leb-false (2 ^ 53) _ (neither _ _ small).0;
      }

module _ (c : Curve) (first last : ℕ) (g : Gain) (answer : transfer_answer c first last ≡ Ok g) where
  told : Accepted c first last × (g ≡ gain_of c first last)
  unfolding transfer_answer
  told =
      let was = was_accepted (transfer_verdict c first last) answer in
      (accepted c first last was.0, sym was.1)

  passed : Accepted c first last
  passed = told.0

  -- counts: at least two points are chosen and at most 64, and all are of the list
  pub counts : (2 ≤ last + 1 - first) × (last + 1 - first ≤ 64) × (last < c.count)
  counts =
      let w = within c first last passed.list passed.ends in
      (passed.two, omega (arith, w.ends.few, w.ends.inside), w.ends.inside)

  -- limited: the list has at most 64 points, and each of them, chosen or not, is within limits
  pub limited : (c.count ≤ 64) × ((i : ℕ) → i < c.count → (c.mean i ≤ 65520) × (c.variance i ≤ 268435456))
  limited =
      let w = within c first last passed.list passed.ends in
      (w.ends.few, λ i l. limits (c.mean i) (c.variance i) (w.fine i l))

  -- whole_numbers: numerator and denominator are those of the definition, unreduced, and the denominator is above 0
  pub whole_numbers : (g.numerator ≡ numerator (chosen c first last)) × (g.denominator ≡ denominator (chosen c first last)) × (0 < g.denominator)
  whole_numbers = rw told.1 (refl, refl, passed.some)

  -- in_range: the numerator is below 2^53 in size, and the denominator at most 4,395,899,289,600
  pub in_range : (nat_abs g.numerator < 2 ^ 53) × (g.denominator ≤ 4395899289600)
  in_range = rw told.1 (passed.small, (in_limits c first last passed.list passed.ends).0)

  slope_is : g.slope ≡ signed_quotient g.numerator g.denominator
  slope_is = rw told.1

  -- near: the slope has the sign of the numerator, and is within one part in 2^53 of the exact fraction
  pub near : CloseTo (2 ^ 53) (without_sign g.numerator g.slope) (nat_abs g.numerator) g.denominator
  near =
      rw (slope_is, without_sign_lem g.numerator g.denominator)
      (quotient_close _ _ (record { top = omega (arith, in_range.0); some = whole_numbers.2; bottom = omega (arith, in_range.1) }))

  -- none: where the numerator is 0 the slope is +0
  pub none : g.numerator ≡ pos 0 → g.slope ≡ of_bits binary64 0
  none z = rw (slope_is, z) (signed_plain 0 g.denominator ∙ quotient-zero g.denominator whole_numbers.2 ∙ sym zero_bits)

  -- saturates: the saturation is a place of the list; no variance of the list is above the one there, and each before it is below that
  pub saturates : LeadsAt c.variance c.count g.saturation
  saturates = rw told.1 (first_greatest_is c.variance c.count (omega (arith, counts.2)))

-- ---- what changes no answer
-- no point of a list is out of limits
abbrev pub AllInLimits : Curve → Type 0
AllInLimits c = (i : ℕ) → i < c.count → out_of_limits (c.mean i) (c.variance i) ≡ false

-- two lists of as many points, none out of limits
pub record BothInLimits (c d : Curve) : Type 0 where
  pub long : c.count ≡ d.count
  pub of_c : AllInLimits c
  pub of_d : AllInLimits d

-- the same mean and variance in both at place i, whatever the exposure
abbrev pub SameAt : Curve → Curve → ℕ → Type 0
SameAt c d i = (c.mean i ≡ d.mean i) × (c.variance i ≡ d.variance i)

-- slopes of the same numerator and denominator
abbrev SameParts : Curve → Curve → Type 0
SameParts p q = (numerator p ≡ numerator q) × (denominator p ≡ denominator q)

module _ (c d : Curve) (first last : ℕ) (both : BothInLimits c d) where
  same_list : bad_list c ≡ bad_list d
  unfolding bad_list
  same_list = rw (nowhere_first _ c.count both.of_c, nowhere_first _ d.count both.of_d, both.long)

  module _ (parts : last < c.count → SameParts (chosen c first last) (chosen d first last)) where
    same_verdict : transfer_verdict c first last ≡ transfer_verdict d first last
    unfolding transfer_verdict too_large
    same_verdict =
        rw (same_list, ap (λ (n : ℕ). bad_ends n first last) both.long)
        (then_same (refuse_if Parameter (bad_list d)) (λ p. then_same (refuse_if Parameter (bad_ends d.count first last)) (λ q.
        let same = parts (omega (arith, both.long, (within d first last (unless _ _ p) (unless _ _ q)).ends.inside)) in
        rw (
          ← slopes.zero_is_equal (last + 1 - first) (chosen c first last).mean,
          ← slopes.zero_is_equal (last + 1 - first) (chosen d first last).mean,
          same.0,
          same.1,
        ))))

    -- so what is told of both answers is one where it is one of both figures
    same_answer : (tell : Result Gain Refusal → Result Gain Refusal) → (last < c.count → tell (Ok (gain_of c first last)) ≡ tell (Ok (gain_of d first last)))
        → tell (transfer_answer c first last) ≡ tell (transfer_answer d first last)
    unfolding transfer_answer
    same_answer tell same =
        rw (← same_verdict)
        (by (transfer_verdict c first last) (λ e. let a = accepted c first last e in same (within c first last a.list a.ends).ends.inside))
      where
        by : (v : Verdict) → (v ≡ clear → tell (Ok (gain_of c first last)) ≡ tell (Ok (gain_of d first last)))
            → tell (answer_of v (gain_of c first last)) ≡ tell (answer_of v (gain_of d first last))
        by (Ok _) f = f refl
        by (Err r) f = refl

-- an answer whose saturation is left out
abbrev pub except_saturation : Result Gain Refusal → Result Gain Refusal
except_saturation (Ok g) = Ok (record { numerator = g.numerator; denominator = g.denominator; slope = g.slope; saturation = 0 })
except_saturation (Err r) = Err r

-- two lists that agree from first to last
pub record AgreeBetween (c d : Curve) (first last : ℕ) : Type 0 where
  pub both : BothInLimits c d
  pub same : (i : ℕ) → first ≤ i → i ≤ last → SameAt c d i

-- local: points that are not chosen change nothing but the saturation, as long as none is out of limits
pub local : (c d : Curve) (first last : ℕ) → AgreeBetween c d first last
    → except_saturation (transfer_answer c first last) ≡ except_saturation (transfer_answer d first last)
local c d first last a = same_answer c d first last a.both (λ _. parts) except_saturation (λ _. rw (parts.0, parts.1))
  where
    at : (k : ℕ) → k < last + 1 - first → SameAt c d (first + k)
    at = to_chosen first last (SameAt c d) a.same

    parts : SameParts (chosen c first last) (chosen d first last)
    parts = (
      slopes.spread_ext (last + 1 - first) _ _ _ _ (λ k l. (at k l).0) (λ k l. (at k l).1),
      ap nat_abs (slopes.spread_ext (last + 1 - first) _ _ _ _ (λ k l. (at k l).0) (λ k l. (at k l).0)),
    )

-- two lists with the same variances, where from first to last one constant, up less down, is added to the means
pub record MovedBetween (c d : Curve) (first last up down : ℕ) : Type 0 where
  pub both : BothInLimits c d
  pub mean : (i : ℕ) → first ≤ i → i ≤ last → d.mean i + down ≡ c.mean i + up
  pub variance : (i : ℕ) → i < c.count → c.variance i ≡ d.variance i

-- shifted: one constant added to every chosen mean changes no answer, so taking the dark level off does not change the gain
pub shifted : (c d : Curve) (first last up down : ℕ) → MovedBetween c d first last up down → transfer_answer c first last ≡ transfer_answer d first last
shifted c d first last up down a =
    same_answer c d first last a.both parts (λ (t : Result Gain Refusal). t) (λ l. rw ((parts l).0, (parts l).1, place))
  where
    moved : slopes.Moved (last + 1 - first) up down (chosen c first last).mean (chosen d first last).mean
    moved = to_chosen first last (λ (i : ℕ). d.mean i + down ≡ c.mean i + up) a.mean

    parts : last < c.count → SameParts (chosen c first last) (chosen d first last)
    parts l = (
      slopes.spread_ext (last + 1 - first) _ _ _ _ (λ k _. refl) (λ k h. a.variance (first + k) (omega arith))
          ∙ sym (slopes.spread_moved (last + 1 - first) up down _ _ moved _),
      ap nat_abs (sym (slopes.moved_both (last + 1 - first) up down _ _ moved)),
    )

    place : first_greatest c.count c.variance ≡ first_greatest d.count d.variance
    place =
        first_greatest_ext c.count c.variance d.variance a.variance
        ∙ ap (λ (n : ℕ). first_greatest n d.variance) a.both.long

-- ---- lists
-- exposure: lists that differ in their exposures alone have the same answer. The fields are written out, so that no other reading of a point meets this
pub exposure : (points others : List Point) (first last : ℕ)
    → length points ≡ length others
    → ((i : ℕ) → i < length points → ((get_or points i no_point).mean ≡ (get_or others i no_point).mean) × ((get_or points i no_point).variance ≡ (get_or others i no_point).variance))
    → transfer_answer (curve_of points) first last ≡ transfer_answer (curve_of others) first last
exposure points others first last long same =
    ap (λ (c : Curve). transfer_answer c first last)
    (same_curve (curve_of points) (curve_of others) long (λ i. ⊎_elim (same i) (past_end i) (lt_or_ge i (length points))))
  where
    past_end : (i : ℕ) → length points ≤ i → SameAt (curve_of points) (curve_of others) i
    past_end i l =
        let none : get_or points i no_point ≡ get_or others i no_point = get_or-eq_default points no_point l ∙ sym (get_or-eq_default others no_point (omega arith)) in
        (ap (λ (p : Point). p.mean) none, ap (λ (p : Point). p.variance) none)

-- points as rows of three numbers
abbrev pub rows_of : List Point → List (List ℕ)
rows_of points = map (λ (p : Point). p.exposure ∷ p.mean ∷ p.variance ∷ []) points

-- rows_are_points: they are read as the points
pub rows_are_points : (points : List Point) → curve_of_rows (rows_of points) ≡ curve_of points
rows_are_points points = same_curve (curve_of_rows (rows_of points)) (curve_of points) (length-map points _) (row points)
  where
    row : (points : List Point) (i : ℕ) → SameAt (curve_of_rows (rows_of points)) (curve_of points) i
    row [] i = (refl, refl)
    row (p ∷ points) zero = (refl, refl)
    row (p ∷ points) (suc i) = row points i

-- ---- two points next to each other
module _ (c : Curve) (first : ℕ) where
  -- what their means and their variances differ by
  abbrev run : ℤ
  run = c.mean (first + 1) ⊖ c.mean first

  abbrev rise : ℤ
  rise = c.variance (first + 1) ⊖ c.variance first

  two : first + 1 + 1 - first ≡ 2
  two = omega arith

  -- two_points: the slope is rise / run, exactly: the numerator is run × rise and the denominator run × run
  pub two_points : (numerator (chosen c first (first + 1)) ≡ run *ℤ rise)
      × (pos (denominator (chosen c first (first + 1))) ≡ run *ℤ run)
      × (numerator (chosen c first (first + 1)) *ℤ run ≡ rise *ℤ pos (denominator (chosen c first (first + 1))))
  two_points =
      let x = (chosen c first (first + 1)).mean in
      let y = (chosen c first (first + 1)).variance in
      rw (← never_negative (chosen c first (first + 1)), two, ← ap c.mean (add-zero first), ← ap c.variance (add-zero first))
      (slopes.spread_two x y, slopes.spread_two x x, slopes.two_slope x y)
