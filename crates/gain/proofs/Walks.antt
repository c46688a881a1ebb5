-- What the walk keeps after i points is what the definition says of them, and so what is made of it at the end is the answer.
use Prim.Native.Nat.{ℕ, zero, suc, ◌+◌, ◌-◌, ◌*◌, ◌^◌, ◌≤◌, ◌<◌}
use mathlib.Core.Bool.{Bool, true, false, cond, ◌||◌}
use mathlib.Core.List.{List, [], map}
use mathlib.Core.Logic.{⊎_elim}
use mathlib.Core.Path.{◌≡◌, refl, sym, ap, ap₂, ◌∙◌, subst}
use native.Mathlib.Nat.{add-zero, le_refl, pos_of_ne-zero}
use native.Mathlib.Numerals.{add-one}
use native.Mathlib.Omega.{arith}
use lib.Dec.{eqb, ltb, leb}
use lib.IntN.{nat_abs}
use lib.ListN.{length, get_or, length-map}
use Rattle.std.proofs.Math.ListN as listn
use Rattle.std.proofs.lemmas.List.{get_or-map}
use borrow.Author.Tests.{ltb-false, leb-false, eqb-false, lt-ltb, le-leb, lt-leb}
use Rattle.laws.specs.Greatest.{first_greatest}
use Rattle.laws.specs.Sum.{sum_to, sum_in}
use Rattle.laws.proofs.Cases.{true_or_false, neither, not_both, times_le}
use Rattle.laws.proofs.Firsts.{some_more, first_nowhere}
use Rattle.laws.proofs.Greatests.{LeadsAt, leads_one, leads_more, leads_is}
use Rattle.laws.proofs.Sums.{sum_ext, sum-zero, range}
use Rattle.verdict.specs.Verdict.{Verdict, clear, ◌⨟◌, refuse_if}
use Rattle.verdict.specs.Answer.{answer_of}
use Rattle.verdict.proofs.Verdicts.{then_assoc, then_clear, then_same, unless}
use Rattle.verdict.proofs.Answers.{answer_then, was_accepted, paper_is_told}
use Rattle.verdict.specs.declared.Refusal.TheVariants.{Parameter, TooFew, EqualMeans, TooLarge}
use Rattle.std.specs.Prelude.{Result, Ok, Err}
use Rattle.verdict.specs.declared.Refusal.{Refusal}
use Rattle.gain.specs.Gain.{Curve, no_point, curve_of, point_of, curve_of_rows, out_of_limits, bad_length, bad_list, bad_ends, chosen, numerator, denominator, too_large, transfer_verdict, gain_of, no_gain, transfer_answer, paper_of, transfer_paper}
use Rattle.gain.specs.Slope.{joint_spread, all_equal}
use Rattle.gain.specs.Walk.{is_chosen, Room, summed, topped, taken, with_point, fit_to, some_out, fit_of, parts_of, parts_verdict, measured_of, finished, walked_answer}
use Rattle.gain.specs.declared.Fit.{Fit}
use Rattle.gain.specs.declared.Parts.{Parts}
use Rattle.gain.specs.declared.Point.{Point}
use Rattle.gain.specs.declared.Peak.{Peak}
use Rattle.gain.specs.declared.Sums.{Sums}
use Rattle.gain.proofs.Slopes.{zero_is_equal}

-- ---- what 3 leaves
-- of a list's length and the ends
pub record Reached (count first last : ℕ) : Type 0 where
  pub few : count ≤ 64
  pub forward : first ≤ last
  pub inside : last < count

-- so it is where neither is bad
pub reached : (count first last : ℕ) → bad_length count ≡ false → bad_ends count first last ≡ false → Reached count first last
unfolding bad_length bad_ends
reached count first last e f =
    let ends = neither (leb count last) (ltb last first) (neither (leb count first) _ f).1 in
    record {
      few = ltb-false 64 count (neither (eqb count 0) (ltb 64 count) e).1;
      forward = ltb-false last first ends.1;
      inside = leb-false count last ends.0;
    }

-- ---- what 7, 13 and 14 leave
pub parts_clear : (m : ℕ) (p : Parts) → parts_verdict m p ≡ clear
    → (nat_abs p.numerator ≤ 2 ^ 53) × (0 < p.denominator) × (p.denominator ≤ 2 ^ 53)
unfolding too_large
parts_clear m p e =
    let rest = then_clear _ _ (then_clear _ _ e).1 in
    let small = neither (leb (2 ^ 53) (nat_abs p.numerator)) (leb (2 ^ 53) p.denominator) (unless _ _ rest.1) in (
      omega (arith, leb-false (2 ^ 53) (nat_abs p.numerator) small.0),
      pos_of_ne-zero (eqb-false p.denominator 0 (unless _ _ rest.0)),
      omega (arith, leb-false (2 ^ 53) p.denominator small.1),
    )

-- ---- the sums have room
pub limits : (x y : ℕ) → out_of_limits x y ≡ false → (x ≤ 65520) × (y ≤ 268435456)
unfolding out_of_limits
limits x y e = let both = neither (ltb 65520 x) (ltb (2 ^ 28) y) e in (ltb-false 65520 x both.0, ltb-false 268435456 y both.1)

-- for more points there is more
room_grows : (i j : ℕ) (t : Sums) → i ≤ j → Room i t → Room j t
room_grows i j t l r =
    record { of_x = omega (arith, r.of_x); of_y = omega (arith, r.of_y); of_xy = omega (arith, r.of_xy); of_xx = omega (arith, r.of_xx) }

-- one more takes at most what is there for it
room_more : (i x y : ℕ) (t : Sums) (on : Bool) → x ≤ 65520 → y ≤ 268435456 → Room i t → Room (suc i) (summed t x y on)
room_more i x y t true p q r = record {
  of_x = omega (arith, r.of_x);
  of_y = omega (arith, r.of_y);
  of_xy = omega (arith, r.of_xy, times_le x y 65520 268435456 p q);
  of_xx = omega (arith, r.of_xx, times_le x x 65520 65520 p p);
}
room_more i x y t false p q r = room_grows i (suc i) t (omega arith) r

module _ (c : Curve) (first last : ℕ) where
  abbrev at : ℕ → Fit
  at i = fit_to c first last i

  abbrev out : ℕ → Bool
  out i = out_of_limits (c.mean i) (c.variance i)

  room : (i : ℕ) → Room i (at i).sums
  unfolding fit_to
  room zero = record { of_x = omega arith; of_y = omega arith; of_xy = omega arith; of_xx = omega arith }
  room (suc i) = by (out i) (limits (c.mean i) (c.variance i)) (room i)
    where
      by : (b : Bool) → (b ≡ false → (c.mean i ≤ 65520) × (c.variance i ≤ 268435456)) → Room i (at i).sums
          → Room (suc i) (cond b (at i) (taken (at i) (c.mean i) (c.variance i) i (is_chosen first last i))).sums
      by true f r = room_grows i (suc i) (at i).sums (omega arith) r
      by false f r = room_more i (c.mean i) (c.variance i) (at i).sums (is_chosen first last i) (f refl).0 (f refl).1 r

  -- so there is for a whole list that is not too long
  pub room_left : (i : ℕ) → i ≤ 64 → Room 64 (at i).sums
  room_left i h = room_grows i 64 (at i).sums h (room i)

  -- ---- sums over the chosen of the first i points
  abbrev pick : (ℕ → ℕ) → ℕ → ℕ
  pick f k = cond (is_chosen first last k) (f k) 0

  abbrev picked : ℕ → Sums
  picked i = record {
    x = sum_to i (pick c.mean);
    y = sum_to i (pick c.variance);
    xy = sum_to i (pick (λ (k : ℕ). c.mean k * c.variance k));
    xx = sum_to i (pick (λ (k : ℕ). c.mean k * c.mean k));
  }

  picked_more : (i : ℕ) → summed (picked i) (c.mean i) (c.variance i) (is_chosen first last i) ≡ picked (suc i)
  unfolding sum_to
  picked_more i = by (is_chosen first last i)
    where
      by : (b : Bool) → summed (picked i) (c.mean i) (c.variance i) b ≡ record {
        x = (picked i).x + cond b (c.mean i) 0;
        y = (picked i).y + cond b (c.variance i) 0;
        xy = (picked i).xy + cond b (c.mean i * c.variance i) 0;
        xx = (picked i).xx + cond b (c.mean i * c.mean i) 0;
      }
      by true = refl
      by false = simp add-zero

  sums_are : (n : ℕ) → ((i : ℕ) → i < n → out i ≡ false) → (i : ℕ) → i ≤ n → (at i).sums ≡ picked i
  unfolding fit_to sum_to
  sums_are n fine zero h = refl
  sums_are n fine (suc i) h =
      rw (fine i h)
      (ap (λ (t : Sums). summed t (c.mean i) (c.variance i) (is_chosen first last i)) (sums_are n fine i (omega arith)) ∙ picked_more i)

  -- the top is the variance at its place, which leads
  abbrev Tops : ℕ → Peak → Type 0
  Tops i p = LeadsAt c.variance i p.place × (p.top ≡ c.variance p.place)

  tops_more : (i : ℕ) (p : Peak) → Tops i p → Tops (suc i) (topped p (c.variance i) i)
  tops_more i p t =
      by (ltb p.top (c.variance i))
      (subst (λ (v : ℕ). LeadsAt c.variance (suc i) (cond (ltb v (c.variance i)) i p.place)) (sym t.1) (leads_more c.variance i p.place t.0))
    where
      by : (b : Bool) → LeadsAt c.variance (suc i) (cond b i p.place) → Tops (suc i) (cond b (record { top = c.variance i; place = i }) p)
      by true l = (l, refl)
      by false l = (l, t.1)

  tops_one : (v : ℕ) → c.variance 0 ≡ v → Tops 1 (topped (record { top = 0; place = 0 }) v 0)
  tops_one zero e = (leads_one c.variance, sym e)
  tops_one (suc v) e = rw (lt-ltb 0 (suc v) (omega arith)) (leads_one c.variance, sym e)

  tops : (n : ℕ) → ((i : ℕ) → i < n → out i ≡ false) → (i : ℕ) → suc i ≤ n → Tops (suc i) (at (suc i)).peak
  unfolding fit_to
  tops n fine zero h = rw (fine 0 h) (tops_one (c.variance 0) refl)
  tops n fine (suc i) h = rw (fine (suc i) h) (tops_more (suc i) (at (suc i)).peak (tops n fine i (omega arith)))

  place_is : (n : ℕ) → ((i : ℕ) → i < n → out i ≡ false) → 0 < n → (at n).peak.place ≡ first_greatest n c.variance
  place_is n fine some =
      let e : suc (n - 1) ≡ n = omega arith in
      rw e at (sym (leads_is c.variance (suc (n - 1)) (at (suc (n - 1))).peak.place (tops n fine (n - 1) (omega arith)).0))

  -- ---- the parts of the slope of the chosen points
  abbrev chosen_parts : Parts
  chosen_parts = record {
    numerator = numerator (chosen c first last);
    denominator = denominator (chosen c first last);
  }

  -- the chosen points of n are those between the ends
  module _ (n : ℕ) (forward : first ≤ last) (inside : last < n) where
    before : (k : ℕ) → k < first → is_chosen first last k ≡ false
    before k l = rw (lt-leb first k l)

    within : (k : ℕ) → first ≤ k → k ≤ last → is_chosen first last k ≡ true
    within k p q = rw (le-leb first k p, le-leb k last q)

    after : (k : ℕ) → last < k → is_chosen first last k ≡ false
    after k l = rw (le-leb first k (omega arith), lt-leb k last l)

    pick_chosen : (f : ℕ → ℕ) → sum_to n (pick f) ≡ sum_to (last + 1 - first) (λ (k : ℕ). f (first + k))
    unfolding sum_in
    pick_chosen f =
        let head : sum_to first (pick f) ≡ 0 = sum-zero first (pick f) (λ k l. rw (before k l)) in
        let tail : sum_in (last + 1) n (pick f) ≡ 0 = sum-zero (n - (last + 1)) (λ (k : ℕ). pick f (last + 1 + k)) (λ k l. rw (after (last + 1 + k) (omega arith))) in
        let middle : sum_in first (last + 1) (pick f) ≡ sum_to (last + 1 - first) (λ (k : ℕ). f (first + k)) =
        sum_ext (last + 1 - first) (λ (k : ℕ). pick f (first + k)) (λ (k : ℕ). f (first + k)) (λ k l. rw (within (first + k) (omega arith) (omega arith))) in
        omega (arith, head, tail, middle, range first (last + 1) (pick f) (omega arith), range (last + 1) n (pick f) (omega arith))

    parts_are : parts_of (last + 1 - first) (picked n) ≡ chosen_parts
    unfolding joint_spread
    parts_are =
        rw (
          pick_chosen c.mean,
          pick_chosen c.variance,
          pick_chosen (λ (k : ℕ). c.mean k * c.variance k),
          pick_chosen (λ (k : ℕ). c.mean k * c.mean k),
        )

  -- ---- what 3 leaves, of the list and of the ends
  abbrev pub threes : Verdict
  threes = refuse_if Parameter (bad_list c) ⨟ refuse_if Parameter (bad_ends c.count first last)

  pub record Legal : Type 0 where
    pub ends : Reached c.count first last
    pub fine : (i : ℕ) → i < c.count → out i ≡ false

  pub legal : threes ≡ clear → Legal
  unfolding bad_list
  legal e =
      let both = then_clear _ _ e in
      let list = neither (bad_length c.count) (some_out c c.count) (unless _ _ both.0) in
      record { ends = reached c.count first last list.0 (unless _ _ both.1); fine = first_nowhere out c.count list.1 }

  -- all that 3 asks has one refusal, so it does not matter that the ends are asked before the points
  threes_is : {A : Type 0} (a b e : Bool) (rest : Result A Refusal)
      → refuse_if Parameter a ⨟ refuse_if Parameter e ⨟ refuse_if Parameter b ⨟ rest ≡ (refuse_if Parameter (a || b) ⨟ refuse_if Parameter e) ⨟ rest
  threes_is true b e rest = refl
  threes_is false true true rest = refl
  threes_is false true false rest = refl
  threes_is false false e rest = refl

  -- 7, 13 and 14 of the chosen points
  abbrev chosen_verdict : Verdict
  chosen_verdict =
      refuse_if TooFew (ltb (chosen c first last).count 2)
      ⨟ refuse_if EqualMeans (all_equal (chosen c first last).count (chosen c first last).mean)
      ⨟ refuse_if TooLarge (too_large (numerator (chosen c first last)) (denominator (chosen c first last)))

  chosen_measured : measured_of (last + 1 - first) chosen_parts (first_greatest c.count c.variance) ≡ answer_of chosen_verdict (gain_of c first last)
  unfolding measured_of
  chosen_measured = rw (zero_is_equal (last + 1 - first) (chosen c first last).mean)

  chosen_is : Legal → measured_of (last + 1 - first) (parts_of (last + 1 - first) (at c.count).sums) (at c.count).peak.place
      ≡ answer_of chosen_verdict (gain_of c first last)
  chosen_is l =
      ap₂ (λ (p : Parts) (k : ℕ). measured_of (last + 1 - first) p k)
      (ap (λ (t : Sums). parts_of (last + 1 - first) t) (sums_are c.count l.fine c.count (le_refl c.count)) ∙ parts_are c.count l.ends.forward l.ends.inside)
      (place_is c.count l.fine (omega (arith, l.ends.inside)))
      ∙ chosen_measured

  -- so what is answered is what is promised
  pub answer_is : walked_answer c first last ≡ transfer_answer c first last
  unfolding walked_answer finished transfer_answer transfer_verdict bad_list
  answer_is =
      threes_is (bad_length c.count) (some_out c c.count) (bad_ends c.count first last) _
      ∙ then_same threes (λ e. chosen_is (legal e))
      ∙ sym (answer_then threes chosen_verdict (gain_of c first last))
      ∙ ap (λ (v : Verdict). answer_of v (gain_of c first last))
      (then_assoc (refuse_if Parameter (bad_list c)) (refuse_if Parameter (bad_ends c.count first last)) chosen_verdict)

  -- ---- turns of the walk
  module _ (i : ℕ) (s : Fit) (none : some_out c i ≡ false) (so_far : s ≡ at i) where
    -- the next point is taken
    pub fit_more : (t : Fit) → Ok t ≡ with_point s (c.mean i) (c.variance i) i first last → (some_out c (i + 1) ≡ false) × (t ≡ at (i + 1))
    unfolding with_point fit_to
    fit_more t e =
        let was = was_accepted (refuse_if Parameter (out i)) (sym e) in
        (sym (some_more out i) ∙ rw (none, unless _ _ was.0), rw (add-one i, unless _ _ was.0) (rw so_far at (sym was.1)))

    -- or it is out of limits
    pub fit_stops : (r : Refusal) → i < c.count → Err r ≡ with_point s (c.mean i) (c.variance i) i first last → Err r ≡ fit_of c first last
    unfolding with_point fit_of
    fit_stops r h e = by (out i) refl e
      where
        by : (b : Bool) → out i ≡ b → Err r ≡ answer_of (refuse_if Parameter b) (taken s (c.mean i) (c.variance i) i (is_chosen first last i)) → Err r ≡ fit_of c first last
        by true o f =
            let some : some_out c c.count ≡ true = ⊎_elim (λ t. t) (λ n. absurd (not_both o (first_nowhere out c.count n i h))) (true_or_false (some_out c c.count)) in
            rw some (cc)
        by false o f = absurd (cc)

    pub fit_ends : i ≡ c.count → Ok s ≡ fit_of c first last
    unfolding fit_of
    fit_ends e =
        let none_of_all : some_out c c.count ≡ false = subst (λ (k : ℕ). some_out c k ≡ false) e none in
        rw none_of_all (ap Ok (so_far ∙ ap at e))

-- ---- past 3 of the list's length and of the ends the rest is what the walk makes it
module _ (c : Curve) (first last : ℕ) where
  pub walk_stops : (r : Refusal) → bad_length c.count ≡ false → bad_ends c.count first last ≡ false → Err r ≡ fit_of c first last → Err r ≡ walked_answer c first last
  unfolding fit_of finished walked_answer
  walk_stops r long ends e = rw (long, ends) (by (some_out c c.count) e)
    where
      by : (b : Bool) → Err r ≡ answer_of (refuse_if Parameter b) (fit_to c first last c.count)
          → Err r ≡ refuse_if Parameter b ⨟ measured_of (last + 1 - first) (parts_of (last + 1 - first) (fit_to c first last c.count).sums) (fit_to c first last c.count).peak.place
      by true e = cc
      by false e = absurd (cc)

  pub walk_ends : (s : Fit) → bad_length c.count ≡ false → bad_ends c.count first last ≡ false → Ok s ≡ fit_of c first last
      → measured_of (last + 1 - first) (parts_of (last + 1 - first) s.sums) s.peak.place ≡ walked_answer c first last
  unfolding fit_of finished walked_answer
  walk_ends s long ends e =
      let was = was_accepted (refuse_if Parameter (some_out c c.count)) (sym e) in
      rw (long, ends, unless _ _ was.0, was.1)

-- what an element converts to is the point at its place
pub point_at : {A : Type 0} (point : A → Point) (xs : List A) (i : ℕ) (x : A) (p : Point) → i < length xs → x ≡ get_or xs i x → p ≡ point x
    → p ≡ get_or (map point xs) i no_point
point_at point xs i x p l at e = e ∙ ap point at ∙ sym (get_or-map point xs i x no_point l)

-- the sums have room for a point more
pub room_turn : (s t : Fit) (mean variance i first last : ℕ) → Room i s.sums → Ok t ≡ with_point s mean variance i first last → Room (i + 1) t.sums
unfolding with_point
room_turn s t mean variance i first last r e =
    let was = was_accepted (refuse_if Parameter (out_of_limits mean variance)) (sym e) in
    let within = limits mean variance (unless _ _ was.0) in
    rw (sym was.1, add-one i) (room_more i mean variance s.sums (is_chosen first last i) within.0 within.1 r)

-- and so are the paper's numbers
pub paper_of_lem : (c : Curve) (first last : ℕ) → paper_of (transfer_answer c first last) ≡ transfer_paper c first last
unfolding transfer_answer transfer_paper
paper_of_lem c first last = paper_is_told no_gain (gain_of c first last) (transfer_verdict c first last)

-- ---- lists
-- two curves are one where nothing that is read of them differs
pub same_curve : (c d : Curve) → c.count ≡ d.count → ((i : ℕ) → (c.mean i ≡ d.mean i) × (c.variance i ≡ d.variance i)) → c ≡ d
same_curve c d long same = λ t. record { count = long t; mean = λ i. (same i).0 t; variance = λ i. (same i).1 t }

-- the curve of a list of rows is that of what the rows convert to
pub rows_curve : (rows : List (List ℕ)) → curve_of (map point_of rows) ≡ curve_of_rows rows
rows_curve rows = same_curve (curve_of (map point_of rows)) (curve_of_rows rows) (length-map rows point_of) at_row
  where
    at_row : (i : ℕ) → ((curve_of (map point_of rows)).mean i ≡ (curve_of_rows rows).mean i) × ((curve_of (map point_of rows)).variance i ≡ (curve_of_rows rows).variance i)
    at_row i =
        let e : get_or (map point_of rows) i no_point ≡ point_of (get_or rows i []) = listn.get_or-map point_of rows i [] in
        (ap (λ (p : Point). p.mean) e, ap (λ (p : Point). p.variance) e)
