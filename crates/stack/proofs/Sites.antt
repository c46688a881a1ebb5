-- A stack that is lent: when it can be walked, and what 11 lets pass at a site.
use Prim.Native.Nat.{ℕ, ◌+◌, ◌*◌, ◌≤◌, ◌<◌, zero-le}
use mathlib.Core.Bool.{true, false, ◌||◌, ◌&&◌}
use mathlib.Core.List.{List, [], ◌∷◌}
use mathlib.Core.Logic.{◌⊎◌, inl, inr, ⊎_elim}
use mathlib.Core.Path.{◌≡◌, refl, sym, ◌∙◌}
use native.Mathlib.Nat.{mul-add, mul-le-mul_left}
use native.Mathlib.Omega.{arith}
use lib.Dec.{eqb, ltb, leb}
use lib.ListN.{length}
use borrow.Author.Tests.{le-ltb, ltb-false, leb-true, le-leb, eqb-true, eqb-false, eq-eqb, ne_eqb}
use Rattle.laws.proofs.Cases.{lt_or_ge, neither, and_true, both_ways, true_or_false}
use Rattle.laws.proofs.Firsts.{first_nowhere, nowhere_first}
use Rattle.verdict.proofs.Verdicts.{Test, Tabled, test, tabled, then_clear, clear_then}
use Rattle.verdict.specs.Verdict.{clear}
use Rattle.verdict.specs.declared.Refusal.TheVariants.{Length}
use Rattle.window.specs.Shape.{sites_of}
use Rattle.window.specs.View.{seen}
use Rattle.window.proofs.Sides.{scale}
use Rattle.refusals.specs.Judge.{other_than}
use Rattle.refusals.proofs.Chains.{length_clear, clear_length}
use Rattle.refusals.proofs.Judges.{Masked}
use Rattle.stack.specs.State.{Stack, stack_lengths, sums_impossible, extremes_impossible, empty_extremes, impossible, impossible_at, impossible_in}
use Rattle.stack.specs.Walk.{readable, top, or_one, beyond, found_impossible}

-- four numbers a site
pub record Lengths (w h : ℕ) (s : Stack) : Type 0 where
  pub of_sums : length s.sums ≡ sites_of w h
  pub of_squares : length s.squares ≡ sites_of w h
  pub of_least : length s.least ≡ sites_of w h
  pub of_greatest : length s.greatest ≡ sites_of w h

-- 4 of a stack's own buffers
module _ (w h : ℕ) (s : Stack) where
  pub lengths_clear : stack_lengths w h s ≡ clear → Lengths w h s
  lengths_clear e =
      let a = then_clear _ _ e in
      let b = then_clear _ _ a.1 in
      let c = then_clear _ _ b.1 in
      record {
        of_sums = length_clear (sites_of w h) (length s.sums) a.0;
        of_squares = length_clear (sites_of w h) (length s.squares) b.0;
        of_least = length_clear (sites_of w h) (length s.least) c.0;
        of_greatest = length_clear (sites_of w h) (length s.greatest) c.1;
      }

  pub clear_lengths : Lengths w h s → stack_lengths w h s ≡ clear
  clear_lengths l =
      clear_then (clear_length (sites_of w h) (length s.sums) l.of_sums)
      (clear_then (clear_length (sites_of w h) (length s.squares) l.of_squares)
      (clear_then (clear_length (sites_of w h) (length s.least) l.of_least) (clear_length (sites_of w h) (length s.greatest) l.of_greatest)))

  -- its tests, in the order of the buffers
  abbrev pub length_tests : List Test
  length_tests =
      test Length (other_than (sites_of w h) (length s.sums))
      ∷ test Length (other_than (sites_of w h) (length s.squares))
      ∷ test Length (other_than (sites_of w h) (length s.least))
      ∷ test Length (other_than (sites_of w h) (length s.greatest))
      ∷ []

  pub lengths_tabled : Tabled (stack_lengths w h s) length_tests
  lengths_tabled = tabled _ _

-- buffers that can be walked with a mask of n codes
pub record Readable (n full sums squares least greatest : ℕ) : Type 0 where
  pub scale : full ≤ 4095
  pub sums-long : sums ≡ n
  pub squares-long : squares ≡ n
  pub least-long : least ≡ n
  pub greatest-long : greatest ≡ n

module _ (n full sums squares least greatest : ℕ) where
  pub readable_is : readable n full sums squares least greatest ≡ true → Readable n full sums squares least greatest
  unfolding readable
  readable_is e =
      let a = and_true (leb full 4095) _ e in
      let b = and_true (eqb sums n) _ a.1 in
      let c = and_true (eqb squares n) _ b.1 in
      let d = and_true (eqb least n) (eqb greatest n) c.1 in
      record {
        scale = leb-true full 4095 a.0;
        sums-long = eqb-true sums n b.0;
        squares-long = eqb-true squares n c.0;
        least-long = eqb-true least n d.0;
        greatest-long = eqb-true greatest n d.1;
      }

  pub is_readable : Readable n full sums squares least greatest → readable n full sums squares least greatest ≡ true
  unfolding readable
  is_readable r =
      rw (
        le-leb full 4095 r.scale,
        eq-eqb sums n r.sums-long,
        eq-eqb squares n r.squares-long,
        eq-eqb least n r.least-long,
        eq-eqb greatest n r.greatest-long,
      )

-- what 11 does not refuse at a site
pub record Possible (full k s q least greatest : ℕ) : Type 0 where
  pub sum : s ≤ k * full
  pub square : q ≤ k * (full * full)
  pub scatter : s * s ≤ k * q
  pub ordered : least ≤ greatest
  pub in_scale : greatest ≤ full
  pub sum-least : k * least ≤ s
  pub sum_most : s ≤ k * greatest
  pub empty : k ≡ 0 → (least ≡ 0) × (greatest ≡ 0)

module _ (full k s q least greatest : ℕ) where
  -- it is told by these bounds, either way
  pub possible_is : impossible full k s q least greatest ≡ false → Possible full k s q least greatest
  unfolding impossible sums_impossible extremes_impossible empty_extremes
  possible_is e =
      let a = neither (sums_impossible full k s q) _ e in
      let b = neither (extremes_impossible full k s least greatest) (empty_extremes k least greatest) a.1 in
      let c = neither (ltb (k * full) s) _ a.0 in
      let d = neither (ltb (k * (full * full)) q) (ltb (k * q) (s * s)) c.1 in
      let f = neither (ltb greatest least) _ b.0 in
      let g = neither (ltb full greatest) _ f.1 in
      let l = neither (ltb s (k * least)) (ltb (k * greatest) s) g.1 in
      record {
        sum = ltb-false (k * full) s c.0;
        square = ltb-false (k * (full * full)) q d.0;
        scatter = ltb-false (k * q) (s * s) d.1;
        ordered = ltb-false greatest least f.0;
        in_scale = ltb-false full greatest g.0;
        sum-least = ltb-false s (k * least) l.0;
        sum_most = ltb-false (k * greatest) s l.1;
        empty = λ z. zeros z b.1;
      }
    where
      zeros : k ≡ 0 → (eqb k 0 && (ltb 0 least || ltb 0 greatest)) ≡ false → (least ≡ 0) × (greatest ≡ 0)
      zeros z e =
          let both = neither (ltb 0 least) (ltb 0 greatest) (rw (eq-eqb k 0 z) at e) in
          (omega (arith, ltb-false 0 least both.0), omega (arith, ltb-false 0 greatest both.1))

  pub is_possible : Possible full k s q least greatest → impossible full k s q least greatest ≡ false
  unfolding impossible sums_impossible extremes_impossible empty_extremes
  is_possible p =
      rw (
        le-ltb (k * full) s p.sum,
        le-ltb (k * (full * full)) q p.square,
        le-ltb (k * q) (s * s) p.scatter,
        le-ltb greatest least p.ordered,
        le-ltb full greatest p.in_scale,
        le-ltb s (k * least) p.sum-least,
        le-ltb (k * greatest) s p.sum_most,
      )
      (⊎_elim (λ t. let zeros = p.empty (eqb-true k 0 t) in rw (t, zeros.0, zeros.1)) (λ f. rw f) (true_or_false (eqb k 0)))

-- zeros pass every test
pub possible_zeros : (full k : ℕ) → Possible full k 0 0 0 0
possible_zeros full k = record {
  sum = zero-le;
  square = zero-le;
  scatter = omega arith;
  ordered = zero-le;
  in_scale = zero-le;
  sum-least = omega arith;
  sum_most = zero-le;
  empty = λ z. (refl, refl);
}

-- ---- 11 by the limits of its count and full scale
module _ (full k s q least greatest : ℕ) where
  -- with no frames in, and with some
  limits_none : k ≡ 0 → (top full k ≡ 0) × (or_one k ≡ 1)
  unfolding top or_one
  limits_none z = rw (eq-eqb k 0 z) (refl, refl)

  limits_some : (k ≡ 0 → ⊥) → (top full k ≡ full) × (or_one k ≡ k)
  unfolding top or_one
  limits_some some = rw (ne_eqb k 0 some) (refl, refl)

  -- what 11 lets pass is within the limits
  limited : Possible full k s q least greatest → (greatest ≤ top full k) × (or_one k * least ≤ s)
  limited p =
      ⊎_elim
      (λ t. let z = eqb-true k 0 t in let zeros = p.empty z in rw ((limits_none z).0, (limits_none z).1, zeros.0, zeros.1) (zero-le, omega arith))
      (λ f. let some = limits_some (eqb-false k 0 f) in rw (some.0, some.1) (p.in_scale, p.sum-least))
      (true_or_false (eqb k 0))

  -- and what is within the limits has its least not above its greatest, and zeros with no frames in
  empty_zeros : greatest ≤ top full k → or_one k * least ≤ s → s ≤ k * greatest → k ≡ 0 → (least ≡ 0) × (greatest ≡ 0)
  empty_zeros high low sum z =
      let top-none : greatest ≤ 0 = rw (limits_none z).0 at high in
      let low-none : 1 * least ≤ s = rw (limits_none z).1 at low in
      let none : s ≤ 0 * greatest = rw z at sum in
      (omega arith, omega arith)

  ordered_sums : (k ≡ 0 → ⊥) → k * least ≤ s → s ≤ k * greatest → least ≤ greatest
  ordered_sums some low sum =
      ⊎_elim
      (λ above. let next : greatest + 1 ≤ least = omega arith in absurd (some (omega (arith, mul-le-mul_left k next, mul-add k greatest 1))))
      (λ below. below)
      (lt_or_ge greatest least)

  within_limits : beyond k (or_one k) (k * (full * full)) (top full k) s q least greatest ≡ false → Possible full k s q least greatest
  unfolding beyond
  within_limits e =
      let a = neither _ (ltb (top full k) greatest) e in
      let b = neither _ (ltb (k * greatest) s) a.0 in
      let c = neither _ (ltb s (or_one k * least)) b.0 in
      let d = neither (ltb (k * q) (s * s)) (ltb (k * (full * full)) q) c.0 in
      let high = ltb-false (top full k) greatest a.1 in
      let sum_most = ltb-false (k * greatest) s b.1 in
      let low = ltb-false s (or_one k * least) c.1 in
      by (true_or_false (eqb k 0)) high sum_most low (ltb-false (k * (full * full)) q d.1) (ltb-false (k * q) (s * s) d.0)
    where
      by : (eqb k 0 ≡ true) ⊎ (eqb k 0 ≡ false) → greatest ≤ top full k → s ≤ k * greatest → or_one k * least ≤ s → q ≤ k * (full * full) → s * s ≤ k * q
          → Possible full k s q least greatest
      by (inl t) high sum_most low square scatter =
          let z = eqb-true k 0 t in
          let zeros = empty_zeros high low sum_most z in
          let in_scale : greatest ≤ full = omega (arith, zeros) in
          record {
            sum = omega (arith, sum_most, mul-le-mul_left k in_scale);
            square = square;
            scatter = scatter;
            ordered = omega (arith, zeros);
            in_scale = in_scale;
            sum-least = rw zeros.0 (omega arith);
            sum_most = sum_most;
            empty = λ _. zeros;
          }
      by (inr f) high sum_most low square scatter =
          let some = eqb-false k 0 f in
          let limits = limits_some some in
          let in_scale : greatest ≤ full = rw limits.0 at high in
          let sum-least : k * least ≤ s = rw limits.1 at low in
          record {
            sum = omega (arith, sum_most, mul-le-mul_left k in_scale);
            square = square;
            scatter = scatter;
            ordered = ordered_sums some sum-least sum_most;
            in_scale = in_scale;
            sum-least = sum-least;
            sum_most = sum_most;
            empty = λ z. absurd (some z);
          }

  -- so these tests are all of 11
  pub by_limits : beyond k (or_one k) (k * (full * full)) (top full k) s q least greatest ≡ impossible full k s q least greatest
  unfolding beyond
  by_limits =
      both_ways (beyond k (or_one k) (k * (full * full)) (top full k) s q least greatest) (impossible full k s q least greatest)
      (λ e. is_possible full k s q least greatest (within_limits e))
      (λ e. let p = possible_is full k s q least greatest e in
      rw (
        le-ltb (k * q) (s * s) p.scatter,
        le-ltb (k * (full * full)) q p.square,
        le-ltb s (or_one k * least) (limited p).1,
        le-ltb (k * greatest) s p.sum_most,
        le-ltb (top full k) greatest (limited p).0,
      ))

-- ---- a whole stack
-- a stack of a whole window can be walked, so 11 is asked of all of it
pub asked-whole : (w h full : ℕ) (mask : List ℕ) (s : Stack) → Masked w h full mask → s.frames ≤ 100 → stack_lengths w h s ≡ clear
    → found_impossible full mask s ≡ impossible_in (sites_of w h) full mask s
unfolding found_impossible
asked-whole w h full mask s m most lent =
    let long = lengths_clear w h s lent in
    let whole = sym m.masked in
    let r =
    is_readable (length mask) full (length s.sums) (length s.squares) (length s.least) (length s.greatest)
    (record {
      scale = (scale full m.scaled).high;
      sums-long = long.of_sums ∙ whole;
      squares-long = long.of_squares ∙ whole;
      least-long = long.of_least ∙ whole;
      greatest-long = long.of_greatest ∙ whole;
    }) in
    rw (r, le-leb s.frames 100 most, m.masked)

-- what is seen of a stack at a site is possible
abbrev pub PossibleAt : ℕ → List ℕ → Stack → ℕ → Type 0
PossibleAt full mask s i =
    Possible full s.frames (seen mask s.sums i) (seen mask s.squares i) (seen mask s.least i) (seen mask s.greatest i)

module _ (n full : ℕ) (mask : List ℕ) (s : Stack) where
  -- where 11 does not apply it is so at every site
  pub all-possible : impossible_in n full mask s ≡ false → (i : ℕ) → i < n → PossibleAt full mask s i
  unfolding impossible_in
  all-possible e i l = possible_is full s.frames _ _ _ _ (first_nowhere (impossible_at full mask s) n e i l)

  -- and where it is so at every site 11 does not apply
  pub none_impossible : ((i : ℕ) → i < n → PossibleAt full mask s i) → impossible_in n full mask s ≡ false
  unfolding impossible_in
  none_impossible possible = nowhere_first (impossible_at full mask s) n (λ i l. is_possible full s.frames _ _ _ _ (possible i l))
