-- What is promised of `shading_judge`, for any numbers, any table and any buffers.
use Prim.Native.Nat.{ℕ, ◌+◌, ◌*◌, ◌^◌, ◌/◌, ◌%◌, ◌≤◌, ◌<◌}
use mathlib.Core.Bool.{true}
use mathlib.Core.List.{List}
use mathlib.Core.Logic.{◌⊎◌}
use mathlib.Core.Path.{◌≡◌, refl, ap, ◌∙◌}
use native.Mathlib.Nat.{mod-lt}
use native.Mathlib.Omega.{arith}
use lib.Arith.{digits_lt}
use lib.IntN.{pos, ◌*ℤ◌}
use lib.ListN.{length, get_or}
use borrow.Author.Tests.{le-ltb}
use Rattle.std.specs.Prelude.{Ok}
use Rattle.verdict.specs.Answer.{nothing}
use Rattle.laws.specs.Signed.{◌⊖◌}
use Rattle.laws.specs.Table.{held}
use Rattle.laws.proofs.Firsts.{nowhere_first}
use Rattle.laws.proofs.Sole.{Sole, sole}
use Rattle.verdict.specs.Verdict.{clear, over_of}
use Rattle.verdict.proofs.Verdicts.{Tabled, Refuses, refuses, never_placed, never_over, never_given}
use Rattle.verdict.proofs.Answers.{paper_is_told}
use Rattle.window.specs.Shape.{sites_of}
use Rattle.window.specs.View.{surveyed}
use Rattle.plane.specs.Plane.{plane_of}
use Rattle.colour.specs.Bayer.{mosaic_of}
use Rattle.blocks.specs.Areas.{blocks_of, area_sites, entries_of, entry_at, entry_area}
use Rattle.blocks.proofs.Areas.{block_sites, centre_sites, entry_below, entry_plane_lem, entry_area_lem}
use Rattle.blocks.proofs.Afresh.{TableOf}
use Rattle.blocks.proofs.Promises.{Credible, own_credible}
use Rattle.shading.specs.Judge.{asked, lengths, impossible, impossible_at, impossible_in, judge_verdict, planes_of, planes, shade_in, judge_answer, paper_of, judge_paper, judge_buffer, judge_numerators, judge_denominators, judge_refusals, judge_fails}
use Rattle.shading.specs.declared.Asked.{Asked}
use Rattle.shading.specs.declared.Lengths.{Lengths}
use Rattle.shading.specs.Shade.{Written}
use Rattle.shading.proofs.Judging.{Lent, tests, table, accepted, credible, done_clear, written}
use Rattle.shading.proofs.Shades.{Told, Measured, flat_shade, told_seven, told_ten, told_none, told_one, told_zeros, measured}
use Rattle.shading.proofs.Shades as shades
use Rattle.shading.proofs.Limits.{same_answer, eased_at, same_buffer, still_passes}
use Rattle.shading.proofs.Entries.{in_four, area, shade_in_lem, shade_at_lem, shade_fits, even_entry}

-- where every entry is credible, 11 is not given
eleven_only : (call : Asked) (long : Lengths) (totals counts : List ℕ) → (judge_paper call long totals counts).number ≡ 11
    → ((e : ℕ) → e < entries_of call.width call.height
    → Credible call.full (area_sites call.width call.height (entry_area call.width call.height e)) (held totals e) (held counts e))
    → ⊥
unfolding judge_paper impossible_in impossible
eleven_only call long totals counts e all =
    let none = nowhere_first (impossible_at call.width call.height call.full totals counts) (entries_of call.width call.height) (λ e l.
    let can = all e l in
    rw (le-ltb (area_sites call.width call.height (entry_area call.width call.height e)) (held counts e) can.few, le-ltb (held counts e * call.full) (held totals e) can.low)) in
    never_given (judge_verdict call long totals counts) (table call long totals counts) (rw none) (omega arith) e

-- what four buffers hold at place j is one block and ratio's
pub record Holds (numerators denominators refusals fails : List ℕ) (j : ℕ) (s : Written) : Type 0 where
  pub numerator : held numerators j ≡ s.numerator
  pub denominator : held denominators j ≡ s.denominator
  pub refusal : held refusals j ≡ s.number
  pub fail : held fails j ≡ s.fail

module _ (call : Asked) (totals counts numerators denominators refusals fails : List ℕ) where
  -- the lengths of the four buffers that are written
  abbrev long : Lengths
  long = lengths (length numerators) (length denominators) (length refusals) (length fails)

  -- only: no second answer and no second final buffer meets the promise
  pub only : Sole (judge_answer call long totals counts)
      × Sole (judge_numerators call long totals counts numerators)
      × Sole (judge_denominators call long totals counts denominators)
      × Sole (judge_refusals call long totals counts refusals)
      × Sole (judge_fails call long totals counts fails)
  only = (sole _, sole _, sole _, sole _, sole _)

  -- paper_is: the paper's numbers are those of the answer
  pub paper_is : paper_of (judge_answer call long totals counts) ≡ judge_paper call long totals counts
  unfolding judge_answer judge_paper
  paper_is = paper_is_told nothing nothing (judge_verdict call long totals counts)

  -- given: 1 to 4, 9 and 11 exactly as tabled, in that order (`tests` has the table)
  pub given : Tabled (judge_verdict call long totals counts) (tests call long totals counts)
  given = table call long totals counts

  -- refused: where the number is not 0 all four buffers are as they were, and where it is 0 so is the place
  pub refused : Refuses (judge_paper call long totals counts).number (judge_paper call long totals counts).place
      ((judge_numerators call long totals counts numerators ≡ numerators)
      × (judge_denominators call long totals counts denominators ≡ denominators)
      × (judge_refusals call long totals counts refusals ≡ refusals)
      × (judge_fails call long totals counts fails ≡ fails))
  unfolding judge_paper judge_buffer
  refused = refuses (judge_verdict call long totals counts) given refl (λ r e. (rw e, rw e, rw e, rw e))

  -- no_place: no refusal has a place, it is always 0
  pub no_place : (judge_paper call long totals counts).place ≡ 0
  unfolding judge_paper
  no_place = never_placed (judge_verdict call long totals counts) given refl

  -- no_over: and none counts samples
  pub no_over : over_of (judge_verdict call long totals counts) ≡ 0
  no_over = never_over (judge_verdict call long totals counts) given refl refl

  -- eleven: 11 is given only where some entry is not credible
  pub eleven : (judge_paper call long totals counts).number ≡ 11
      → ((e : ℕ) → e < entries_of call.width call.height
      → Credible call.full (area_sites call.width call.height (entry_area call.width call.height e)) (held totals e) (held counts e))
      → ⊥
  eleven = eleven_only call long totals counts

  -- ---- of an accepted call
  module _ (done : judge_answer call long totals counts ≡ Ok nothing) where
    passed : judge_verdict call long totals counts ≡ clear
    passed = done_clear call long totals counts done

    -- limited: its sides, numbers and lengths are all within document 02's limits
    pub limited : Lent call long (length totals) (length counts)
    limited = (accepted call long totals counts passed).of

    -- credible: and so are its entries: in each area no count is above its sites, 192 of a block and 768 of a centre, and no total above count × full scale
    pub credible_block : (plane k : ℕ) → plane < 4 → k < blocks_of call.width call.height
        → Credible call.full 192 (held totals (entry_at call.width call.height plane k)) (held counts (entry_at call.width call.height plane k))
    credible_block plane k few l =
        rw (entry_area_lem call.width call.height plane k (omega arith), block_sites call.width call.height k l) at
        (credible call.width call.height call.full totals counts (accepted call long totals counts passed).possible (entry_at call.width call.height plane k) (entry_below call.width call.height plane k (omega arith) few))

    pub credible_centre : (plane : ℕ) → plane < 4 → let e = entry_at call.width call.height plane (blocks_of call.width call.height) in
        Credible call.full 768 (held totals e) (held counts e)
    credible_centre plane few =
        let k = blocks_of call.width call.height in
        rw (entry_area_lem call.width call.height plane k (omega arith), centre_sites call.width call.height k (omega arith)) at
        (credible call.width call.height call.full totals counts (accepted call long totals counts passed).possible (entry_at call.width call.height plane k) (entry_below call.width call.height plane k (omega arith) few))

    -- told: the buffers hold every block and ratio, all of R/Gr (ratio 0) before all of B/Gb (ratio 1)
    pub told : (ratio k : ℕ) → ratio < 2 → k < blocks_of call.width call.height
        → Holds (judge_numerators call long totals counts numerators) (judge_denominators call long totals counts denominators)
        (judge_refusals call long totals counts refusals) (judge_fails call long totals counts fails)
        (ratio * blocks_of call.width call.height + k) (shade_in call totals counts ratio k)
    told ratio k one_of_two l =
        let j = ratio * blocks_of call.width call.height + k in
        let inside : j < 2 * blocks_of call.width call.height = digits_lt one_of_two l in
        let at = shade_at_lem call totals counts ratio k l in
        record {
          numerator = written call long totals counts passed _ numerators j inside ∙ ap (λ (s : Written). s.numerator) at;
          denominator = written call long totals counts passed _ denominators j inside ∙ ap (λ (s : Written). s.denominator) at;
          refusal = written call long totals counts passed _ refusals j inside ∙ ap (λ (s : Written). s.number) at;
          fail = written call long totals counts passed _ fails j inside ∙ ap (λ (s : Written). s.fail) at;
        }

    module _ (j : ℕ) (inside : j < 2 * blocks_of call.width call.height) where
      block_in : j % blocks_of call.width call.height < blocks_of call.width call.height
      block_in = mod-lt j (omega arith)

      -- bounds: every numerator and denominator is below 2^60, so that 16 times either fits 64 bits
      pub bounds : (held (judge_numerators call long totals counts numerators) j < 2 ^ 60) × (held (judge_denominators call long totals counts denominators) j < 2 ^ 60)
      bounds =
          let f = shade_fits call long totals counts (accepted call long totals counts passed) _ _ block_in in
          (rw (written call long totals counts passed _ numerators j inside) f.numerator, rw (written call long totals counts passed _ denominators j inside) f.denominator)

      -- flat: where in each plane every total is one sample × count, every numerator is 0
      pub flat : (s : ℕ → ℕ)
          → ((plane k : ℕ) → plane < 4 → k ≤ blocks_of call.width call.height
          → held totals (entry_at call.width call.height plane k) ≡ s plane * held counts (entry_at call.width call.height plane k))
          → held (judge_numerators call long totals counts numerators) j ≡ 0
      flat s even =
          let n = blocks_of call.width call.height in
          let of = planes_of call.order (j / n) in
          let low = in_four call.order (j / n) in
          written call long totals counts passed _ numerators j inside
          ∙ ap (λ (s : Written). s.numerator) (shade_in_lem call totals counts of (j / n) (j % n) refl)
          ∙ flat_shade call.black (s of.colour) (s of.green) (area call totals counts of (j % n)) (area call totals counts of n)
          (record { in_one = even of.colour (j % n) low.colour (omega (arith, block_in)); in_other = even of.colour n low.colour (omega arith) })
          (record { in_one = even of.green (j % n) low.green (omega (arith, block_in)); in_other = even of.green n low.green (omega arith) })
          call.limit

-- ---- of one block and ratio
-- a ratio's two planes by the Bayer order: 0 is R over Gr, 1 is B over Gb
pub data Over (order : ℕ) : ℕ → ℕ → ℕ → Type 0 where
  r_over_gr : Over order 0 (mosaic_of order).r (mosaic_of order).gr
  b_over_gb : Over order 1 (mosaic_of order).b (mosaic_of order).gb

over_planes : {order ratio colour green : ℕ} → Over order ratio colour green → planes_of order ratio ≡ planes colour green
unfolding planes_of
over_planes r_over_gr = refl
over_planes b_over_gb = refl

-- two tables that hold the same at entry e
pub record SameAt (totals counts totals' counts' : List ℕ) (e : ℕ) : Type 0 where
  pub total : held totals e ≡ held totals' e
  pub count : held counts e ≡ held counts' e

module _ (call : Asked) (totals counts : List ℕ) (ratio colour green k : ℕ) (over : Over call.order ratio colour green) where
  -- the block and ratio, what the table holds of area k of a plane, and which area is the centre
  abbrev shade : Written
  shade = shade_in call totals counts ratio k

  abbrev total : ℕ → ℕ → ℕ
  total plane area = held totals (entry_at call.width call.height plane area)

  abbrev count : ℕ → ℕ → ℕ
  count plane area = held counts (entry_at call.width call.height plane area)

  abbrev centre : ℕ
  centre = blocks_of call.width call.height

  -- own_entries: its numbers are told by four entries of the table, its two planes' of the block and of the centre. Whatever the others
  -- hold, those of a block with 7 or 10 among them, changes nothing here (an entry that gives 11 refuses the whole call)
  pub own_entries : (totals' counts' : List ℕ)
      → SameAt totals counts totals' counts' (entry_at call.width call.height colour k)
      → SameAt totals counts totals' counts' (entry_at call.width call.height green k)
      → SameAt totals counts totals' counts' (entry_at call.width call.height colour centre)
      → SameAt totals counts totals' counts' (entry_at call.width call.height green centre)
      → shade ≡ shade_in call totals' counts' ratio k
  own_entries totals' counts' c g c' g' =
      rw (
        shade_in_lem call totals counts (planes colour green) ratio k (over_planes over),
        shade_in_lem call totals' counts' (planes colour green) ratio k (over_planes over),
        c.total,
        c.count,
        g.total,
        g.count,
        c'.total,
        c'.count,
        g'.total,
        g'.count,
      )

  how : Told call.black call.limit (area call totals counts (planes colour green) k) (area call totals counts (planes colour green) centre) shade
  how = rw (shade_in_lem call totals counts (planes colour green) ratio k (over_planes over)) (shades.told _ _ call.black call.limit)

  -- one of its two planes has no surveyed site in the block or at the centre
  abbrev Unsurveyed : Type 0
  Unsurveyed = (count colour k ≡ 0) ⊎ (count green k ≡ 0) ⊎ (count colour centre ≡ 0) ⊎ (count green centre ≡ 0)

  -- T of the green is not above 0 in the block or at the centre, or T of the colour is not at the centre
  abbrev Dim : Type 0
  Dim =
      (total green k ≤ call.black * count green k)
      ⊎ (total green centre ≤ call.black * count green centre)
      ⊎ (total colour centre ≤ call.black * count colour centre)

  -- seven: it gets 7 exactly where one of the two planes has no surveyed site in the block or at the centre
  pub seven : (shade.number ≡ 7 → Unsurveyed) × (Unsurveyed → shade.number ≡ 7)
  seven = told_seven how

  -- ten: it gets 10 exactly where 7 does not apply and one of those three is not above 0
  pub ten : (shade.number ≡ 10 → (Unsurveyed → ⊥) × Dim) × ((Unsurveyed → ⊥) → Dim → shade.number ≡ 10)
  ten = told_ten how

  -- neither_applies: the number is 0 exactly where neither applies
  pub neither_applies : (shade.number ≡ 0 → (Unsurveyed → ⊥) × (Dim → ⊥)) × ((Unsurveyed → ⊥) → (Dim → ⊥) → shade.number ≡ 0)
  neither_applies = told_none how

  -- three_numbers: no other number is given
  pub three_numbers : (shade.number ≡ 0) ⊎ (shade.number ≡ 7) ⊎ (shade.number ≡ 10)
  three_numbers = told_one how

  -- zeros: where it is refused, its numerator, denominator and fail are 0
  pub zeros : (shade.number ≡ 0 → ⊥) → (shade.numerator ≡ 0) × (shade.denominator ≡ 0) × (shade.fail ≡ 0)
  zeros = told_zeros how

  -- judged: with a/b in the block and c/d at the centre as in document 01, |a × d − c × b| over c × b, which is above 0
  pub judged : shade.number ≡ 0
      → Measured call.limit
      ((total colour k ⊖ call.black * count colour k) *ℤ pos (count green k))
      ((total green k ⊖ call.black * count green k) *ℤ pos (count colour k))
      ((total colour centre ⊖ call.black * count colour centre) *ℤ pos (count green centre))
      ((total green centre ⊖ call.black * count green centre) *ℤ pos (count colour centre))
      shade
  judged = measured how

-- ---- limits: all else being the same, a higher limit
module _ (w h full black order low high : ℕ) (totals counts numerators denominators refusals fails : List ℕ)
    (some : 1 ≤ low) (up : low ≤ high) (most : high ≤ 16) where
  abbrev lent : Lengths
  lent = lengths (length numerators) (length denominators) (length refusals) (length fails)

  abbrev lower : Asked
  lower = asked w h full black order low

  abbrev higher : Asked
  higher = asked w h full black order high

  -- limits_same: changes neither the answer nor any of the other three buffers
  pub limits_same : (judge_answer lower lent totals counts ≡ judge_answer higher lent totals counts)
      × (judge_numerators lower lent totals counts numerators ≡ judge_numerators higher lent totals counts numerators)
      × (judge_denominators lower lent totals counts denominators ≡ judge_denominators higher lent totals counts denominators)
      × (judge_refusals lower lent totals counts refusals ≡ judge_refusals higher lent totals counts refusals)
  limits_same =
      let at = eased_at w h full black order low high lent totals counts some up most in
      let same = same_buffer w h full black order low high lent totals counts some up most in (
        same_answer w h full black order low high lent totals counts some up most,
        same _ numerators (λ j. (at j).numerator),
        same _ denominators (λ j. (at j).denominator),
        same _ refusals (λ j. (at j).number),
      )

  -- limits_pass: and fails no block and ratio that the lower one passes
  pub limits_pass : (j : ℕ) → j < 2 * blocks_of w h
      → held (judge_fails lower lent totals counts fails) j ≡ 0 → held (judge_fails higher lent totals counts fails) j ≡ 0
  limits_pass = still_passes w h full black order low high lent totals counts some up most fails

-- ---- the table of a mask and a frame, made by an accepted call of `shading_table` or recoded since (`table_of` and `afresh` of crate `blocks`)
module _ (w h full : ℕ) (mask frame totals counts : List ℕ) (is : TableOf w h full mask frame totals counts) where
  -- flat_window: where in each plane all surveyed samples are equal, every numerator is 0 in every accepted call with these sides
  pub flat_window : (s : ℕ → ℕ) → ((i : ℕ) → i < sites_of w h → surveyed (get_or mask i 0) ≡ true → get_or frame i 0 ≡ s (plane_of w i))
      → (scale black order limit : ℕ) (numerators denominators refusals fails : List ℕ)
      → let call = asked w h scale black order limit in
      let long = lengths (length numerators) (length denominators) (length refusals) (length fails) in
      judge_answer call long totals counts ≡ Ok nothing
      → (j : ℕ) → j < 2 * blocks_of w h → held (judge_numerators call long totals counts numerators) j ≡ 0
  flat_window s same scale black order limit numerators denominators refusals fails done j l =
      flat (asked w h scale black order limit) totals counts numerators denominators refusals fails done j l s (λ plane k few last.
      even_entry w h full mask frame totals counts is s same (entry_at w h plane k) (entry_below w h plane k last few)
      ∙ ap (λ (p : ℕ). s p * held counts (entry_at w h plane k)) (entry_plane_lem w h plane k last))

  -- own_table: judged with its own sides and full scale it never gets 11, whatever the other numbers and the buffers' lengths
  pub own_table : (black order limit : ℕ) (long : Lengths) → (judge_paper (asked w h full black order limit) long totals counts).number ≡ 11 → ⊥
  own_table black order limit long e =
      eleven_only (asked w h full black order limit) long totals counts e (own_credible w h full mask frame totals counts is)
