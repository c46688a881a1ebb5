-- Document 02 j: what `shading_judge` answers and leaves in the four lent buffers.
use Rattle.std.specs.Prelude.{ℕ, ◌*◌, ◌/◌, ◌%◌, Bool, cond, ◌||◌, List, eqb, ltb, length, Result}
use Rattle.laws.specs.First.{some_to}
use Rattle.laws.specs.Table.{held, tabulate}
use Rattle.verdict.specs.Verdict.{Verdict, ◌⨟◌, refuse_if, if_clear}
use Rattle.verdict.specs.Answer.{answer_of, Paper, answer_paper, paper_for, Nothing, nothing}
use Rattle.verdict.specs.declared.Refusal.{Refusal}
use Rattle.verdict.specs.declared.Refusal.TheVariants.{Parameter, Length, TooSmall, Impossible}
use Rattle.refusals.specs.Judge.{shape_of, other_than}
use Rattle.plane.specs.Plane.{sums}
use Rattle.plane.specs.declared.Sums.{Sums}
use Rattle.colour.specs.Bayer.{mosaic_of}
use Rattle.colour.specs.Centre.{too_small}
use Rattle.blocks.specs.Areas.{blocks_of, area_sites, entries_of, entry_at, entry_area, table_lengths}
use Rattle.shading.specs.Shade.{tint, shade_of, Written, written_of}
use Rattle.shading.specs.declared.Asked.{Asked}
use Rattle.shading.specs.declared.Lengths.{Lengths}
use Rattle.shading.specs.OfRatio.{Planes, Tint}

-- the numbers that are handed in with a table
abbrev pub asked : ℕ → ℕ → ℕ → ℕ → ℕ → ℕ → Asked
asked w h full black order limit =
    record { width = w; height = h; full = full; black = black; order = order; limit = limit }

-- the lengths of the four buffers that are written
abbrev pub lengths : ℕ → ℕ → ℕ → ℕ → Lengths
lengths numerators denominators refusals fails =
    record { numerators = numerators; denominators = denominators; refusals = refusals; fails = fails }

-- 3: a limit, in sixteenths, that is not 1 to 16
unfoldable pub bad_limit : ℕ → Bool
bad_limit limit = eqb limit 0 || ltb 16 limit

-- 3: a black level above full scale, an order above 3, or such a limit
abbrev pub asked_verdict : ℕ → ℕ → ℕ → ℕ → Verdict
asked_verdict full black order limit =
    refuse_if Parameter (ltb full black) ⨟ refuse_if Parameter (ltb 3 order) ⨟ refuse_if Parameter (bad_limit limit)

-- 4: a buffer has not an element for each block of R/Gr, and then for each of B/Gb
abbrev pub blocks_length : ℕ → ℕ → ℕ → Verdict
blocks_length w h long = refuse_if Length (other_than (2 * blocks_of w h) long)

-- of the four buffers that are written
abbrev pub lengths_verdict : ℕ → ℕ → Lengths → Verdict
lengths_verdict w h long =
    blocks_length w h long.numerators
    ⨟ blocks_length w h long.denominators
    ⨟ blocks_length w h long.refusals
    ⨟ blocks_length w h long.fails

-- 11: a count above its sites, or a total above count × full scale
unfoldable pub impossible : ℕ → ℕ → ℕ → ℕ → Bool
impossible full sites total count = ltb sites count || ltb (count * full) total

-- of the entry at e
abbrev pub impossible_at : ℕ → ℕ → ℕ → List ℕ → List ℕ → ℕ → Bool
impossible_at w h full totals counts e = impossible full (area_sites w h (entry_area w h e)) (held totals e) (held counts e)

-- anywhere in the table
unfoldable pub impossible_in : ℕ → ℕ → ℕ → List ℕ → List ℕ → Bool
impossible_in w h full totals counts = some_to (entries_of w h) (impossible_at w h full totals counts)

-- the refusals in their order: 1 to 4, then 9
unfoldable pub lent_verdict : Asked → Lengths → ℕ → ℕ → Verdict
lent_verdict given long totals counts =
    shape_of given.width given.height given.full
    ⨟ asked_verdict given.full given.black given.order given.limit
    ⨟ table_lengths given.width given.height totals counts
    ⨟ lengths_verdict given.width given.height long
    ⨟ refuse_if TooSmall (too_small given.width given.height)

-- and 11, before 7 and 10 of any block
unfoldable pub judge_verdict : Asked → Lengths → List ℕ → List ℕ → Verdict
judge_verdict given long totals counts =
    lent_verdict given long (length totals) (length counts)
    ⨟ refuse_if Impossible (impossible_in given.width given.height given.full totals counts)

-- the two planes of a ratio: 0 is R over Gr, 1 is B over Gb
abbrev pub planes : ℕ → ℕ → Planes
planes colour green = record { colour = colour; green = green }

unfoldable pub planes_of : ℕ → ℕ → Planes
planes_of order ratio =
    cond (eqb ratio 0) (planes (mosaic_of order).r (mosaic_of order).gr) (planes (mosaic_of order).b (mosaic_of order).gb)

-- what a table holds of area k of a plane, and of a ratio's two planes
abbrev pub entry_of : ℕ → ℕ → List ℕ → List ℕ → ℕ → ℕ → Sums
entry_of w h totals counts plane k = sums (held counts (entry_at w h plane k)) (held totals (entry_at w h plane k))

unfoldable pub tint_of : ℕ → ℕ → List ℕ → List ℕ → Planes → ℕ → Tint
tint_of w h totals counts of k =
    tint (entry_of w h totals counts of.colour k) (entry_of w h totals counts of.green k)

-- what is written of block k of a ratio, beside the centre of the same two planes
unfoldable pub shade_in : Asked → List ℕ → List ℕ → ℕ → ℕ → Written
shade_in given totals counts ratio k =
    let area = tint_of given.width given.height totals counts (planes_of given.order ratio) in
    written_of (shade_of given.black given.limit (area k) (area (blocks_of given.width given.height)))

-- at place j of the written buffers: all blocks of R/Gr, and then all of B/Gb
abbrev pub shade_at : Asked → List ℕ → List ℕ → ℕ → Written
shade_at given totals counts j =
    shade_in given totals counts (j / blocks_of given.width given.height) (j % blocks_of given.width given.height)

-- the answer: done, or the refusal
unfoldable pub judge_answer : Asked → Lengths → List ℕ → List ℕ → Result Nothing Refusal
judge_answer given long totals counts = answer_of (judge_verdict given long totals counts) nothing

-- the paper's numbers of an answer
abbrev pub paper_of : Result Nothing Refusal → Paper Nothing
paper_of = answer_paper nothing

-- the paper's numbers for all inputs
unfoldable pub judge_paper : Asked → Lengths → List ℕ → List ℕ → Paper Nothing
judge_paper given long totals counts = paper_for (judge_verdict given long totals counts) nothing nothing

-- one part of every shade
abbrev pub shades_of : (Written → ℕ) → Asked → List ℕ → List ℕ → List ℕ
shades_of part given totals counts =
    tabulate (2 * blocks_of given.width given.height) (λ (j : ℕ). part (shade_at given totals counts j))

-- the buffer of that part afterwards; or all as it was
unfoldable pub judge_buffer : (Written → ℕ) → Asked → Lengths → List ℕ → List ℕ → List ℕ → List ℕ
judge_buffer part given long totals counts buffer =
    if_clear (judge_verdict given long totals counts) (shades_of part given totals counts) buffer

-- the four of them
abbrev pub judge_numerators : Asked → Lengths → List ℕ → List ℕ → List ℕ → List ℕ
judge_numerators = judge_buffer (λ (s : Written). s.numerator)

abbrev pub judge_denominators : Asked → Lengths → List ℕ → List ℕ → List ℕ → List ℕ
judge_denominators = judge_buffer (λ (s : Written). s.denominator)

abbrev pub judge_refusals : Asked → Lengths → List ℕ → List ℕ → List ℕ → List ℕ
judge_refusals = judge_buffer (λ (s : Written). s.number)

abbrev pub judge_fails : Asked → Lengths → List ℕ → List ℕ → List ℕ → List ℕ
judge_fails = judge_buffer (λ (s : Written). s.fail)
