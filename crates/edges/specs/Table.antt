-- Document 01, "Both sides of each edge": the worked examples K1 to K10 as one table of equations, and beside them what they leave open and what document 02 adds.
use Rattle.std.specs.Prelude.{ℕ, ◌+◌, ◌*◌, ◌/◌, ◌%◌, ◌^◌, true, false, cond, ◌&&◌, List, [], ◌∷◌, ◌++◌, ◌≡◌, eqb, ltb, Float, ℤ, pos, negsuc, replicate, Result, Ok, Err}
use Rattle.std.specs.Float.{fin, binary64}
use Rattle.std.specs.Float.Ieee.{of_bits}
use Rattle.laws.specs.Table.{tabulate}
use Rattle.verdict.specs.Verdict.{Verdict, clear}
use Rattle.verdict.specs.declared.Refusal.{Refusal}
use Rattle.verdict.specs.declared.Refusal.TheVariants.{Parameter, Length, Code, Over, TooFew, TooSmall, Impossible, EqualMeans, TooLarge}
use Rattle.raw.specs.Unpack.{unpack_answer, unpack_buffer}
use Rattle.pair.specs.Pair.{pair_answer}
use Rattle.dark.specs.Dark.{dark_answer}
use Rattle.stack.specs.State.{Stack, stack_of, sums_impossible, impossible}
use Rattle.adding.specs.Add.{add_answer, add_stack}
use Rattle.adding.specs.Run.{empty}
use Rattle.variance.specs.Variance.{variance_answer}
use Rattle.variance.specs.declared.Variance.{Variance}
use Rattle.blinking.specs.Blinking.{blinking_answer}
use Rattle.pattern.specs.Lines as pattern-lines
use Rattle.pattern.specs.Pattern.{pattern_answer}
use Rattle.sites.specs.Find.{find_answer, find_mask}
use Rattle.lines.specs.Lines.{rows}
use Rattle.lines.specs.Marks.{lines_answer, lines_buffer}
use Rattle.gain.specs.Gain.{curve_of, chosen, numerator, transfer_answer}
use Rattle.gain.specs.declared.Point.{Point}
use Rattle.gain.specs.declared.Gain.{Gain}
use Rattle.shading.specs.Judge.{asked, lengths, judge_answer, judge_numerators, judge_denominators, judge_refusals, judge_fails}

-- n of one value
abbrev all : ℕ → ℕ → List ℕ
all n value = tabulate n (λ (i : ℕ). value)

-- n of one value, but for another at one place
abbrev but : ℕ → ℕ → ℕ → ℕ → List ℕ
but n value place other = tabulate n (λ (i : ℕ). cond (eqb i place) other value)

-- the first frame of K1 and K2
abbrev ramp : List ℕ
ramp = 100 ∷ 101 ∷ 102 ∷ 103 ∷ []

-- twelve lines of two sites, all 100 but lines 5 and 6 as given; `line i` is the line that site i is on
abbrev striped : (ℕ → ℕ) → ℕ → ℕ → List ℕ
striped line five six = tabulate 24 (λ (i : ℕ). cond (eqb (line i) 5) five (cond (eqb (line i) 6) six 100))

-- as columns, 12 wide and 2 high
abbrev as_columns : ℕ → ℕ → List ℕ
as_columns = striped (λ (i : ℕ). i % 12)

-- as rows, 2 wide and 12 high
abbrev as_rows : ℕ → ℕ → List ℕ
as_rows = striped (λ (i : ℕ). i / 2)

-- 22 wide, 18 high, all 100 but row 4 of plane (0,0), the window's row 8 at even columns: 103 before the site `last`, 102 from there on
abbrev raised : ℕ → List ℕ
raised last = tabulate 396 (λ (i : ℕ). cond (eqb (i / 22) 8 && eqb (i % 2) 0) (cond (ltb i last) 103 102) 100)

-- a search at threshold t of 4 × 4 sites, all 64 but site 5, which holds `sample`: how many are found, and the mask that is left
abbrev Lone : ℕ → ℕ → ℕ → List ℕ → Type 0
Lone t sample count left = (find_answer 4 4 1023 t (all 16 0) (but 16 64 5 sample) 16 ≡ Ok count)
    × (find_mask 4 4 1023 t (all 16 0) (but 16 64 5 sample) (all 16 3) ≡ left)

-- that site alone is found
abbrev LoneFound : ℕ → ℕ → Type 0
LoneFound t sample = Lone t sample 1 (but 16 0 5 2)

-- it is passed over, and no other is found
abbrev LonePassed : ℕ → ℕ → Type 0
LonePassed t sample = Lone t sample 0 (all 16 0)

pub record Edges : Type 0 where
  -- 2 × 2, frames 100 101 102 103 and 101 101 102 104: n 4, P 4, Q 32, r 90, noise 90/256 (4/32 is 1 × 2⁻³, 90/256 is 45 × 2⁻⁷)
  pub K1 : pair_answer 2 2 1023 (all 4 0) ramp (101 ∷ 101 ∷ 102 ∷ 104 ∷ [])
      ≡ Ok (record { n = 4; p = 4; q = 32; r = 90; variance = fin false 1 (negsuc 2); noise = fin false 45 (negsuc 6) })
  -- second frame = first + 7 everywhere: P 0, both floats 0
  pub K2 : pair_answer 2 2 1023 (all 4 0) ramp (107 ∷ 108 ∷ 109 ∷ 110 ∷ [])
      ≡ Ok (record { n = 4; p = 0; q = 32; r = 0; variance = of_bits binary64 0; noise = of_bits binary64 0 })
  -- bytes 25 25 25 25 228 unpack to 100 101 102 103
  pub K3 : (unpack_answer 2 2 5 4 ≡ clear) × (unpack_buffer 2 2 (25 ∷ 25 ∷ 25 ∷ 25 ∷ 228 ∷ []) (all 4 0) ≡ 100 ∷ 101 ∷ 102 ∷ 103 ∷ [])
  -- bytes 25 25 25 26 37 unpack to 101 101 102 104
  pub K4 : (unpack_answer 2 2 5 4 ≡ clear) × (unpack_buffer 2 2 (25 ∷ 25 ∷ 25 ∷ 26 ∷ 37 ∷ []) (all 4 0) ≡ 101 ∷ 101 ∷ 102 ∷ 104 ∷ [])
  -- samples 60 64 64 64, black 64: dark −4/4
  pub K5 : dark_answer 2 2 1023 64 (all 4 0) (60 ∷ 64 ∷ 64 ∷ 64 ∷ []) ≡ Ok (record { numerator = (negsuc 3); denominator = 4 })
  -- 4 × 4, all 64 but one at 102: that one is defective at 28
  pub K6 : LoneFound 28 102
  -- the same with 101: none
  pub K7 : LonePassed 28 101
  -- width 12, height 2, k 1, full scale 1023, all 100 but column 6 at 110: level² 800/46047276, max 200/20460
  pub K8 : pattern_answer pattern-lines.columns 12 2 1023 1 (all 24 0) (as_columns 100 110)
      ≡ Ok (record { level_numerator = 800; level_denominator = 46047276; max_numerator = 200; max_denominator = 20460 })
  -- 2 wide, 18 high; in one plane row 4 is 103, all else 100: row 4 alone is marked (here of plane (0,1), whose marks begin at 9)
  pub K9 : (lines_answer rows 2 18 1023 (all 36 0) (but 36 100 17 103) 36 ≡ clear)
      × (lines_buffer rows 2 18 1023 (all 36 0) (but 36 100 17 103) (all 36 0) ≡ but 36 0 13 1)
  -- the same with 102: no mark
  pub K10 : (lines_answer rows 2 18 1023 (all 36 0) (but 36 100 17 102) 36 ≡ clear)
      × (lines_buffer rows 2 18 1023 (all 36 0) (but 36 100 17 102) (all 36 0) ≡ all 36 0)

-- what K1 to K10 leave open, and what document 02 adds
pub record Beside : Type 0 where
  -- document 02 c: K8 with column 6 at 90. With their signs, the deviations of columns 5 and 6 are 20 and −200
  pub dark_column : pattern_answer pattern-lines.columns 12 2 1023 1 (all 24 0) (as_columns 100 90)
      ≡ Ok (record { level_numerator = 800; level_denominator = 46047276; max_numerator = 200; max_denominator = 20460 })
  -- the same turned: row 6 at 90
  pub dark_row : pattern_answer pattern-lines.rows 2 12 1023 1 (all 24 0) (as_rows 100 90)
      ≡ Ok (record { level_numerator = 800; level_denominator = 46047276; max_numerator = 200; max_denominator = 20460 })
  -- columns 5 and 6 at 0: with their signs, both deviations are −1800
  pub dark-columns : pattern_answer pattern-lines.columns 12 2 1023 1 (all 24 0) (as_columns 0 0)
      ≡ Ok (record { level_numerator = 80000; level_denominator = 46047276; max_numerator = 1800; max_denominator = 20460 })
  -- document 02 g, the like of K6 and K7 for 24: the lone site is found with 96 and not with 95, at threshold 24 and at 0
  pub lone_96 : LoneFound 24 96 × LoneFound 0 96
  pub lone_95 : LonePassed 24 95 × LonePassed 0 95
  -- K7's window at threshold 0: found, since |101 × 4 − 293| = 111 ≥ 96 = 24 × 4
  pub lone_101 : LoneFound 0 101
  -- document 02 m, why the noise is ranked only at equal n: one difference of 1 at two sites, and four of 1 at eight. Both exact variances are 1/8
  -- (1/8 and 16/128), and so are their floats; the noise is 45/128, which is 180/512, and 181/512
  pub one_eighth : (pair_answer 2 2 1023 (0 ∷ 0 ∷ 1 ∷ 1 ∷ []) (all 4 100) (but 4 100 0 101)
      ≡ Ok (record { n = 2; p = 1; q = 8; r = 45; variance = fin false 1 (negsuc 2); noise = fin false 45 (negsuc 6) }))
      × (pair_answer 4 2 1023 (all 8 0) (all 8 100) (tabulate 8 (λ (i : ℕ). cond (ltb i 4) 101 100))
      ≡ Ok (record { n = 8; p = 16; q = 128; r = 181; variance = fin false 1 (negsuc 2); noise = fin false 181 (negsuc 8) }))
  -- document 02 d, at full scale 10: 11 and 12 are over, 10 is not, and a gap holding 99 is not counted. A pair counts over both frames,
  -- though its place is in one; a call on one frame counts that
  pub over_in_both : pair_answer 2 2 10 (but 4 0 1 1) (11 ∷ 99 ∷ 10 ∷ 11 ∷ []) (3 ∷ 99 ∷ 12 ∷ 10 ∷ []) ≡ Err (Over 0 3)
  pub over_in_second : pair_answer 2 2 10 (but 4 0 1 1) (10 ∷ 99 ∷ 5 ∷ 10 ∷ []) (3 ∷ 99 ∷ 11 ∷ 3 ∷ []) ≡ Err (Over 2 1)
  pub over_in_one_frame : dark_answer 2 2 10 0 (but 4 0 1 1) (10 ∷ 99 ∷ 11 ∷ 12 ∷ []) ≡ Err (Over 2 2)
  -- a code above 3 comes first, and counts nothing
  pub over_behind_code : pair_answer 2 2 10 (but 4 0 1 4) (11 ∷ 99 ∷ 10 ∷ 11 ∷ []) (3 ∷ 99 ∷ 12 ∷ 10 ∷ []) ≡ Err (Code 1)
  -- a row met as often as the mirror meets it, itself twice: nine sites at 103 and two at 102 are not marked, ten and one are
  pub met_unmarked : lines_buffer rows 22 18 1023 (all 396 0) (raised 194) (all 36 0) ≡ all 36 0
  pub met_marked : lines_buffer rows 22 18 1023 (all 396 0) (raised 196) (all 36 0) ≡ but 36 0 4 1

-- document 02 e: an exposure with its mean and its variance, in sixteenths
abbrev point : ℕ → ℕ → ℕ → Point
point exposure mean variance = record { exposure = exposure; mean = mean; variance = variance }

-- y = 2x, and then a fourth point with the variance of the third
abbrev doubling : List Point
doubling = point 1 10 20 ∷ point 2 20 40 ∷ point 3 30 60 ∷ point 4 40 60 ∷ []

-- of such a list the points from first to last
abbrev Transferred : List Point → ℕ → ℕ → Result Gain Refusal → Type 0
Transferred points first last answer = transfer_answer (curve_of points) first last ≡ answer

abbrev measured : ℤ → ℕ → Float → ℕ → Result Gain Refusal
measured top bottom slope place = Ok (record { numerator = top; denominator = bottom; slope = slope; saturation = place })

-- 32 points at 0 and 0, and 32 at both limits
abbrev at_limits : List Point
at_limits = replicate 32 (point 1 0 0) ++ replicate 32 (point 2 65520 (2 ^ 28))

pub record Transfers : Type 0 where
  -- a gain of 2, 1200/600; the greatest variance, 60, stands first at place 2
  pub straight : Transferred doubling 0 2 (measured (pos 1200) 600 (fin false 1 (pos 1)) 2)
  -- two points of it: 200/100, and the saturation is at a place that is not chosen
  pub outside_the_chosen : Transferred doubling 0 1 (measured (pos 200) 100 (fin false 1 (pos 1)) 2)
  -- variance that falls: −1200/600
  pub falling : Transferred (point 1 10 60 ∷ point 2 20 40 ∷ point 3 30 20 ∷ []) 0 2 (measured (negsuc 1199) 600 (fin true 1 (pos 1)) 0)
  -- equal variances: 0/600, +0
  pub level : Transferred (point 1 10 7 ∷ point 2 20 7 ∷ point 3 30 7 ∷ []) 0 2 (measured (pos 0) 600 (of_bits binary64 0) 0)
  -- the ends exchanged; past the list; no list
  pub exchanged : Transferred doubling 2 0 (Err Parameter)
  pub past_the_list : Transferred doubling 0 4 (Err Parameter)
  pub empty : Transferred [] 0 0 (Err Parameter)
  -- 64 points may be, 65 may not
  pub as_many : Transferred (replicate 64 (point 1 10 20)) 0 63 (Err EqualMeans)
  pub too_many : Transferred (replicate 65 (point 1 10 20)) 0 63 (Err Parameter)
  -- a point out of limits that is not chosen comes before 7; at its limits a point is legal
  pub over_mean : Transferred (point 1 65521 0 ∷ point 2 20 40 ∷ []) 1 1 (Err Parameter)
  pub over_variance : Transferred (point 1 0 (2 ^ 28 + 1) ∷ point 2 20 40 ∷ []) 1 1 (Err Parameter)
  pub at_limit : Transferred (point 1 65520 (2 ^ 28) ∷ point 2 20 40 ∷ []) 1 1 (Err TooFew)
  -- one point, whose mean is then the only one: 7 comes before 13
  pub one_point : Transferred doubling 1 1 (Err TooFew)
  pub equal_means : Transferred (point 1 10 20 ∷ point 2 10 40 ∷ []) 0 1 (Err EqualMeans)
  -- document 02's 14
  pub too_large : (numerator (chosen (curve_of at_limits) 0 63) ≡ pos 18010000462970880) × Transferred at_limits 0 63 (Err TooLarge)

-- document 02 j, 64 × 48 at order 0: a plane has four blocks of 192 sites, and its centre is all 768. Its five entries, by those of the blocks
abbrev blocks : ℕ → ℕ → ℕ → ℕ → List ℕ
blocks a b c d = a ∷ b ∷ c ∷ d ∷ (a + b + c + d) ∷ []

-- the four alike; and the first unlike the others
abbrev alike : ℕ → List ℕ
alike each = blocks each each each each

abbrev unlike : ℕ → ℕ → List ℕ
unlike first others = blocks first others others others

-- the totals of a plane that is surveyed whole, with every sample at one level
abbrev level : ℕ → List ℕ
level sample = alike (192 * sample)

-- a table's entries, by its planes in turn
abbrev entries : List ℕ → List ℕ → List ℕ → List ℕ → List ℕ
entries r gr gb b = r ++ gr ++ gb ++ b

-- R 164, Gr and Gb 264, B 114 everywhere, and every site surveyed
abbrev levels : List ℕ
levels = entries (level 164) (level 264) (level 264) (level 114)

abbrev whole : List ℕ
whole = entries (alike 192) (alike 192) (alike 192) (alike 192)

-- such a table judged at a limit, with full scale 1023, black level 64 and four buffers of eight, is answered so
abbrev Answered : ℕ → List ℕ → List ℕ → Verdict → Type 0
Answered limit totals counts answer = judge_answer (asked 64 48 1023 64 0 limit) (lengths 8 8 8 8) totals counts ≡ answer

-- it is accepted, and leaves these numerators, denominators, refusals and fails in buffers that held 5
abbrev Leaves : ℕ → List ℕ → List ℕ → List ℕ → List ℕ → List ℕ → List ℕ → Type 0
Leaves limit totals counts numerators denominators refusals fails = Answered limit totals counts clear
    × (judge_numerators (asked 64 48 1023 64 0 limit) (lengths 8 8 8 8) totals counts (all 8 5) ≡ numerators)
    × (judge_denominators (asked 64 48 1023 64 0 limit) (lengths 8 8 8 8) totals counts (all 8 5) ≡ denominators)
    × (judge_refusals (asked 64 48 1023 64 0 limit) (lengths 8 8 8 8) totals counts (all 8 5) ≡ refusals)
    × (judge_fails (asked 64 48 1023 64 0 limit) (lengths 8 8 8 8) totals counts (all 8 5) ≡ fails)

-- what such a buffer holds: of R/Gr the first block and each of the three others, of B/Gb each block
abbrev eight : ℕ → ℕ → ℕ → List ℕ
eight first others second = first ∷ others ∷ others ∷ others ∷ second ∷ second ∷ second ∷ second ∷ []

-- R at 164, but at 184 in its first block: the centre's T of R is 192 × 120 + 576 × 100
abbrev Brighter : ℕ → List ℕ → Type 0
Brighter limit fails = Leaves limit (entries (unlike (192 * 184) (192 * 164)) (level 264) (level 264) (level 114)) whole
    (eight 65229815808000 21743271936000 0) (eight 456608710656000 456608710656000 217432719360000) (eight 0 0 0) fails

-- Gr at 264, but at 64 in its first block, the black level, so that T is 0 there
abbrev Black : ℕ → List ℕ → Type 0
Black limit fails = Leaves limit (entries (level 164) (unlike (192 * 64) (192 * 264)) (level 264) (level 114)) whole
    (eight 0 108716359680000 0) (eight 0 434865438720000 217432719360000) (eight 10 0 0) fails

-- R at 164, but at 64 in its first block: T is 0 there, and 576 × 100 at the centre
abbrev Dark : ℕ → List ℕ → Type 0
Dark limit fails = Leaves limit (entries (unlike (192 * 64) (192 * 164)) (level 264) (level 264) (level 114)) whole
    (eight 326149079040000 108716359680000 0) (eight 326149079040000 326149079040000 217432719360000) (eight 0 0 0) fails

pub record Shadings : Type 0 where
  -- every numerator is 0, and nothing fails at the least limit; the counts are at their limits, 192 and 768, and get no 11
  pub even : Leaves 1 levels whole (eight 0 0 0) (eight 434865438720000 434865438720000 217432719360000) (eight 0 0 0) (eight 0 0 0)
  -- one block brighter: its ratio is 1/7 off the centre's, above 2 sixteenths and not above 3; the three others of R/Gr are 1/21 off
  pub brighter_at_2 : Brighter 2 (eight 1 0 0)
  pub brighter_at_3 : Brighter 3 (eight 0 0 0)
  pub one_seventh : 7 * 65229815808000 ≡ 456608710656000
  pub one_twenty_first : 21 * 21743271936000 ≡ 456608710656000
  -- one block with no surveyed R: 7 there alone
  pub unseen : Leaves 1 (entries (unlike 0 (192 * 164)) (level 264) (level 264) (level 114)) (entries (unlike 0 192) (alike 192) (alike 192) (alike 192))
      (eight 0 0 0) (eight 0 326149079040000 217432719360000) (eight 7 0 0) (eight 0 0 0)
  -- one block of Gr at the black level: 10 there alone; the three others of R/Gr are 1/4 off, above 3 sixteenths and not above 4
  pub black_at_3 : Black 3 (eight 0 1 0)
  pub black_at_4 : Black 4 (eight 0 0 0)
  -- 11: a count of 193 in a block, and of 769 at a centre
  pub count_193 : Answered 1 levels (entries (193 ∷ 192 ∷ 192 ∷ 192 ∷ 768 ∷ []) (alike 192) (alike 192) (alike 192)) (Err Impossible)
  pub count_769 : Answered 1 levels (entries (192 ∷ 192 ∷ 192 ∷ 192 ∷ 769 ∷ []) (alike 192) (alike 192) (alike 192)) (Err Impossible)
  -- a total of count × full scale in a block may be, one more gets 11, also where fewer sites are counted, and in the last entry of the table
  pub total_full : Answered 1 (entries (unlike (192 * 1023) (192 * 164)) (level 264) (level 264) (level 114)) whole clear
  pub total_over : Answered 1 (entries (unlike (192 * 1023 + 1) (192 * 164)) (level 264) (level 264) (level 114)) whole (Err Impossible)
  pub total_of_191 : Answered 1 (entries (unlike (191 * 1023 + 1) (192 * 164)) (level 264) (level 264) (level 114)) (entries (unlike 191 192) (alike 192) (alike 192) (alike 192)) (Err Impossible)
  pub total_of_last : Answered 1 (entries (level 164) (level 264) (level 264) (192 * 114 ∷ 192 * 114 ∷ 192 * 114 ∷ 192 * 114 ∷ (768 * 1023 + 1) ∷ [])) whole (Err Impossible)
  -- R of a block at the black level is judged: it is all of the centre's ratio off, and fails at any limit below 16 sixteenths
  pub dark_at_15 : Dark 15 (eight 1 0 0)
  pub dark_at_16 : Dark 16 (eight 0 0 0)
  -- 64 × 50 has a row left over in each plane, and the blocks of 64 × 48
  pub row_over : judge_answer (asked 64 50 1023 64 0 1) (lengths 8 8 8 8) levels whole ≡ clear
  -- 62 × 48 has two blocks a plane, so a table of 12 and buffers of 4: 9; a table or buffers of another length get 4 first
  pub too_small : judge_answer (asked 62 48 1023 64 0 1) (lengths 4 4 4 4) (all 12 0) (all 12 0) ≡ Err TooSmall
  pub length_first : (judge_answer (asked 62 48 1023 64 0 1) (lengths 4 4 4 4) (all 20 0) (all 20 0) ≡ Err Length)
      × (judge_answer (asked 62 48 1023 64 0 1) (lengths 8 8 8 8) (all 12 0) (all 12 0) ≡ Err Length)

-- document 02 i, 2 × 2: all sites at 500 but site 0
abbrev jumping : ℕ → List ℕ
jumping sample = but 4 500 0 sample

-- the stack of one such frame, with site 0 at 100
abbrev begun : Stack
begun = stack_of 1 (jumping 100) (but 4 250000 0 10000) (jumping 100) (jumping 100)

-- the stack of two, with site 0 at 100 and then at 900, so that its sum is that of the others; and with this greatest sample there
abbrev jumped : ℕ → Stack
jumped greatest = stack_of 2 (all 4 1000) (but 4 500000 0 820000) (jumping 100) (jumping greatest)

-- with every site surveyed, and full scale 1023: a frame is added to a stack, and leaves this one
abbrev Leads : List ℕ → Stack → Stack → Type 0
Leads frame before after = (add_answer 2 2 1023 (all 4 0) frame before ≡ Ok after.frames) × (add_stack 2 2 1023 (all 4 0) frame before ≡ after)

-- the variance of a stack is answered so
abbrev Varies : Stack → Result Variance Refusal → Type 0
Varies s answer = variance_answer 2 2 1023 (all 4 0) s ≡ answer

-- and so its blinking sites at a spread
abbrev Blinks : ℕ → Stack → Result ℕ Refusal → Type 0
Blinks spread s answer = blinking_answer 2 2 1023 spread (all 4 0) s ≡ answer

pub record Stacks : Type 0 where
  -- the first sample of a site is its least and its greatest
  pub first_frame : Leads (jumping 100) (empty 4) begun
  pub second_frame : Leads (jumping 900) begun (jumped 900)
  -- the spread of site 0 is 800, that of the others 0
  pub spread_800 : Blinks 800 (jumped 900) (Ok 1)
  pub spread_801 : Blinks 801 (jumped 900) (Ok 0)
  pub spread_1 : Blinks 1 (jumped 900) (Ok 1)
  -- no frame in
  pub no_frame : Blinks 800 (empty 4) (Err Parameter)
  -- the variance is 640000/16, 625 × 2⁶, whatever the greatest sample is that 11 lets pass
  pub both_frames : Varies (jumped 900) (Ok (record { numerator = 640000; denominator = 16; variance = (fin false 625 (pos 6)) }))
  pub greatest_1023 : Varies (jumped 1023) (Ok (record { numerator = 640000; denominator = 16; variance = (fin false 625 (pos 6)) }))
  -- 1024, above full scale, gets 11 in all three calls; document 01's 11, which asks s and q alone, lets site 0 and the others pass
  pub greatest_1024 : (sums_impossible 1023 2 1000 820000 ≡ false)
      × (sums_impossible 1023 2 1000 500000 ≡ false)
      × (add_answer 2 2 1023 (all 4 0) (jumping 900) (jumped 1024) ≡ Err Impossible)
      × Varies (jumped 1024) (Err Impossible)
      × Blinks 800 (jumped 1024) (Err Impossible)
  -- 11 at one site, of full scale, k, s, q, least and greatest: one test alone refuses, and with one number changed by 1 none does.
  -- Greatest above full scale; s below k × least; s above k × greatest
  pub above_full_scale : (impossible 1 1 0 0 0 2 ≡ true) × (impossible 1 1 0 0 0 1 ≡ false)
  pub sum_below : (impossible 1 1 0 0 1 1 ≡ true) × (impossible 1 1 0 0 0 1 ≡ false)
  pub sum-above : (impossible 1 1 1 1 0 0 ≡ true) × (impossible 1 1 1 1 0 1 ≡ false)
  -- no frame in: greatest above 0; q above k × full scale²
  pub empty-greatest : (impossible 1 0 0 0 0 1 ≡ true) × (impossible 1 0 0 0 0 0 ≡ false)
  pub empty-squares : (impossible 1 0 0 1 0 0 ≡ true) × (impossible 1 0 0 0 0 0 ≡ false)
  -- k × q below s²
  pub squares_below : (impossible 1 1 1 0 0 1 ≡ true) × (impossible 1 1 1 1 0 1 ≡ false)
