-- Document 01, "Job program": the fields of a job, and what is judged of them before the library is asked.
use Rattle.std.specs.Prelude.{ℕ, ◌+◌, Bool, ◌||◌, List, [], ◌∷◌, ltb}
use Rattle.laws.specs.Table.{tabulate}
use Rattle.verdict.specs.Verdict.{Verdict, ◌⨟◌, refuse_if}
use Rattle.verdict.specs.declared.Refusal.TheVariants.{Sides, TooWide}
use Rattle.window.specs.Shape.{bad_sides, sites_of}
use Rattle.raw.specs.Packed.{sample10, length10}
use Rattle.stream.specs.Fields.{Field, field, word_at, body_at, fields_at, past_all, extra_at}

-- 1 width, 2 height: two bytes each
abbrev pub side_fields : List Field
side_fields = field 1 2 ∷ field 2 2 ∷ []

-- and for a window of n sites 3 full scale, 4 black level: two bytes each; 5 mask; 6 and 7 the frames in RAW10; 0 empty
abbrev pub body_fields : ℕ → List Field
body_fields n =
    field 3 2 ∷ field 4 2 ∷ field 5 n ∷ field 6 (length10 n) ∷ field 7 (length10 n) ∷ field 0 0 ∷ []

-- a side above 64
unfoldable pub wide_sides : ℕ → ℕ → Bool
wide_sides w h = ltb 64 w || ltb 64 h

-- the faults in the order in which they are met; after field 2, refusal 1 and then 24; after field 0, bytes that follow it
unfoldable pub faults_of : List ℕ → ℕ → ℕ → Verdict
faults_of s w h =
    fields_at s 0 side_fields
    ⨟ refuse_if Sides (bad_sides w h)
    ⨟ refuse_if TooWide (wide_sides w h)
    ⨟ fields_at s 10 (body_fields (sites_of w h))
    ⨟ extra_at s (past_all 10 (body_fields (sites_of w h)))

-- ---- what stands in the stream, each body three bytes past its field's first
abbrev pub width_of : List ℕ → ℕ
width_of s = word_at s 3

abbrev pub height_of : List ℕ → ℕ
height_of s = word_at s 8

abbrev pub full_of : List ℕ → ℕ
full_of s = word_at s 13

abbrev pub black_of : List ℕ → ℕ
black_of s = word_at s 18

abbrev pub sites_in : List ℕ → ℕ
sites_in s = sites_of (width_of s) (height_of s)

abbrev pub packed_in : List ℕ → ℕ
packed_in s = length10 (sites_in s)

abbrev pub mask_of : List ℕ → List ℕ
mask_of s = body_at s 20 (sites_in s)

-- where fields 6 and 7 begin, in a stream of n sites
abbrev pub first_field : ℕ → ℕ
first_field n = 23 + n

abbrev pub second_field : ℕ → ℕ
second_field n = first_field n + 3 + length10 n

-- a frame unpacked from a body in RAW10
abbrev pub unpacked : ℕ → List ℕ → List ℕ
unpacked n body = tabulate n (sample10 body)

abbrev pub first_of : List ℕ → List ℕ
first_of s = unpacked (sites_in s) (body_at s (first_field (sites_in s)) (packed_in s))

abbrev pub second_of : List ℕ → List ℕ
second_of s = unpacked (sites_in s) (body_at s (second_field (sites_in s)) (packed_in s))

abbrev pub stream_verdict : List ℕ → Verdict
stream_verdict s = faults_of s (width_of s) (height_of s)
