-- Document 01, "RAW10": packed samples, over the width. A group is `per` samples in `per` + 1 bytes: the upper eight bits of each,
-- then one byte with the `low` lower bits of all, the first sample's lowest.
use Rattle.std.specs.Prelude.{ℕ, ◌+◌, ◌*◌, ◌/◌, ◌%◌, ◌^◌, List, get_or}

-- a sample of its upper byte, its group's last byte and its place in the group
unfoldable pub joined : ℕ → ℕ → ℕ → ℕ → ℕ
joined low upper last j = upper * 2 ^ low + last / 2 ^ (low * j) % 2 ^ low

-- the sample at i; groups follow each other with no padding, also from one row into the next
unfoldable pub sample_at : ℕ → ℕ → List ℕ → ℕ → ℕ
unfolding joined
sample_at low per bytes i =
    joined low (get_or bytes (i / per * (per + 1) + i % per) 0) (get_or bytes (i / per * (per + 1) + per) 0) (i % per)

-- the bytes of n samples
abbrev pub packed_length : ℕ → ℕ → ℕ
packed_length per n = n * (per + 1) / per

-- RAW10: two lower bits of each, four samples in five bytes
abbrev pub sample10 : List ℕ → ℕ → ℕ
sample10 bytes i = sample_at 2 4 bytes i

abbrev pub length10 : ℕ → ℕ
length10 n = packed_length 4 n
