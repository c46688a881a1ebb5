-- Document 01, "Job program": tagged fields, each a one-byte tag, a two-byte big-endian length and the body.
use Rattle.std.specs.Prelude.{ℕ, ◌+◌, ◌*◌, List, [], ◌∷◌, ltb, length, get_or, take, drop}
use Rattle.verdict.specs.Verdict.{Verdict, clear, ◌⨟◌, refuse_if}
use Rattle.verdict.specs.declared.Refusal.TheVariants.{Cut, OtherTag, OtherLength, Extra}
use Rattle.refusals.specs.Judge.{other_than}

-- two bytes, the high one first
unfoldable pub word_at : List ℕ → ℕ → ℕ
word_at s i = get_or s i 0 * 256 + get_or s (i + 1) 0

-- a field that is due: its tag and the length of its body
pub record Field : Type 0 where
  pub tag : ℕ
  pub long : ℕ

abbrev pub field : ℕ → ℕ → Field
field tag long = record { tag = tag; long = long }

-- where the field at `at` ends
abbrev pub past : ℕ → Field → ℕ
past at f = at + 3 + f.long

-- the body of the field at `at`
abbrev pub body_at : List ℕ → ℕ → ℕ → List ℕ
body_at s at long = take long (drop (at + 3) s)

-- the faults of the field that is due at `at`: the tag first, then the length, then whether the body is all there
unfoldable pub field_at : List ℕ → ℕ → Field → Verdict
field_at s at f =
    refuse_if (Cut at) (ltb (length s) (at + 1))
    ⨟ refuse_if (OtherTag at) (other_than f.tag (get_or s at 0))
    ⨟ refuse_if (Cut at) (ltb (length s) (at + 3))
    ⨟ refuse_if (OtherLength at) (other_than f.long (word_at s (at + 1)))
    ⨟ refuse_if (Cut at) (ltb (length s) (past at f))

-- of fields that follow each other from `at` on, the fault that is met first
unfoldable pub fields_at : List ℕ → ℕ → List Field → Verdict
unfolding field_at
fields_at s at [] = clear
fields_at s at (f ∷ fs) = field_at s at f ⨟ fields_at s (past at f) fs

-- where they end
unfoldable pub past_all : ℕ → List Field → ℕ
past_all at [] = at
past_all at (f ∷ fs) = past_all (past at f) fs

-- 23: bytes after the last field, which ends before `at`
abbrev pub extra_at : List ℕ → ℕ → Verdict
extra_at s at = refuse_if (Extra at) (ltb at (length s))
