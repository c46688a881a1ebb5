-- Document 01, "What the bench does": mask codes, and a frame read only through its mask, site by site.
use Rattle.std.specs.Prelude.{ℕ, Bool, cond, List, eqb, ltb, get_or}

-- mask codes, one byte a site: 0 surveyed, 1 gap, 2 defect, 3 filled
abbrev pub surveyed : ℕ → Bool
surveyed code = eqb code 0

abbrev pub defect : ℕ
defect = 2

abbrev pub filled : ℕ
filled = 3

-- a code above another
abbrev pub code_above : ℕ → List ℕ → ℕ → Bool
code_above code mask i = ltb code (get_or mask i 0)

-- a code above 3
abbrev pub bad_code : List ℕ → ℕ → Bool
bad_code mask i = code_above 3 mask i

-- a value at a site of this code: 0 where it is not surveyed
unfoldable pub seen_at : ℕ → ℕ → ℕ
seen_at code value = cond (surveyed code) value 0

-- the sample at a surveyed site, 0 at any other
unfoldable pub seen : List ℕ → List ℕ → ℕ → ℕ
unfolding seen_at
seen mask frame i = seen_at (get_or mask i 0) (get_or frame i 0)

-- 1 at a surveyed site, 0 at any other
unfoldable pub one : List ℕ → ℕ → ℕ
unfolding seen_at
one mask i = seen_at (get_or mask i 0) 1

-- above full scale
abbrev pub above : ℕ → (ℕ → ℕ) → ℕ → Bool
above full view i = ltb full (view i)
