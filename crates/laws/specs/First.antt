-- The first index at which a test holds, and at how many it does.
use Rattle.std.specs.Prelude.{ℕ, zero, suc, Bool, cond, ltb}
use Rattle.laws.specs.Sum.{sum_to}

-- the first index below n at which the test holds, and n where there is none
unfoldable pub first_to : ℕ → (ℕ → Bool) → ℕ
first_to zero test = 0
first_to (suc n) test =
    cond (ltb (first_to n test) n) (first_to n test) (cond (test n) n (suc n))

-- whether the test holds at some index below n
abbrev pub some_to : ℕ → (ℕ → Bool) → Bool
some_to n test = ltb (first_to n test) n

-- at how many indices below n the test holds: a sum of 0 and 1
abbrev pub count_to : ℕ → (ℕ → Bool) → ℕ
count_to n test = sum_to n (λ (i : ℕ). cond (test i) 1 0)
