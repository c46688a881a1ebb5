-- What the inner functions ask and promise.
use Rattle.std.specs.Prelude.{ℕ, ◌*◌, Bool, cond, ◌||◌, ◌&&◌, List, eqb, ltb, leb, length}
use Rattle.stack.specs.State.{Stack, impossible_in}

-- buffers of these lengths that can be walked with a mask of n codes, at a full scale whose products fit
unfoldable pub readable : ℕ → ℕ → ℕ → ℕ → ℕ → ℕ → Bool
readable n full sums squares least greatest =
    leb full 4095 && (eqb sums n && (eqb squares n && (eqb least n && eqb greatest n)))

-- the most that a greatest sample can be: 0 with no frames in
unfoldable pub top : ℕ → ℕ → ℕ
top full k = cond (eqb k 0) 0 full

-- the count, or 1 with no frames in: there s is refused where it is above k × greatest, 0, so that s < 1 × least asks whether the least is above 0
unfoldable pub or_one : ℕ → ℕ
or_one k = cond (eqb k 0) 1 k

-- 11 at one site by what is the same at every site: the count k, the count or 1, k × full scale² and the most that a greatest sample can be. The law
-- `by_limits` says that these tests are all of 11
unfoldable pub beyond : ℕ → ℕ → ℕ → ℕ → ℕ → ℕ → ℕ → ℕ → Bool
beyond k k_or_one most_squares most s q least greatest =
    (((ltb (k * q) (s * s) || ltb most_squares q) || ltb s (k_or_one * least)) || ltb (k * greatest) s) || ltb most greatest

-- whether 11 is found, of a stack of at most 100 frames that can be walked: any other gets 2, 3 or 4 before
unfoldable pub found_impossible : ℕ → List ℕ → Stack → Bool
found_impossible full mask s =
    readable (length mask) full (length s.sums) (length s.squares) (length s.least) (length s.greatest)
    && (leb s.frames 100 && impossible_in (length mask) full mask s)
