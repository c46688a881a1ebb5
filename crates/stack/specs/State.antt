-- Document 01, "Stack", as document 02 i amends it: what is kept of a stack, and 11 of it, by the papers' tests and no others.
use Rattle.std.specs.Prelude.{ℕ, ◌*◌, Bool, ◌||◌, ◌&&◌, List, eqb, ltb, length}
use Rattle.laws.specs.First.{some_to}
use Rattle.verdict.specs.Verdict.{Verdict, ◌⨟◌}
use Rattle.window.specs.View.{seen}
use Rattle.refusals.specs.Judge.{length_of}

-- the count k of frames, which the caller keeps, and four lent buffers, one number a site: the sum s of its samples, the sum q of their squares, and its
-- extremes, the least sample and the greatest
pub record Stack : Type 0 where
  pub frames : ℕ
  pub sums : List ℕ
  pub squares : List ℕ
  pub least : List ℕ
  pub greatest : List ℕ

abbrev pub stack_of : ℕ → List ℕ → List ℕ → List ℕ → List ℕ → Stack
stack_of k sums squares least greatest = record { frames = k; sums = sums; squares = squares; least = least; greatest = greatest }

-- refusal 4 of a stack's buffers
abbrev pub stack_lengths : ℕ → ℕ → Stack → Verdict
stack_lengths w h s =
    length_of w h (length s.sums) ⨟ length_of w h (length s.squares) ⨟ length_of w h (length s.least) ⨟ length_of w h (length s.greatest)

-- s > k × full scale, q > k × full scale², or k × q < s² (document 01)
unfoldable pub sums_impossible : ℕ → ℕ → ℕ → ℕ → Bool
sums_impossible full k s q = ltb (k * full) s || (ltb (k * (full * full)) q || ltb (k * q) (s * s))

-- least above greatest, greatest above full scale, s < k × least, or s > k × greatest (document 02, i)
unfoldable pub extremes_impossible : ℕ → ℕ → ℕ → ℕ → ℕ → Bool
extremes_impossible full k s least greatest =
    ltb greatest least || (ltb full greatest || (ltb s (k * least) || ltb (k * greatest) s))

-- with no frames in, least or greatest above 0 (document 02, i)
unfoldable pub empty_extremes : ℕ → ℕ → ℕ → Bool
empty_extremes k least greatest = eqb k 0 && (ltb 0 least || ltb 0 greatest)

-- 11 at one site: any of these tests
unfoldable pub impossible : ℕ → ℕ → ℕ → ℕ → ℕ → ℕ → Bool
impossible full k s q least greatest =
    sums_impossible full k s q || (extremes_impossible full k s least greatest || empty_extremes k least greatest)

-- the same at a site of a stack, as it is seen
abbrev pub impossible_at : ℕ → List ℕ → Stack → ℕ → Bool
impossible_at full mask s i =
    impossible full s.frames (seen mask s.sums i) (seen mask s.squares i) (seen mask s.least i) (seen mask s.greatest i)

-- 11: at some surveyed site of n; any other is seen as zeros, which pass every test
unfoldable pub impossible_in : ℕ → ℕ → List ℕ → Stack → Bool
impossible_in n full mask s = some_to n (impossible_at full mask s)
