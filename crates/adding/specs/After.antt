-- Document 01, "Stack", as document 02 i amends it: a stack with one frame more.
use Rattle.std.specs.Prelude.{ℕ, zero, suc, ◌+◌, ◌*◌, cond, List, length, get_or}
use Rattle.laws.specs.Greatest.{lesser, greater}
use Rattle.laws.specs.Table.{tabulate}
use Rattle.window.specs.View.{surveyed, seen}
use Rattle.stack.specs.State.{Stack}

-- a buffer made anew, each entry from its site and from what stood there
unfoldable pub renewed : (ℕ → ℕ → ℕ) → List ℕ → List ℕ
renewed f buffer = tabulate (length buffer) (λ (i : ℕ). f i (get_or buffer i 0))

-- the square of what is seen
abbrev pub squared : (ℕ → ℕ) → ℕ → ℕ
squared view i = view i * view i

-- sums with what is seen at each site added: at a site that is not surveyed 0 is
abbrev pub added : (ℕ → ℕ) → List ℕ → List ℕ
added view sums = renewed (λ (i sum : ℕ). sum + view i) sums

-- a site's least (choose is lesser) or greatest (greater) after one sample more, k frames being in before: the first sample is both
unfoldable pub extreme : (ℕ → ℕ → ℕ) → ℕ → ℕ → ℕ → ℕ
extreme choose zero before sample = sample
extreme choose (suc k) before sample = choose before sample

-- the same at a site of this code: what stands at a site that is not surveyed stays
unfoldable pub extreme_at : (ℕ → ℕ → ℕ) → ℕ → ℕ → ℕ → ℕ → ℕ
extreme_at choose k code before sample = cond (surveyed code) (extreme choose k before sample) before

-- and of a whole buffer
abbrev pub extremes : (ℕ → ℕ → ℕ) → ℕ → List ℕ → (ℕ → ℕ) → List ℕ → List ℕ
extremes choose k mask view buffer = renewed (λ (i before : ℕ). extreme_at choose k (get_or mask i 0) before (view i)) buffer

-- the stack with the frame: at surveyed sites s + p and q + p², the lesser and the greater; all other sites' numbers stay
abbrev pub with_frame : List ℕ → List ℕ → Stack → Stack
with_frame mask frame s = record {
  frames = s.frames + 1;
  sums = added (seen mask frame) s.sums;
  squares = added (squared (seen mask frame)) s.squares;
  least = extremes lesser s.frames mask (seen mask frame) s.least;
  greatest = extremes greater s.frames mask (seen mask frame) s.greatest;
}
