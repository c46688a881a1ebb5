-- What one turn of 11's walk does, over plain values.
use Prim.Native.Nat.{ℕ, zero, suc, ◌+◌, ◌*◌, ◌%◌, ◌≤◌, max}
use mathlib.Core.Bool.{Bool, true, false, cond, ◌&&◌, ◌||◌}
use mathlib.Core.List.{List}
use mathlib.Core.Logic.{◌⊎◌, inl, inr}
use mathlib.Core.Path.{◌≡◌, refl, sym, ap, ap₂, ◌∙◌}
use native.Mathlib.Nat.{max-eq_left}
use native.Mathlib.Omega.{arith}
use lib.Dec.{leb}
use lib.ListN.{length, get_or}
use borrow.Author.Tests.{leb-true, ne_eqb}
use Rattle.laws.proofs.Cases.{true_or_false}
use Rattle.laws.proofs.Firsts.{some_none, some_more}
use Rattle.verdict.specs.Verdict.{clear, refuse_if}
use Rattle.verdict.specs.declared.Refusal.TheVariants.{Impossible}
use Rattle.window.specs.View.{surveyed, seen_at, seen}
use Rattle.stack.specs.State.{Stack, stack_of, impossible, impossible_at, impossible_in}
use Rattle.stack.specs.Walk.{readable, top, or_one, beyond, found_impossible}
use Rattle.stack.proofs.Sites.{is_possible, possible_zeros, by_limits}

-- 11 is never met where a site is not surveyed: it is seen as zeros
asked_seen : (full k code s q least greatest : ℕ)
    → (surveyed code && impossible full k s q least greatest)
    ≡ impossible full k (seen_at code s) (seen_at code q) (seen_at code least) (seen_at code greatest)
unfolding seen_at
asked_seen full k code s q least greatest = by (surveyed code)
  where
    by : (b : Bool) → (b && impossible full k s q least greatest) ≡ impossible full k (cond b s 0) (cond b q 0) (cond b least 0) (cond b greatest 0)
    by true = refl
    by false = sym (is_possible full k 0 0 0 0 (possible_zeros full k))

-- the count, or 1
pub at_least_one : (k : ℕ) → max k 1 ≡ or_one k
unfolding or_one
at_least_one zero = refl
at_least_one (suc k) = max-eq_left (omega arith) ∙ rw (ne_eqb (suc k) 0 (λ e. omega arith)) refl

module _ (full : ℕ) (mask : List ℕ) (s : Stack) where
  -- a turn of 11's walk
  pub asked_none : false ≡ impossible_in 0 full mask s
  unfolding impossible_in
  asked_none = sym (some_none _)

  pub asked_more : (i k_or_one most : ℕ) (found bad : Bool) → k_or_one ≡ or_one s.frames → most ≡ top full s.frames → found ≡ impossible_in i full mask s
      → bad
      ≡ beyond s.frames k_or_one (s.frames * (full * full)) most (get_or s.sums i 0) (get_or s.squares i 0) (get_or s.least i 0) (get_or s.greatest i 0)
      → (found || surveyed (get_or mask i 0) && bad) ≡ impossible_in (i + 1) full mask s
  unfolding impossible_in seen
  asked_more i k_or_one most found bad o m f e =
      ap₂ ◌||◌ f (ap (λ (b : Bool). surveyed (get_or mask i 0) && b) (e ∙ limited) ∙ asked_seen full s.frames (get_or mask i 0) _ _ _ _)
      ∙ some_more (impossible_at full mask s) i
    where
      limited : beyond s.frames k_or_one (s.frames * (full * full)) most (get_or s.sums i 0) (get_or s.squares i 0) (get_or s.least i 0) (get_or s.greatest i 0)
          ≡ impossible full s.frames (get_or s.sums i 0) (get_or s.squares i 0) (get_or s.least i 0) (get_or s.greatest i 0)
      limited = rw (o, m) (by_limits full s.frames (get_or s.sums i 0) (get_or s.squares i 0) (get_or s.least i 0) (get_or s.greatest i 0))

-- 11 of a whole stack, which is walked by the rest of its count by 128
module _ (full : ℕ) (mask : List ℕ) (s : Stack) where
  abbrev lent : ℕ → Stack
  lent frames = stack_of frames s.sums s.squares s.least s.greatest

  abbrev Walkable : Bool
  Walkable = readable (length mask) full (length s.sums) (length s.squares) (length s.least) (length s.greatest)

  -- what is found is heeded where the count is at most 100 alone, so it has to be right only there
  pub heeded : (found : Bool) → Walkable ≡ true → (s.frames ≤ 100 → found ≡ impossible_in (length mask) full mask s)
      → (leb s.frames 100 && found) ≡ found_impossible full mask s
  unfolding found_impossible
  heeded found e f = rw e (by (true_or_false (leb s.frames 100)))
    where
      by : (leb s.frames 100 ≡ true) ⊎ (leb s.frames 100 ≡ false) → (leb s.frames 100 && found) ≡ (leb s.frames 100 && impossible_in (length mask) full mask s)
      by (inl t) = rw (f (leb-true s.frames 100 t)) refl
      by (inr t) = rw t

  -- what the walk by the rest finds is 11, where the count is at most 100, and so its own rest
  pub asked-all : (found : Bool) → Walkable ≡ true → found ≡ impossible_in (length mask) full mask (lent (s.frames % 128)) → (leb s.frames 100 && found) ≡ found_impossible full mask s
  asked-all found e f = heeded found e (λ few. let same : s.frames % 128 ≡ s.frames = omega arith in f ∙ (rw same refl))

  -- no other buffers are asked
  pub not_asked : Walkable ≡ false → clear ≡ refuse_if Impossible (found_impossible full mask s)
  unfolding found_impossible
  not_asked e = rw e
