-- What is promised of refusals 4 and 11 of a stack, whose meaning adding, the variance and the blinking sites share: both are blind.
use Prim.Native.Nat.{ℕ}
use mathlib.Core.List.{List}
use mathlib.Core.Path.{◌≡◌, ap, fun_ext}
use Rattle.laws.specs.First.{some_to}
use Rattle.window.proofs.Views.{Agree, same_view}
use Rattle.stack.specs.State.{Stack, stack_lengths, impossible_at, impossible_in}

-- two stacks of as many frames that agree at surveyed sites
pub record AgreeStack (mask : List ℕ) (s s' : Stack) : Type 0 where
  pub frames : s.frames ≡ s'.frames
  pub sums : Agree mask s.sums s'.sums
  pub squares : Agree mask s.squares s'.squares
  pub least : Agree mask s.least s'.least
  pub greatest : Agree mask s.greatest s'.greatest

module _ {mask : List ℕ} {s s' : Stack} (a : AgreeStack mask s s') where
  -- are as long
  pub same-lengths : (w h : ℕ) → stack_lengths w h s ≡ stack_lengths w h s'
  same-lengths w h = rw (a.sums.long, a.squares.long, a.least.long, a.greatest.long)

  -- are judged alike at each site
  same-site : (full i : ℕ) → impossible_at full mask s i ≡ impossible_at full mask s' i
  same-site full i =
      rw (
        a.frames,
        ap (λ (v : ℕ → ℕ). v i) (same_view a.sums),
        ap (λ (v : ℕ → ℕ). v i) (same_view a.squares),
        ap (λ (v : ℕ → ℕ). v i) (same_view a.least),
        ap (λ (v : ℕ → ℕ). v i) (same_view a.greatest),
      )

  -- and so 11 refuses both or neither
  pub same-impossible : (n full : ℕ) → impossible_in n full mask s ≡ impossible_in n full mask s'
  unfolding impossible_in
  same-impossible n full = ap (some_to n) (fun_ext (same-site full))
