-- Document 01, "Stack", as document 02 i amends it: frames added one after the other, from zeros, with one shape, mask and full scale throughout.
use Rattle.std.specs.Prelude.{ℕ, ◌+◌, List, [], ◌∷◌}
use Rattle.laws.specs.Table.{tabulate}
use Rattle.verdict.specs.Verdict.{Verdict, clear, ◌⨟◌}
use Rattle.window.specs.Shape.{sites_of}
use Rattle.stack.specs.State.{Stack, stack_of}
use Rattle.adding.specs.Add.{add_verdict, add_stack}

-- no frame in, and n sites, all zero
abbrev pub empty : ℕ → Stack
empty n = let zeros = tabulate n (λ (i : ℕ). 0) in stack_of 0 zeros zeros zeros zeros

module _ (w h full : ℕ) (mask : List ℕ) where
  -- a run of frames: the head of the list is the newest
  unfoldable pub run : List (List ℕ) → Stack
  run [] = empty (sites_of w h)
  run (frame ∷ frames) = add_stack w h full mask frame (run frames)

  -- the first refusal in a run, and clear where every frame is accepted
  unfoldable pub run_verdict : List (List ℕ) → Verdict
  run_verdict [] = clear
  run_verdict (frame ∷ frames) = run_verdict frames ⨟ add_verdict w h full mask frame (run frames)

-- the sum over a run of frames of a number that each has
unfoldable pub over_frames : List (List ℕ) → (List ℕ → ℕ) → ℕ
over_frames [] f = 0
over_frames (frame ∷ frames) f = over_frames frames f + f frame
