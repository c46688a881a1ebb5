-- What an operator asks of a run of frames: the sites that jump, told by the frames alone.
use Rattle.std.specs.Prelude.{ℕ, Bool, false, ◌||◌, ◌&&◌, List, [], ◌∷◌, leb, get_or}
use Rattle.laws.specs.Signed.{apart}
use Rattle.window.specs.View.{surveyed}

-- whether some frame of a run passes a test
unfoldable pub some_frame : List (List ℕ) → (List ℕ → Bool) → Bool
some_frame [] test = false
some_frame (frame ∷ frames) test = some_frame frames test || test frame

-- a surveyed site at which two frames of a run differ by at least the spread
unfoldable pub jumps : ℕ → List ℕ → List (List ℕ) → ℕ → Bool
jumps spread mask frames i =
    surveyed (get_or mask i 0) && some_frame frames (λ (f : List ℕ). some_frame frames (λ (g : List ℕ). leb spread (apart (get_or f i 0) (get_or g i 0))))
