-- What walks of a buffer ask and promise: how many sites its length lets be walked.
use Rattle.std.specs.Prelude.{ℕ, cond, eqb}
use Rattle.window.specs.Shape.{sites_of}

-- all sites of the window, where a buffer of this length has just as many, or none
unfoldable pub walked : ℕ → ℕ → ℕ → ℕ
walked w h long = cond (eqb long (sites_of w h)) (sites_of w h) 0
