-- A list by its length and its elements.
use Rattle.std.specs.Prelude.{ℕ, zero, suc, List, [], ◌∷◌, get_or}

-- what a list holds at i
abbrev pub held : List ℕ → ℕ → ℕ
held list i = get_or list i 0

-- f 0, f 1, .., f (n - 1)
unfoldable pub tabulate : ℕ → (ℕ → ℕ) → List ℕ
tabulate zero f = []
tabulate (suc n) f = f zero ∷ tabulate n (λ (k : ℕ). f (suc k))
