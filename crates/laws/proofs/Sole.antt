-- A promise that says what an answer is leaves no second one.
use mathlib.Core.Path.{◌≡◌, sym, ◌∙◌}

-- any two that are x are one
abbrev pub Sole : {A : Type 0} → A → Type 0
Sole {A} x = (a b : A) → a ≡ x → b ≡ x → a ≡ b

pub sole : {A : Type 0} (x : A) → Sole x
sole x a b p q = p ∙ sym q
