-- Document 01, "Refusal numbers", as document 02 d amends them: verdicts in turn, of which the first that refuses is given.
use Rattle.std.specs.Prelude.{ℕ, Bool, cond, Result, Ok, Err}
use Rattle.laws.specs.First.{first_to, some_to}
use Rattle.verdict.specs.declared.Refusal.{Refusal}
use Rattle.verdict.specs.Numbers.{refusal_number, refusal_place, refusal_count}

-- what a test says, or several in turn: nothing is refused, or something is
abbrev pub Verdict : Type 0
Verdict = Result (Unit {0}) Refusal

abbrev pub clear : Verdict
clear = Ok tt

-- one after the other: the first that refuses, else the last, be it a verdict or an answer
infixr 5 ◌⨟◌
abbrev pub ◌⨟◌ : {A R : Type 0} → Result (Unit {0}) R → Result A R → Result A R
Ok u ⨟ b = b
Err r ⨟ b = Err r

-- refused where the test applies
abbrev pub refuse_if : {R : Type 0} → R → Bool → Result (Unit {0}) R
refuse_if r applies = cond applies (Err r) (Ok tt)

-- refused at the first of n sites at which the test applies
abbrev pub refuse_first : {R : Type 0} → (ℕ → R) → ℕ → (ℕ → Bool) → Result (Unit {0}) R
refuse_first at n test = refuse_if (at (first_to n test)) (some_to n test)

-- the paper's number, place and count of a verdict, or of an answer
abbrev pub number_of : {A : Type 0} → Result A Refusal → ℕ
number_of (Ok x) = 0
number_of (Err r) = refusal_number r

abbrev pub place_of : {A : Type 0} → Result A Refusal → ℕ
place_of (Ok x) = 0
place_of (Err r) = refusal_place r

abbrev pub over_of : {A : Type 0} → Result A Refusal → ℕ
over_of (Ok x) = 0
over_of (Err r) = refusal_count r

-- of two values, the first where nothing is refused, the second where something is
abbrev pub if_clear : {A : Type 0} → Verdict → A → A → A
if_clear (Ok u) accepted refused = accepted
if_clear (Err r) accepted refused = refused
