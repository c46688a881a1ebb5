-- Document 01, "Refusal numbers", as document 02 d amends them: what a verdict makes of a call. This is the frame of every call: its own crate says the tests and the figures.
use Rattle.std.specs.Prelude.{ℕ, Result, Ok}
use Rattle.std.specs.Result.{result_unwrap_or}
use Rattle.verdict.specs.declared.Refusal.{Refusal}
use Rattle.verdict.specs.Verdict.{Verdict, ◌⨟◌, number_of, place_of, over_of, if_clear}

-- the answer: the figures where nothing is refused, else the refusal
abbrev pub answer_of : {F : Type 0} → Verdict → F → Result F Refusal
answer_of v figures = v ⨟ Ok figures

-- document 01's ("the paper's") numbers of a call that cannot give 6: a refusal's number and place, and its figures, of type F
pub record Paper (F : Type 0) : Type 0 where
  pub number : ℕ
  pub place : ℕ
  pub figures : F

-- of an answer: 0, 0 and its figures, or the refusal's number and place, and zeros
abbrev pub answer_paper : {F : Type 0} → F → Result F Refusal → Paper F
answer_paper zeros answer = record { number = number_of answer; place = place_of answer; figures = result_unwrap_or answer zeros }

-- of a verdict: 0, 0 and the figures where nothing is refused, else the refusal's number and place, and the zeros
abbrev pub paper_for : {F : Type 0} → Verdict → F → F → Paper F
paper_for v figures zeros = record { number = number_of v; place = place_of v; figures = if_clear v figures zeros }

-- the same of a call that can give 6, and so tells how many samples are over (document 02, d)
pub record CountedPaper (F : Type 0) : Type 0 where
  pub number : ℕ
  pub place : ℕ
  pub over : ℕ
  pub figures : F

-- of an answer: 0, 0, 0 and its figures, or the refusal's number, place and count, and zeros
abbrev pub answer_counted : {F : Type 0} → F → Result F Refusal → CountedPaper F
answer_counted zeros answer =
    record { number = number_of answer; place = place_of answer; over = over_of answer; figures = result_unwrap_or answer zeros }

-- of a verdict, likewise
abbrev pub counted_for : {F : Type 0} → Verdict → F → F → CountedPaper F
counted_for v figures zeros =
    record { number = number_of v; place = place_of v; over = over_of v; figures = if_clear v figures zeros }

-- the figures of a call that answers no number but a refusal's
abbrev pub Nothing : Type 0
Nothing = Unit {0}

abbrev pub nothing : Nothing
nothing = tt
