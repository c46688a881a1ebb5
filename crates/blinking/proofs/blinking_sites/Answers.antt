-- `blinking_sites` is right because it counts only where nothing is refused, and there a spread has 16 bits.
use Prim.Native.Nat.{ℕ}
use mathlib.Core.Path.{◌≡◌, sym, ap, ◌∙◌}
use native.Mathlib.Omega.{arith}
use Rattle.std.specs.Prelude.{Ok}
use Rattle.verdict.specs.Verdict.{clear}
use Rattle.blinking.specs.Blinking.{blinking_verdict, blinking_count, blinking_answer, blinking_paper}
use Rattle.blinking.proofs.Blinkings.{accepted, countable, accepted_is}
use Rattle.blinking.proofs.blinking_sites.Goals as goal
use Rattle.blinking.proofs.blinking_sites.Goals.{In_ok-judge_blinking, After-count_blinking-count, After-from}

passed : (c : In_ok-judge_blinking) → let a = c.args in
    blinking_verdict a.width a.height a.full_scale a.spread a.mask.now a.stack.now ≡ clear
passed c = sym c.in_ok-judge_blinking.ensures

pub overflow_cast-spread : goal.overflow_cast-spread
overflow_cast-spread c = omega (arith, (accepted _ _ _ _ _ _ (passed (goal.at.overflow_cast-spread c).In_ok-judge_blinking)).lent.wide.high)

pub count_blinking-count-requires : goal.count_blinking-count-requires
count_blinking-count-requires c = countable _ _ _ _ _ _ (rw (← c.stack.view_is) at (passed (goal.at.count_blinking-count-requires c).In_ok-judge_blinking))

-- the count that is answered
answered : (c : After-from) → let a = c.args in c.from.result ≡ blinking_count a.width a.height a.spread a.mask.now a.stack.now
answered c =
    rw (← c.stack.view_is)
    (c.from.ensures ∙ accepted_is _ _ _ _ _ _ (rw (← c.stack.view_is) at (passed (goal.at.After-from c).In_ok-judge_blinking)) _ c.count_blinking-count.ensures)

pub returns-clause-answer : goal.returns-clause-answer
unfolding blinking_answer
returns-clause-answer c = rw (passed (goal.at.returns-clause-answer c).In_ok-judge_blinking) (ap Ok (answered c))

pub returns-clause-paper : goal.returns-clause-paper
unfolding blinking_paper
returns-clause-paper c =
    rw (passed (goal.at.returns-clause-paper c).In_ok-judge_blinking) (ap (λ (n : ℕ). record { number = 0; place = 0; figures = n }) (answered c))
