-- What the verdict makes of the answer, its numbers and the buffer.
use Prim.Native.Nat.{ℕ, ◌*◌, ◌/◌}
use mathlib.Core.List.{List, [], ◌∷◌}
use mathlib.Core.Path.{◌≡◌, refl, ap₂, ◌∙◌}
use native.Mathlib.Nat.{mul_assoc, mul_left_comm}
use native.Mathlib.Omega.{arith}
use lib.ListN.{length}
use Rattle.laws.specs.Table.{tabulate}
use Rattle.verdict.proofs.Verdicts.{Test, Tabled, test, tabled, passed_head, passed_tail}
use Rattle.verdict.proofs.Answers.{was_accepted}
use Rattle.verdict.specs.Verdict.{clear}
use Rattle.verdict.specs.Answer.{nothing}
use Rattle.verdict.specs.declared.Refusal.{Refusal}
use Rattle.verdict.specs.declared.Refusal.TheVariants.{Sides, Length}
use Rattle.std.specs.Prelude.{Ok, Err}
use Rattle.window.specs.Shape.{bad_sides, sites_of}
use Rattle.window.proofs.Sides.{Sides as Legal, sides}
use Rattle.refusals.specs.Judge.{other_than}
use Rattle.refusals.proofs.Chains.{same_length}
use Rattle.raw.specs.Packed.{sample10, length10}
use Rattle.raw.specs.Unpack.{unpack_verdict, unpack_answer, paper_of, unpack_paper, unpack_buffer}

-- what an accepted call's numbers are
pub record Accepted (w h bytes out : ℕ) : Type 0 where
  pub legal : Legal w h
  pub samples : out ≡ h * w
  pub groups : 4 * bytes ≡ 5 * out

-- the sites come in fours
quarters : {w h : ℕ} → Legal w h → h * w ≡ 4 * (h / 2 * (w / 2))
quarters {w} {h} s =
    let p : h ≡ 2 * (h / 2) = omega (arith, s.high.even) in
    let q : w ≡ 2 * (w / 2) = omega (arith, s.wide.even) in
    ap₂ (λ (x y : ℕ). x * y) p q ∙ mul_assoc 2 (h / 2) (2 * (w / 2)) ∙ omega (arith, mul_left_comm (h / 2) 2 (w / 2))

five_fourths : (n k bytes : ℕ) → n ≡ 4 * k → bytes ≡ n * 5 / 4 → 4 * bytes ≡ 5 * n
five_fourths n k bytes e b = let m : bytes ≡ 5 * k = omega arith in omega arith

module _ (w h bytes out : ℕ) where
  -- the tests in the order of document 01
  abbrev pub tests : List Test
  tests =
      test Sides (bad_sides w h)
      ∷ test Length (other_than (length10 (sites_of w h)) bytes)
      ∷ test Length (other_than (sites_of w h) out)
      ∷ []

  pub table : Tabled (unpack_verdict w h bytes out) tests
  unfolding unpack_verdict
  table = tabled _ _

  pub accepted : unpack_verdict w h bytes out ≡ clear → Accepted w h bytes out
  accepted e =
      let n = sites_of w h in
      let p = table.clear e in
      let s = sides w h (passed_head p) in
      let b = same_length (length10 n) bytes (passed_head (passed_tail p)) in
      let o = same_length n out (passed_head (passed_tail (passed_tail p))) in
      let whole = five_fourths n (h / 2 * (w / 2)) bytes (s.sites ∙ quarters s) b in
      record { legal = s; samples = o ∙ s.sites; groups = omega (arith, whole, o) }

  pub done_clear : unpack_answer w h bytes out ≡ Ok nothing → unpack_verdict w h bytes out ≡ clear
  unfolding unpack_answer
  done_clear e = (was_accepted (unpack_verdict w h bytes out) e).0

-- the buffer that an accepted call leaves
pub written_is : (w h : ℕ) (bytes out : List ℕ) → unpack_verdict w h (length bytes) (length out) ≡ clear
    → tabulate (length out) (sample10 bytes) ≡ unpack_buffer w h bytes out
unfolding unpack_buffer
written_is w h bytes out e = rw e

module _ (w h : ℕ) (bytes out : List ℕ) where
  pub refused_is : (r : Refusal) → unpack_verdict w h (length bytes) (length out) ≡ Err r
      → (Err r ≡ unpack_answer w h (length bytes) (length out))
      × ((paper_of (Err r) ≡ unpack_paper w h (length bytes) (length out)) × (out ≡ unpack_buffer w h bytes out))
  unfolding unpack_answer unpack_paper unpack_buffer
  refused_is r e = rw e (refl, (refl, refl))
