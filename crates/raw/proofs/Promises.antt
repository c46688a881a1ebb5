-- What is promised of `unpack_raw10`, for any sides and any two buffers.
use Prim.Native.Nat.{ℕ, ◌/◌, ◌%◌, ◌<◌}
use mathlib.Core.List.{List, [], ◌∷◌}
use mathlib.Core.Path.{◌≡◌, refl}
use native.Mathlib.Omega.{arith}
use lib.ListN.{length, get_or}
use Rattle.std.specs.Prelude.{Ok}
use Rattle.laws.specs.Table.{tabulate}
use Rattle.laws.proofs.Tables.{get_d_tabulate}
use Rattle.laws.proofs.Sole.{Sole, sole}
use Rattle.verdict.specs.Answer.{nothing}
use Rattle.verdict.proofs.Verdicts.{Tabled, Refuses, refuses}
use Rattle.verdict.proofs.Answers.{paper_is_told}
use Rattle.window.specs.Shape.{bad_side, bad_sides, sites_of}
use Rattle.raw.specs.Packed.{sample10}
use Rattle.raw.specs.Unpack.{unpack_verdict, unpack_answer, paper_of, unpack_paper, unpack_buffer}
use Rattle.raw.proofs.Samples.{sample_below, sample_occurs}
use Rattle.raw.proofs.Unpacks.{tests, table, written_is, done_clear}

module _ (w h : ℕ) (bytes out : List ℕ) where
  -- only: no second answer and no second final buffer meets the promise
  pub only : Sole (unpack_answer w h (length bytes) (length out)) × Sole (unpack_buffer w h bytes out)
  only = (sole _, sole _)

  -- the paper's numbers are those of the answer
  pub paper_is : paper_of (unpack_answer w h (length bytes) (length out)) ≡ unpack_paper w h (length bytes) (length out)
  unfolding unpack_answer unpack_paper
  paper_is = paper_is_told nothing nothing (unpack_verdict w h (length bytes) (length out))

  -- given: 1 and 4 exactly as document 01 tables them, in that order (`tests` has the table)
  pub given : Tabled (unpack_verdict w h (length bytes) (length out)) (tests w h (length bytes) (length out))
  given = table w h (length bytes) (length out)

  -- refused: where the number is not 0 the buffer is as it was, and where it is 0 so is the place
  pub refused : Refuses (unpack_paper w h (length bytes) (length out)).number (unpack_paper w h (length bytes) (length out)).place
      (unpack_buffer w h bytes out ≡ out)
  unfolding unpack_paper unpack_buffer
  refused = refuses (unpack_verdict w h (length bytes) (length out)) given refl (λ r e. rw e)

  -- every unpacked sample is below 1,024
  pub below : ((k : ℕ) → get_or bytes k 0 < 256) → unpack_answer w h (length bytes) (length out) ≡ Ok nothing
      → (i : ℕ) → i < length out → get_or (unpack_buffer w h bytes out) i 0 < 1024
  below small done i inside =
      let written : tabulate (length out) (sample10 bytes) ≡ unpack_buffer w h bytes out =
      written_is w h bytes out (done_clear w h (length bytes) (length out) done) in
      rw (← written, get_d_tabulate (length out) (sample10 bytes) i inside) (sample_below 2 4 bytes small i)

-- and each of the 2^10 values occurs: as the first sample of five bytes
pub occurs : (v : ℕ) → v < 1024
    → get_or (unpack_buffer 2 2 (v / 4 ∷ v % 4 ∷ v % 4 ∷ v % 4 ∷ v % 4 ∷ []) (0 ∷ 0 ∷ 0 ∷ 0 ∷ [])) 0 0 ≡ v
unfolding unpack_buffer unpack_verdict bad_sides bad_side sites_of tabulate
occurs v small = sample_occurs 2 4 v (omega arith)
