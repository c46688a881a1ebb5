-- Two answers as one, and why the job's answer is that of the library's calls.
use Prim.Native.Nat.{ℕ, ◌*◌, ◌≤◌}
use mathlib.Core.List.{List}
use mathlib.Core.Path.{◌≡◌, refl}
use native.Mathlib.Omega.{arith}
use lib.IntN.{ℤ}
use Rattle.verdict.specs.Verdict.{Verdict, clear}
use Rattle.verdict.specs.declared.Refusal.{Refusal}
use Rattle.std.specs.Prelude.{Result, Ok, Err}
use Rattle.window.proofs.Views.{surveyed_most}
use Rattle.pair.specs.Figures.{spread_of}
use Rattle.pair.specs.Pair.{pair_verdict, pair_answer, pair_paper}
use Rattle.pair.specs.declared.PairFigures.{PairFigures}
use Rattle.pair.proofs.Answers.{answer_is}
use Rattle.dark.specs.Dark.{dark_verdict, dark_answer}
use Rattle.dark.specs.declared.Level.{Level}
use Rattle.stream.specs.Stream.{width_of, height_of, full_of, black_of, mask_of, first_of, second_of, stream_verdict}
use Rattle.stream.specs.Job.{job_verdict, job_answer}
use Rattle.stream.specs.Walk.{together, directly}

-- ---- what two answers make
pub by_pair : (x : Result PairFigures Refusal) (d : Result Level Refusal) {r : Refusal} → x ≡ Err r → Err r ≡ together x d
by_pair x d e = rw e

module _ {x : Result PairFigures Refusal} {f : PairFigures} (e : x ≡ Ok f) {d : Result Level Refusal} where
  pub by_dark : {r : Refusal} → d ≡ Err r → Err r ≡ together x d
  by_dark g = rw (e, g)

  pub by_both : {a b : ℤ} {m : ℕ} → d ≡ Ok (record { numerator = a; denominator = m }) → b ≡ a
      → Ok (record { sites = f.n; p = f.p; q = f.q; r = f.r; r_over = 64 * f.n; dark = b; dark_over = m }) ≡ together x d
  by_both g k = rw (e, g, k)

pub together-same : {x x' : Result PairFigures Refusal} {d d' : Result Level Refusal} → x ≡ x' → d ≡ d' → together x d ≡ together x' d'
together-same e f = rw (e, f)

-- ---- n is few enough to be multiplied
pub pair-few : (w h full : ℕ) (mask first second : List ℕ) → (pair_paper w h full mask first second).figures.n ≤ 16384
unfolding pair_paper spread_of
pair-few w h full mask first second = by (pair_verdict w h full mask first second) refl
  where
    by : (v : Verdict) → pair_verdict w h full mask first second ≡ v → (pair_paper w h full mask first second).figures.n ≤ 16384
    by (Ok _) e = rw e (surveyed_most w h mask)
    by (Err r) e = rw e (omega arith)

-- and as an accepted answer tells it
pub pair_few_told : (w h full : ℕ) (mask first second : List ℕ) (f : PairFigures) → pair_answer w h full mask first second ≡ Ok f → f.n ≤ 16384
pair_few_told w h full mask first second f e =
    let a = answer_is w h full mask first second f e in
    rw a.1 a.0.few

-- ---- the job
module _ (s : List ℕ) where
  -- a fault is the answer
  pub fault_is : {r : Refusal} → stream_verdict s ≡ Err r → Err r ≡ job_answer s
  unfolding job_answer job_verdict
  fault_is e = rw e

  -- without one, the answer is that of the library's calls on what stands in the stream
  pub calls_are : stream_verdict s ≡ clear
      → directly (width_of s) (height_of s) (full_of s) (black_of s) (mask_of s) (first_of s) (second_of s) ≡ job_answer s
  unfolding job_answer job_verdict pair_answer dark_answer
  calls_are clear = by (pair_verdict (width_of s) (height_of s) (full_of s) (mask_of s) (first_of s) (second_of s)) (dark_verdict (width_of s) (height_of s) (full_of s) (black_of s) (mask_of s) (first_of s)) refl refl
    where
      by : (p d : Verdict) → pair_verdict (width_of s) (height_of s) (full_of s) (mask_of s) (first_of s) (second_of s) ≡ p
          → dark_verdict (width_of s) (height_of s) (full_of s) (black_of s) (mask_of s) (first_of s) ≡ d
          → directly (width_of s) (height_of s) (full_of s) (black_of s) (mask_of s) (first_of s) (second_of s) ≡ job_answer s
      by (Ok _) (Ok _) e f = rw (clear, e, f)
      by (Ok _) (Err r) e f = rw (clear, e, f)
      by (Err r) d e f = rw (clear, e)

  pub work_is : stream_verdict s ≡ clear → {w h full black : ℕ} {mask first second : List ℕ}
      → w ≡ width_of s → h ≡ height_of s → full ≡ full_of s → black ≡ black_of s
      → mask ≡ mask_of s → first ≡ first_of s → second ≡ second_of s
      → directly w h full black mask first second ≡ job_answer s
  work_is clear p q f b m x y = rw (p, q, f, b, m, x, y) (calls_are clear)
