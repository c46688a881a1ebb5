-- One call at two limits.
use Prim.Native.Nat.{ℕ, ◌*◌, ◌≤◌, ◌<◌}
use mathlib.Core.Bool.{false}
use mathlib.Core.List.{List}
use mathlib.Core.Path.{◌≡◌, sym, ◌∙◌}
use native.Mathlib.Omega.{arith}
use Rattle.laws.specs.Table.{held}
use Rattle.laws.proofs.Cases.{is_within}
use Rattle.laws.proofs.Tables.{get_d_tabulate, tabulate_ext}
use Rattle.verdict.specs.Verdict.{Verdict, if_clear}
use Rattle.std.specs.Prelude.{Ok, Err}
use Rattle.blocks.specs.Areas.{blocks_of}
use Rattle.shading.specs.Judge.{asked, bad_limit, lent_verdict, judge_verdict, judge_answer, shade_in, shade_at, shades_of, judge_buffer, judge_fails}
use Rattle.shading.specs.declared.Lengths.{Lengths}
use Rattle.shading.specs.Shade.{Written}
use Rattle.shading.proofs.Shades.{Eased, eased}

-- a limit that 3 does not refuse
good_limit : (limit : ℕ) → 1 ≤ limit → limit ≤ 16 → bad_limit limit ≡ false
unfolding bad_limit
good_limit limit p q = is_within 16 limit (record { low = p; high = q })

module _ (w h full black order low high : ℕ) (long : Lengths) (totals counts : List ℕ) (some : 1 ≤ low) (up : low ≤ high) (most : high ≤ 16) where
  same_verdict : judge_verdict (asked w h full black order low) long totals counts ≡ judge_verdict (asked w h full black order high) long totals counts
  unfolding judge_verdict lent_verdict
  same_verdict = rw (good_limit low some (omega arith), good_limit high (omega arith) most)

  pub same_answer : judge_answer (asked w h full black order low) long totals counts ≡ judge_answer (asked w h full black order high) long totals counts
  unfolding judge_answer
  same_answer = rw same_verdict

  pub eased_at : (j : ℕ) → Eased (shade_at (asked w h full black order low) totals counts j) (shade_at (asked w h full black order high) totals counts j)
  unfolding shade_in
  eased_at j = eased black low high _ _ up

  -- a part of the shades that is the same at both limits is the same in the buffer
  pub same_buffer : (part : Written → ℕ) (buffer : List ℕ)
      → ((j : ℕ) → part (shade_at (asked w h full black order low) totals counts j) ≡ part (shade_at (asked w h full black order high) totals counts j))
      → judge_buffer part (asked w h full black order low) long totals counts buffer ≡ judge_buffer part (asked w h full black order high) long totals counts buffer
  unfolding judge_buffer
  same_buffer part buffer same = rw (same_verdict, tabulate_ext (2 * blocks_of w h) _ _ (λ j l. same j))

  pub still_passes : (fails : List ℕ) (j : ℕ) → j < 2 * blocks_of w h
      → held (judge_fails (asked w h full black order low) long totals counts fails) j ≡ 0
      → held (judge_fails (asked w h full black order high) long totals counts fails) j ≡ 0
  unfolding judge_buffer
  still_passes fails j l = rw same_verdict (by (judge_verdict (asked w h full black order high) long totals counts))
    where
      by : (v : Verdict)
          → held (if_clear v (shades_of (λ (s : Written). s.fail) (asked w h full black order low) totals counts) fails) j ≡ 0
          → held (if_clear v (shades_of (λ (s : Written). s.fail) (asked w h full black order high) totals counts) fails) j ≡ 0
      by (Ok u) e =
          get_d_tabulate (2 * blocks_of w h) _ j l
          ∙ (eased_at j).fail (sym (get_d_tabulate (2 * blocks_of w h) (λ (i : ℕ). (shade_at (asked w h full black order low) totals counts i).fail) j l) ∙ e)
      by (Err r) e = e
