-- Every promise leaves one answer and one final state of every buffer: each clause of a contract says that an answer, or a buffer at exit, IS
-- one of these (`tools/promises` sees that none is without its clause), and `Sole x` says that any two that are x are one.
use Prim.Native.Nat.{ℕ}
use mathlib.Core.List.{List}
use lib.ListN.{length}
use Rattle.laws.proofs.Sole.{Sole}
use Rattle.raw.specs.Unpack.{unpack_answer, unpack_buffer}
use Rattle.raw.proofs.Promises as raw
use Rattle.pair.specs.Pair.{pair_answer}
use Rattle.pair.proofs.Promises as pair
use Rattle.dark.specs.Dark.{dark_answer}
use Rattle.dark.proofs.Promises as dark
use Rattle.stack.specs.State.{Stack}
use Rattle.adding.specs.Add.{add_answer, add_stack}
use Rattle.adding.proofs.Promises as adding
use Rattle.variance.specs.Variance.{variance_answer}
use Rattle.variance.proofs.Promises as variance
use Rattle.blinking.specs.Blinking.{blinking_answer}
use Rattle.blinking.proofs.Promises as blinking
use Rattle.pattern.specs.Lines as pattern-lines
use Rattle.pattern.specs.Pattern.{pattern_answer}
use Rattle.pattern.proofs.Promises as pattern
use Rattle.sites.specs.Find.{find_answer, find_mask}
use Rattle.repair.specs.Repair.{repair_answer, repair_frame, repair_mask}
use Rattle.sites.proofs.Promises as finding
use Rattle.repair.proofs.Promises as repairing
use Rattle.lines.specs.Lines as plane-lines
use Rattle.lines.specs.Marks.{lines_answer, lines_buffer}
use Rattle.lines.proofs.Promises as marking
use Rattle.colour.specs.Colour.{colour_answer}
use Rattle.colour.proofs.Promises as colour
use Rattle.gain.specs.Gain.{Curve, transfer_answer}
use Rattle.gain.proofs.Promises as gain
use Rattle.stream.specs.Job.{job_answer}
use Rattle.stream.proofs.Promises as stream
use Rattle.blocks.specs.Table.{table_answer, table_totals, table_counts}
use Rattle.blocks.specs.Recode.{recode_answer, recode_mask, recode_totals, recode_counts}
use Rattle.blocks.proofs.Promises as blocks
use Rattle.shading.specs.Judge.{asked, lengths, judge_answer, judge_numerators, judge_denominators, judge_refusals, judge_fails}
use Rattle.shading.proofs.Promises as shading

pub record OneAnswer : Type 0 where
  pub unpack_raw10 : (w h : ℕ) (bytes out : List ℕ)
      → Sole (unpack_answer w h (length bytes) (length out)) × Sole (unpack_buffer w h bytes out)
  pub pair-figures : (w h full : ℕ) (mask first second : List ℕ) → Sole (pair_answer w h full mask first second)
  pub dark-level : (w h full black : ℕ) (mask frame : List ℕ) → Sole (dark_answer w h full black mask frame)
  -- the stack afterwards: each of its four buffers at exit is a field of it
  pub stack_add : (w h full : ℕ) (mask frame : List ℕ) (s : Stack)
      → Sole (add_answer w h full mask frame s) × Sole (add_stack w h full mask frame s)
  pub stack_variance : (w h full : ℕ) (mask : List ℕ) (s : Stack) → Sole (variance_answer w h full mask s)
  pub blinking_sites : (w h full spread : ℕ) (mask : List ℕ) (s : Stack) → Sole (blinking_answer w h full spread mask s)
  pub pattern_noise : (lines : ℕ → ℕ → pattern-lines.Lines) (w h full k : ℕ) (mask sums : List ℕ)
      → Sole (pattern_answer lines w h full k mask sums)
  pub find_defects : (w h full t : ℕ) (mask frame out : List ℕ)
      → Sole (find_answer w h full t mask frame (length out)) × Sole (find_mask w h full t mask frame out)
  pub repair : (w h full : ℕ) (mask frame out_frame out_mask : List ℕ)
      → Sole (repair_answer w h full mask frame (length out_frame) (length out_mask))
      × Sole (repair_frame w h full mask frame out_frame (length out_mask))
      × Sole (repair_mask w h full mask frame (length out_frame) out_mask)
  pub defective_lines : (lines : ℕ → ℕ → plane-lines.Lines) (w h full : ℕ) (mask frame marks : List ℕ)
      → Sole (lines_answer lines w h full mask frame (length marks)) × Sole (lines_buffer lines w h full mask frame marks)
  pub colour_ratios : (w h full black order : ℕ) (mask frame : List ℕ) → Sole (colour_answer w h full black order mask frame)
  -- of any list of points, as structs or as rows
  pub photon_transfer : (c : Curve) (first last : ℕ) → Sole (transfer_answer c first last)
  pub shading_table : (w h full : ℕ) (mask frame totals counts : List ℕ)
      → Sole (table_answer w h full mask frame (length totals) (length counts))
      × Sole (table_totals w h full mask frame totals counts)
      × Sole (table_counts w h full mask frame totals counts)
  pub shading_recode : (w h full site code : ℕ) (mask frame totals counts : List ℕ)
      → Sole (recode_answer w h full site code mask frame (length totals) (length counts))
      × Sole (recode_mask w h full site code mask frame (length totals) (length counts))
      × Sole (recode_totals w h full site code mask frame totals counts)
      × Sole (recode_counts w h full site code mask frame totals counts)
  pub shading_judge : (w h full black order limit : ℕ) (totals counts numerators denominators refusals fails : List ℕ)
      → let call = asked w h full black order limit in
      let long = lengths (length numerators) (length denominators) (length refusals) (length fails) in
      Sole (judge_answer call long totals counts)
      × Sole (judge_numerators call long totals counts numerators)
      × Sole (judge_denominators call long totals counts denominators)
      × Sole (judge_refusals call long totals counts refusals)
      × Sole (judge_fails call long totals counts fails)
  pub job : (s : List ℕ) → Sole (job_answer s)

pub one_answer : OneAnswer
one_answer = record {
  unpack_raw10 = raw.only;
  pair-figures = pair.only;
  dark-level = dark.only;
  stack_add = adding.add_only;
  stack_variance = variance.variance_only;
  blinking_sites = blinking.only;
  pattern_noise = pattern.only;
  find_defects = finding.only;
  repair = repairing.only;
  defective_lines = marking.only;
  colour_ratios = colour.only;
  photon_transfer = gain.only;
  shading_table = blocks.table_only;
  shading_recode = blocks.recode_only;
  shading_judge = λ w h full black order limit. shading.only (asked w h full black order limit);
  job = stream.only;
}
