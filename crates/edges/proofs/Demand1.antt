-- Demand 1: bad input gets document 01's refusal number with its place; all other numbers of the answer are zero, and no lent buffer changes.
-- Document 02 d amends it for 6 alone: there one number more is not zero, the count of surveyed samples above full scale, over all frames of the call.
-- Of every call, whatever buffers and numbers are handed in. That each call ends is what the check proves of a function with no `requires`.
-- A buffer that is only read is lent as `&[..]`, which leaves it as it is; of those that are written each is named below.
use Prim.Native.Nat.{ℕ, ◌+◌}
use mathlib.Core.List.{List}
use mathlib.Core.Path.{◌≡◌, refl}
use lib.ListN.{length}
use Rattle.verdict.specs.Verdict.{Verdict, number_of, place_of, over_of}
use Rattle.verdict.specs.Answer.{Paper, CountedPaper}
use Rattle.verdict.proofs.Verdicts.{Test, Tabled, Refuses, RefusesCounting, never_over}
use Rattle.window.specs.View.{seen}
use Rattle.refusals.proofs.Ranges.{over_full}
use Rattle.raw.specs.Unpack.{unpack_verdict, unpack_paper, unpack_buffer}
use Rattle.raw.specs.Unpack as unpacking
use Rattle.raw.proofs.Unpacks as raw-table
use Rattle.raw.proofs.Promises as raw
use Rattle.pair.specs.Figures as pair-numbers
use Rattle.pair.specs.Pair.{pair_verdict, pair_paper}
use Rattle.pair.specs.Pair as pairs
use Rattle.pair.proofs.Accepts as pair-table
use Rattle.pair.proofs.Promises as pair
use Rattle.dark.specs.Dark.{dark_verdict, dark_paper}
use Rattle.dark.specs.Dark as levels
use Rattle.dark.proofs.Levels as dark-table
use Rattle.dark.proofs.Promises as dark
use Rattle.stack.specs.State.{Stack}
use Rattle.adding.specs.Add.{add_verdict, add_answer, add_paper_of, add_paper, add_stack}
use Rattle.adding.proofs.Adds as add-table
use Rattle.adding.proofs.Promises as adding
use Rattle.variance.specs.Variance.{variance_verdict, no_variance, variance_answer, variance_paper_of, variance_paper}
use Rattle.variance.proofs.Variances as variance-table
use Rattle.variance.proofs.Promises as variance
use Rattle.blinking.specs.Blinking.{blinking_verdict, blinking_answer, blinking_paper_of, blinking_paper}
use Rattle.blinking.proofs.Blinkings as blinking-table
use Rattle.blinking.proofs.Promises as blinking
use Rattle.pattern.specs.Lines as pattern-lines
use Rattle.pattern.specs.Figures.{no_figures}
use Rattle.pattern.specs.Pattern.{pattern_verdict, pattern_paper}
use Rattle.pattern.specs.Pattern as patterns
use Rattle.pattern.proofs.Judges as pattern-table
use Rattle.pattern.proofs.Promises as pattern
use Rattle.sites.specs.Find.{find_verdict, find_paper, find_mask}
use Rattle.sites.specs.Find as searches
use Rattle.repair.specs.Repair.{repair_verdict, repair_paper, repair_frame, repair_mask}
use Rattle.repair.specs.Repair as repairs
use Rattle.repair.proofs.Accepts.{repair_tests}
use Rattle.sites.proofs.Accepts.{find_tests}
use Rattle.sites.proofs.Promises as finding
use Rattle.repair.proofs.Promises as repairing
use Rattle.lines.specs.Lines as plane-lines
use Rattle.lines.specs.Marks.{lines_verdict, lines_paper, lines_buffer}
use Rattle.lines.specs.Marks as line-marks
use Rattle.lines.proofs.Marking as lines-table
use Rattle.lines.proofs.Promises as marking
use Rattle.colour.specs.Colour.{colour_verdict, colour_paper}
use Rattle.colour.specs.Colour as ratios
use Rattle.colour.proofs.Judged as colour-table
use Rattle.colour.proofs.Promises as colour
use Rattle.gain.specs.Gain.{Curve, transfer_verdict, transfer_paper}
use Rattle.gain.specs.Gain as transfers
use Rattle.gain.proofs.Promises as gain
use Rattle.stream.specs.Stream.{width_of, height_of, full_of, mask_of, first_of, second_of}
use Rattle.stream.specs.Job.{job_verdict, job_paper}
use Rattle.stream.specs.Job as jobs
use Rattle.stream.proofs.Promises as stream
use Rattle.blocks.specs.Table.{table_verdict, table_paper, table_totals, table_counts}
use Rattle.blocks.specs.Table as block-tables
use Rattle.blocks.specs.Recode.{recode_verdict, recode_paper, recode_mask, recode_totals, recode_counts}
use Rattle.blocks.specs.Recode as recoding
use Rattle.blocks.proofs.Judged.{table_tests, recode_tests}
use Rattle.blocks.proofs.Promises as blocks
use Rattle.shading.specs.Judge.{asked, lengths, judge_verdict, judge_paper, judge_numerators, judge_denominators, judge_refusals, judge_fails}
use Rattle.shading.specs.Judge as judging
use Rattle.shading.proofs.Judging as judge-table
use Rattle.shading.proofs.Promises as shading

-- of one call that cannot give 6: what it tests, the numbers of its answer, and what else is so where it refuses
pub record Refusing {F : Type 0} (verdict : Verdict) (tests : List Test) (paper : Paper F) (Untouched : Type 0) : Type 0 where
  -- a refusal is given, with its number and place, exactly where a test of the table has them and applies, and none before it does
  pub given : Tabled verdict tests
  -- these are the paper's number and place, and nothing is counted
  pub told : (paper.number ≡ number_of verdict) × (paper.place ≡ place_of verdict) × (over_of verdict ≡ 0)
  -- where the number is not 0 the rest is untouched, and where it is 0 so is the place
  pub refused : Refuses paper.number paper.place Untouched

-- of one call that can, where so many surveyed samples of its frames are above full scale (`over_full` counts those of one frame)
pub record RefusingOver {F : Type 0} (verdict : Verdict) (tests : List Test) (paper : CountedPaper F) (samples : ℕ) (Untouched : Type 0) : Type 0 where
  -- a refusal is given, with its number, place and count, likewise
  pub given : Tabled verdict tests
  -- these are the paper's number, place and count
  pub told : (paper.number ≡ number_of verdict) × (paper.place ≡ place_of verdict) × (paper.over ≡ over_of verdict)
  -- where the number is not 0 the rest is untouched, and where it is 0 so is the place; the count is just so many at 6, and at least 1, and else 0
  pub refused : RefusesCounting paper samples Untouched

pub record Demand1 : Type 0 where
  pub unpack_raw10 : (w h : ℕ) (bytes out : List ℕ)
      → let paper = unpack_paper w h (length bytes) (length out) in
      Refusing (unpack_verdict w h (length bytes) (length out)) (raw-table.tests w h (length bytes) (length out)) paper
      (unpack_buffer w h bytes out ≡ out)
  pub pair-figures : (w h full : ℕ) (mask first second : List ℕ)
      → let paper = pair_paper w h full mask first second in
      RefusingOver (pair_verdict w h full mask first second) (pair-table.tests w h full mask first second) paper (over_full w h full (seen mask first) + over_full w h full (seen mask second))
      (paper.figures ≡ pair-numbers.no_figures)
  pub dark-level : (w h full black : ℕ) (mask frame : List ℕ)
      → let paper = dark_paper w h full black mask frame in
      RefusingOver (dark_verdict w h full black mask frame) (dark-table.tests w h full black mask frame) paper (over_full w h full (seen mask frame))
      (paper.figures ≡ levels.no_figures)
  -- a stack is the count of its frames and four buffers, sums, squares, least and greatest: all of it is as it was
  pub stack_add : (w h full : ℕ) (mask frame : List ℕ) (s : Stack)
      → let paper = add_paper w h full mask frame s in
      RefusingOver (add_verdict w h full mask frame s) (add-table.tests w h full mask frame s) paper (over_full w h full (seen mask frame))
      ((paper.figures ≡ 0) × (add_stack w h full mask frame s ≡ s))
  pub stack_variance : (w h full : ℕ) (mask : List ℕ) (s : Stack)
      → let paper = variance_paper w h full mask s in
      Refusing (variance_verdict w h full mask s) (variance-table.tests w h full mask s) paper
      (paper.figures ≡ no_variance)
  pub blinking_sites : (w h full spread : ℕ) (mask : List ℕ) (s : Stack)
      → let paper = blinking_paper w h full spread mask s in
      Refusing (blinking_verdict w h full spread mask s) (blinking-table.tests w h full spread mask s) paper
      (paper.figures ≡ 0)
  -- of columns it is the vertical call, of rows the horizontal one
  pub pattern_noise : (lines : ℕ → ℕ → pattern-lines.Lines) (w h full k : ℕ) (mask sums : List ℕ)
      → let paper = pattern_paper lines w h full k mask sums in
      Refusing (pattern_verdict lines w h full k mask sums) (pattern-table.tests lines w h full k mask sums) paper
      (paper.figures ≡ no_figures)
  pub find_defects : (w h full t : ℕ) (mask frame out : List ℕ)
      → let paper = find_paper w h full t mask frame (length out) in
      RefusingOver (find_verdict w h full t mask frame (length out)) (find_tests w h full t mask frame (length out)) paper (over_full w h full (seen mask frame))
      ((paper.figures ≡ 0) × (find_mask w h full t mask frame out ≡ out))
  pub repair : (w h full : ℕ) (mask frame out_frame out_mask : List ℕ)
      → let paper = repair_paper w h full mask frame (length out_frame) (length out_mask) in
      RefusingOver (repair_verdict w h full mask frame (length out_frame) (length out_mask)) (repair_tests w h full mask frame (length out_frame) (length out_mask)) paper (over_full w h full (seen mask frame))
      ((paper.figures ≡ 0)
      × (repair_frame w h full mask frame out_frame (length out_mask) ≡ out_frame)
      × (repair_mask w h full mask frame (length out_frame) out_mask ≡ out_mask))
  -- of rows and of columns
  pub defective_lines : (lines : ℕ → ℕ → plane-lines.Lines) (w h full : ℕ) (mask frame marks : List ℕ)
      → let paper = lines_paper lines w h full mask frame (length marks) in
      RefusingOver (lines_verdict lines w h full mask frame (length marks)) (lines-table.tests lines w h full mask frame (length marks)) paper (over_full w h full (seen mask frame))
      (lines_buffer lines w h full mask frame marks ≡ marks)
  pub colour_ratios : (w h full black order : ℕ) (mask frame : List ℕ)
      → let paper = colour_paper w h full black order mask frame in
      RefusingOver (colour_verdict w h full black order mask frame) (colour-table.tests w h full black order mask frame) paper (over_full w h full (seen mask frame))
      (paper.figures ≡ ratios.no_figures)
  -- of any list of points, as structs or as rows
  pub photon_transfer : (c : Curve) (first last : ℕ)
      → let paper = transfer_paper c first last in
      Refusing (transfer_verdict c first last) (gain.tests c first last) paper
      (paper.figures ≡ transfers.no_gain)
  pub shading_table : (w h full : ℕ) (mask frame totals counts : List ℕ)
      → let paper = table_paper w h full mask frame (length totals) (length counts) in
      RefusingOver (table_verdict w h full mask frame (length totals) (length counts)) (table_tests w h full mask frame (length totals) (length counts)) paper (over_full w h full (seen mask frame))
      ((table_totals w h full mask frame totals counts ≡ totals) × (table_counts w h full mask frame totals counts ≡ counts))
  -- of its one site, which counts as surveyed by the old or the new code: at 6 the count is 1
  pub shading_recode : (w h full site code : ℕ) (mask frame totals counts : List ℕ)
      → let paper = recode_paper w h full site code mask frame (length totals) (length counts) in
      RefusingOver (recode_verdict w h full site code mask frame (length totals) (length counts)) (recode_tests w h full site code mask frame (length totals) (length counts)) paper 1
      ((recode_mask w h full site code mask frame (length totals) (length counts) ≡ mask)
      × (recode_totals w h full site code mask frame totals counts ≡ totals)
      × (recode_counts w h full site code mask frame totals counts ≡ counts))
  -- its 7 and 10 are no refusals of the call: they stand in a buffer, each of one block and ratio
  pub shading_judge : (w h full black order limit : ℕ) (totals counts numerators denominators refusals fails : List ℕ)
      → let call = asked w h full black order limit in
      let long = lengths (length numerators) (length denominators) (length refusals) (length fails) in
      let paper = judge_paper call long totals counts in
      Refusing (judge_verdict call long totals counts) (judge-table.tests call long totals counts) paper
      ((judge_numerators call long totals counts numerators ≡ numerators)
      × (judge_denominators call long totals counts denominators ≡ denominators)
      × (judge_refusals call long totals counts refusals ≡ refusals)
      × (judge_fails call long totals counts fails ≡ fails))
  pub job : (s : List ℕ)
      → let paper = job_paper s in
      RefusingOver (job_verdict s) (stream.tests s) paper (over_full (width_of s) (height_of s) (full_of s) (seen (mask_of s) (first_of s)) + over_full (width_of s) (height_of s) (full_of s) (seen (mask_of s) (second_of s)))
      (paper.figures ≡ jobs.no_figures)

pub demand_1 : Demand1
unfolding unpack_paper pair_paper dark_paper add_paper variance_paper blinking_paper pattern_paper find_paper repair_paper lines_paper colour_paper transfer_paper table_paper recode_paper judge_paper job_paper
demand_1 = record {
  unpack_raw10 = λ w h bytes out. record { given = raw.given w h bytes out; told = (refl, refl, never_over _ (raw.given w h bytes out) refl refl); refused = raw.refused w h bytes out };
  pair-figures = λ w h full mask first second. record { given = pair.given w h full mask first second; told = (refl, refl, refl); refused = pair.refused w h full mask first second };
  dark-level = λ w h full black mask frame. record { given = dark.given w h full black mask frame; told = (refl, refl, refl); refused = dark.refused w h full black mask frame };
  stack_add = λ w h full mask frame s. record { given = adding.add_given w h full mask frame s; told = (refl, refl, refl); refused = adding.add_refused w h full mask frame s };
  stack_variance = λ w h full mask s. record { given = variance.variance_given w h full mask s; told = (refl, refl, never_over _ (variance.variance_given w h full mask s) refl refl); refused = variance.variance_refused w h full mask s };
  blinking_sites = λ w h full spread mask s. record { given = blinking.given w h full spread mask s; told = (refl, refl, never_over _ (blinking.given w h full spread mask s) refl refl); refused = blinking.refused w h full spread mask s };
  pattern_noise = λ lines w h full k mask sums. record { given = pattern.given lines w h full k mask sums; told = (refl, refl, never_over _ (pattern.given lines w h full k mask sums) refl refl); refused = pattern.refused lines w h full k mask sums };
  find_defects = λ w h full t mask frame out. record { given = finding.given w h full t mask frame out; told = (refl, refl, refl); refused = finding.refused w h full t mask frame out };
  repair = λ w h full mask frame out_frame out_mask. record { given = repairing.given w h full mask frame out_frame out_mask; told = (refl, refl, refl); refused = repairing.refused w h full mask frame out_frame out_mask };
  defective_lines = λ lines w h full mask frame marks. record { given = marking.given lines w h full mask frame marks; told = (refl, refl, refl); refused = marking.refused lines w h full mask frame marks };
  colour_ratios = λ w h full black order mask frame. record { given = colour.given w h full black order mask frame; told = (refl, refl, refl); refused = colour.refused w h full black order mask frame };
  photon_transfer = λ c first last. record { given = gain.given c first last; told = (refl, refl, never_over _ (gain.given c first last) refl refl); refused = gain.refused c first last };
  shading_table = λ w h full mask frame totals counts. record { given = blocks.table_given w h full mask frame totals counts; told = (refl, refl, refl); refused = blocks.table_refused w h full mask frame totals counts };
  shading_recode = λ w h full site code mask frame totals counts. record { given = blocks.recode_given w h full site code mask frame totals counts; told = (refl, refl, refl); refused = blocks.recode_refused w h full site code mask frame totals counts };
  shading_judge = λ w h full black order limit totals counts numerators denominators refusals fails. record {
    given = shading.given (asked w h full black order limit) totals counts numerators denominators refusals fails;
    told = (refl, refl, shading.no_over (asked w h full black order limit) totals counts numerators denominators refusals fails);
    refused = shading.refused (asked w h full black order limit) totals counts numerators denominators refusals fails;
  };
  job = λ s. record { given = stream.given s; told = (refl, refl, refl); refused = stream.refused s };
}

-- and the paper's numbers, of which all this speaks, are those of the answer: zeros and the figures, or the refusal's and zeros
pub record Numbers : Type 0 where
  pub unpack_raw10 : (w h : ℕ) (bytes out : List ℕ)
      → unpacking.paper_of (unpacking.unpack_answer w h (length bytes) (length out)) ≡ unpack_paper w h (length bytes) (length out)
  pub pair-figures : (w h full : ℕ) (mask first second : List ℕ)
      → pairs.paper_of (pairs.pair_answer w h full mask first second) ≡ pair_paper w h full mask first second
  pub dark-level : (w h full black : ℕ) (mask frame : List ℕ)
      → levels.paper_of (levels.dark_answer w h full black mask frame) ≡ dark_paper w h full black mask frame
  pub stack_add : (w h full : ℕ) (mask frame : List ℕ) (s : Stack)
      → add_paper_of (add_answer w h full mask frame s) ≡ add_paper w h full mask frame s
  pub stack_variance : (w h full : ℕ) (mask : List ℕ) (s : Stack)
      → variance_paper_of (variance_answer w h full mask s) ≡ variance_paper w h full mask s
  pub blinking_sites : (w h full spread : ℕ) (mask : List ℕ) (s : Stack)
      → blinking_paper_of (blinking_answer w h full spread mask s) ≡ blinking_paper w h full spread mask s
  pub pattern_noise : (lines : ℕ → ℕ → pattern-lines.Lines) (w h full k : ℕ) (mask sums : List ℕ)
      → patterns.paper_of (patterns.pattern_answer lines w h full k mask sums) ≡ pattern_paper lines w h full k mask sums
  pub find_defects : (w h full t : ℕ) (mask frame out : List ℕ)
      → searches.find_paper_of (searches.find_answer w h full t mask frame (length out)) ≡ find_paper w h full t mask frame (length out)
  pub repair : (w h full : ℕ) (mask frame out_frame out_mask : List ℕ)
      → repairs.repair_paper_of (repairs.repair_answer w h full mask frame (length out_frame) (length out_mask))
      ≡ repair_paper w h full mask frame (length out_frame) (length out_mask)
  pub defective_lines : (lines : ℕ → ℕ → plane-lines.Lines) (w h full : ℕ) (mask frame marks : List ℕ)
      → line-marks.paper_of (line-marks.lines_answer lines w h full mask frame (length marks)) ≡ lines_paper lines w h full mask frame (length marks)
  pub colour_ratios : (w h full black order : ℕ) (mask frame : List ℕ)
      → ratios.paper_of (ratios.colour_answer w h full black order mask frame) ≡ colour_paper w h full black order mask frame
  pub photon_transfer : (c : Curve) (first last : ℕ)
      → transfers.paper_of (transfers.transfer_answer c first last) ≡ transfer_paper c first last
  pub shading_table : (w h full : ℕ) (mask frame totals counts : List ℕ)
      → block-tables.paper_of (block-tables.table_answer w h full mask frame (length totals) (length counts)) ≡ table_paper w h full mask frame (length totals) (length counts)
  pub shading_recode : (w h full site code : ℕ) (mask frame totals counts : List ℕ)
      → block-tables.paper_of (recoding.recode_answer w h full site code mask frame (length totals) (length counts))
      ≡ recode_paper w h full site code mask frame (length totals) (length counts)
  pub shading_judge : (w h full black order limit : ℕ) (totals counts numerators denominators refusals fails : List ℕ)
      → let call = asked w h full black order limit in
      let long = lengths (length numerators) (length denominators) (length refusals) (length fails) in
      judging.paper_of (judging.judge_answer call long totals counts) ≡ judge_paper call long totals counts
  pub job : (s : List ℕ)
      → jobs.paper_of (jobs.job_answer s) ≡ job_paper s

pub numbers : Numbers
numbers = record {
  unpack_raw10 = raw.paper_is;
  pair-figures = pair.paper_is;
  dark-level = dark.paper_is;
  stack_add = adding.add_paper_is;
  stack_variance = variance.variance_paper_is;
  blinking_sites = blinking.paper_is;
  pattern_noise = pattern.paper_is;
  find_defects = finding.paper_is;
  repair = repairing.paper_is;
  defective_lines = marking.paper_is;
  colour_ratios = colour.paper_is;
  photon_transfer = gain.paper_is;
  shading_table = blocks.table_paper_is;
  shading_recode = blocks.recode_paper_is;
  shading_judge = λ w h full black order limit. shading.paper_is (asked w h full black order limit);
  job = stream.paper_is;
}
