-- Demand 2: in every call that takes a mask only surveyed sites count: what a frame holds at any other site changes no figure, no verdict,
-- no refusal, nor the count that a 6 has (document 02, d). And no call turns a gap into anything else, but for the one site whose code its caller
-- asks to have changed (document 02, j). `Agree mask f g`: f and g have one length, and hold the same at every surveyed site; `AgreeStack mask s s'`: two
-- stacks have as many frames, and agree so in all four buffers. Answers are compared, a refusal's number, place and count among them; the paper's numbers
-- are those of the answer (`numbers` of Demand1), so they are the same too.
use Prim.Native.Nat.{ℕ, ◌<◌}
use mathlib.Core.Bool.{true}
use mathlib.Core.List.{List}
use mathlib.Core.Logic.{◌⊎◌}
use mathlib.Core.Path.{◌≡◌, refl}
use lib.ListN.{length, get_or}
use Rattle.window.specs.Shape.{sites_of}
use Rattle.window.specs.View.{surveyed, seen}
use Rattle.window.proofs.Views.{Agree, same_view}
use Rattle.refusals.proofs.Ranges.{over_full}
use Rattle.pair.specs.Pair.{pair_answer}
use Rattle.pair.proofs.Promises as pair
use Rattle.dark.specs.Dark.{dark_answer}
use Rattle.dark.proofs.Promises as dark
use Rattle.stack.specs.State.{Stack}
use Rattle.stack.proofs.Promises.{AgreeStack}
use Rattle.adding.specs.Add.{add_answer, add_stack}
use Rattle.adding.proofs.Promises as adding
use Rattle.variance.specs.Variance.{variance_answer}
use Rattle.variance.proofs.Promises as variance
use Rattle.blinking.specs.Blinking.{blinking_answer}
use Rattle.blinking.proofs.Promises as blinking
use Rattle.pattern.specs.Lines as pattern-lines
use Rattle.pattern.specs.Pattern.{pattern_answer}
use Rattle.pattern.proofs.Promises as pattern
use Rattle.sites.specs.Find.{find_verdict, find_answer, find_mask}
use Rattle.repair.specs.Repair.{repair_verdict, repair_answer, repair_frame, repair_mask}
use Rattle.sites.proofs.Promises as finding
use Rattle.repair.proofs.Promises as repairing
use Rattle.lines.specs.Lines as plane-lines
use Rattle.lines.specs.Marks.{lines_answer, lines_buffer}
use Rattle.lines.proofs.Promises as marking
use Rattle.colour.specs.Colour.{colour_answer}
use Rattle.colour.proofs.Promises as colour
use Rattle.stream.specs.Stream.{stream_verdict}
use Rattle.stream.specs.Job.{job_answer}
use Rattle.stream.proofs.Promises as stream
use Rattle.blocks.specs.Table.{table_answer, table_totals, table_counts}
use Rattle.blocks.specs.Recode.{recode_verdict, recode_mask}
use Rattle.blocks.proofs.Judged.{recode_done}
use Rattle.blocks.proofs.Promises as blocks
use Rattle.verdict.specs.Verdict.{clear}

-- ---- only surveyed sites count
pub record Blind : Type 0 where
  -- of any frame: how many of its surveyed samples are above full scale
  pub samples_over : (w h full : ℕ) {mask frame other : List ℕ} → Agree mask frame other
      → over_full w h full (seen mask frame) ≡ over_full w h full (seen mask other)
  pub pair-figures : (w h full : ℕ) {mask first first' second second' : List ℕ} → Agree mask first first' → Agree mask second second'
      → pair_answer w h full mask first second ≡ pair_answer w h full mask first' second'
  pub dark-level : (w h full black : ℕ) (mask frame other : List ℕ) → Agree mask frame other
      → dark_answer w h full black mask frame ≡ dark_answer w h full black mask other
  -- a frame, and a stack's buffers: the answer, and what all four buffers hold afterwards at each surveyed site (`adding.SameAt`)
  pub stack_add : (w h full : ℕ) (mask frame : List ℕ) (s : Stack) (frame' : List ℕ) (s' : Stack) → Agree mask frame frame' → AgreeStack mask s s'
      → add_answer w h full mask frame s ≡ add_answer w h full mask frame' s'
  pub stack_holds : (w h full : ℕ) (mask frame : List ℕ) (s : Stack) (frame' : List ℕ) (s' : Stack) → Agree mask frame frame' → AgreeStack mask s s'
      → (i : ℕ) → surveyed (get_or mask i 0) ≡ true
      → adding.SameAt i (add_stack w h full mask frame s) (add_stack w h full mask frame' s')
  -- at any other site all four stay as they were
  pub stack_keeps : (w h full : ℕ) (mask frame : List ℕ) (s : Stack) (i : ℕ) → (get_or mask i 0 ≡ 0 → ⊥)
      → adding.SameAt i (add_stack w h full mask frame s) s
  pub stack_variance : (w h full : ℕ) (mask : List ℕ) (s s' : Stack) → AgreeStack mask s s'
      → variance_answer w h full mask s ≡ variance_answer w h full mask s'
  pub blinking_sites : (w h full spread : ℕ) (mask : List ℕ) (s s' : Stack) → AgreeStack mask s s'
      → blinking_answer w h full spread mask s ≡ blinking_answer w h full spread mask s'
  -- of columns it is the vertical call, of rows the horizontal one
  pub pattern_noise : (lines : ℕ → ℕ → pattern-lines.Lines) (w h full k : ℕ) (mask : List ℕ) {sums others : List ℕ} → Agree mask sums others
      → pattern_answer lines w h full k mask sums ≡ pattern_answer lines w h full k mask others
  pub find_defects : (w h full t : ℕ) (mask frame out other : List ℕ) → Agree mask frame other
      → (find_answer w h full t mask frame (length out) ≡ find_answer w h full t mask other (length out))
      × (find_mask w h full t mask frame out ≡ find_mask w h full t mask other out)
  -- the answer and the mask, and the sample of every site that is surveyed or filled; any other sample is copied
  pub repair : (w h full : ℕ) (mask frame out_frame out_mask other : List ℕ) → Agree mask frame other
      → (repair_answer w h full mask frame (length out_frame) (length out_mask) ≡ repair_answer w h full mask other (length out_frame) (length out_mask))
      × (repair_mask w h full mask frame (length out_frame) out_mask ≡ repair_mask w h full mask other (length out_frame) out_mask)
  pub repaired_samples : (w h full : ℕ) (mask frame other out_frame out_mask : List ℕ) → Agree mask frame other
      → repair_verdict w h full mask frame (length out_frame) (length out_mask) ≡ clear → (i : ℕ) → i < sites_of w h
      → (get_or mask i 0 ≡ 0) ⊎ ((get_or mask i 0 ≡ 2) × (get_or (repair_mask w h full mask frame (length out_frame) out_mask) i 0 ≡ 3))
      → get_or (repair_frame w h full mask frame out_frame (length out_mask)) i 0 ≡ get_or (repair_frame w h full mask other out_frame (length out_mask)) i 0
  -- of rows and of columns
  pub defective_lines : (lines : ℕ → ℕ → plane-lines.Lines) (w h full : ℕ) (mask frame marks other : List ℕ) → Agree mask frame other
      → (lines_answer lines w h full mask frame (length marks) ≡ lines_answer lines w h full mask other (length marks))
      × (lines_buffer lines w h full mask frame marks ≡ lines_buffer lines w h full mask other marks)
  pub colour_ratios : (w h full black order : ℕ) (mask frame other : List ℕ) → Agree mask frame other
      → colour_answer w h full black order mask frame ≡ colour_answer w h full black order mask other
  pub shading_table : (w h full : ℕ) (mask frame totals counts other : List ℕ) → Agree mask frame other
      → (table_answer w h full mask frame (length totals) (length counts) ≡ table_answer w h full mask other (length totals) (length counts))
      × (table_totals w h full mask frame totals counts ≡ table_totals w h full mask other totals counts)
      × (table_counts w h full mask frame totals counts ≡ table_counts w h full mask other totals counts)
  -- the site counts as surveyed when its old or its new code is 0 (document 02, j), no other counts: the answer and the table (`blocks.Alike`), and the mask
  pub shading_recode : (w h full site code : ℕ) (mask frame totals counts other : List ℕ) → length frame ≡ length other
      → ((get_or mask site 0 ≡ 0) ⊎ (code ≡ 0) → get_or frame site 0 ≡ get_or other site 0)
      → blocks.Alike w h full site code mask frame mask other totals counts
      × (recode_mask w h full site code mask frame (length totals) (length counts) ≡ recode_mask w h full site code mask other (length totals) (length counts))
  -- nor does another site's code change the answer or the table
  pub recode_one_site : (w h full site code : ℕ) (mask frame totals counts mask' frame' : List ℕ) → length mask ≡ length mask' → length frame ≡ length frame'
      → get_or mask site 0 ≡ get_or mask' site 0 → get_or frame site 0 ≡ get_or frame' site 0
      → blocks.Alike w h full site code mask frame mask' frame' totals counts
  -- two streams of one window, full scale, black level and mask, whose frames agree at the surveyed sites, and which have one fault or none
  pub job : (s t : List ℕ) → stream.Alike s t → stream_verdict s ≡ stream_verdict t → job_answer s ≡ job_answer t

-- ---- a gap stays a gap, in the two masks that are written anew; and in the one that is recoded, but at the site that the caller names
pub record Gaps : Type 0 where
  pub find_defects : (w h full t : ℕ) (mask frame out : List ℕ) → find_verdict w h full t mask frame (length out) ≡ clear
      → (i : ℕ) → i < sites_of w h → get_or mask i 0 ≡ 1 → get_or (find_mask w h full t mask frame out) i 0 ≡ 1
  -- and keeps its sample
  pub repair : (w h full : ℕ) (mask frame out_frame out_mask : List ℕ)
      → repair_verdict w h full mask frame (length out_frame) (length out_mask) ≡ clear
      → (i : ℕ) → i < sites_of w h → get_or mask i 0 ≡ 1
      → (get_or (repair_mask w h full mask frame (length out_frame) out_mask) i 0 ≡ 1)
      × (get_or (repair_frame w h full mask frame out_frame (length out_mask)) i 0 ≡ get_or frame i 0)
  -- the caller may recode a gap (document 02, j): the named site gets the code that was handed in, and every other site, gap or not, keeps its own
  pub shading_recode : (w h full site code : ℕ) (mask frame totals counts : List ℕ)
      → recode_verdict w h full site code mask frame (length totals) (length counts) ≡ clear
      → blocks.OneCode site code mask (recode_mask w h full site code mask frame (length totals) (length counts))

pub record Demand2 : Type 0 where
  pub blind : Blind
  pub gaps : Gaps

pub demand_2 : Demand2
demand_2 = record {
  blind = record {
    samples_over = λ w h full a. rw (same_view a);
    pair-figures = λ w h full a b. pair.blind w h full a b;
    dark-level = dark.blind;
    stack_add = adding.add_blind;
    stack_holds = adding.add_blind_stack;
    stack_keeps = adding.add_keeps;
    stack_variance = variance.variance_blind;
    blinking_sites = blinking.blind;
    pattern_noise = λ lines w h full k mask a. pattern.blind lines w h full k mask a;
    find_defects = finding.blind;
    repair = repairing.blind;
    repaired_samples = repairing.blind_samples;
    defective_lines = marking.blind;
    colour_ratios = colour.blind;
    shading_table = blocks.table_blind;
    shading_recode = blocks.recode_blind;
    recode_one_site = blocks.reads_one_site;
    job = stream.blind;
  };
  gaps = record {
    find_defects = finding.gap_stays;
    repair = repairing.gap_stays;
    shading_recode = λ w h full site code mask frame totals counts clear. blocks.one_code w h full site code frame mask totals counts _ _ _
        (record { accepted = recode_done w h full site code mask frame (length totals) (length counts) clear; makes_mask = refl; makes_totals = refl; makes_counts = refl });
  };
}
