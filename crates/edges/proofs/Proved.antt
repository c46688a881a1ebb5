-- Every row of the table holds by computing both sides.
use mathlib.Core.Path.{refl}
use lib.Ieee.{size, odd, units, round, of_bits}
use Rattle.laws.specs.First.{first_to}
use Rattle.laws.specs.Greatest.{greatest_to, greatest_in, first_greatest}
use Rattle.laws.specs.Signed.{◌⊖◌, sum_toℤ}
use Rattle.laws.specs.Sum.{sum_to, sum_in, sum_box}
use Rattle.laws.specs.Table.{tabulate}
use Rattle.exact.specs.Root.{root, root_to}
use Rattle.verdict.specs.Verdict.{◌⨟◌, refuse_if, refuse_first}
use Rattle.window.specs.Shape.{bad_count, bad_side, bad_sides, bad_scale, sites_of}
use Rattle.window.specs.View.{seen_at, seen, one}
use Rattle.refusals.specs.Judge.{shape_by, samples_in_by, over_in, mask_verdict_by, frame_verdict_by, frames_verdict}
use Rattle.plane.specs.Plane.{box_sum}
use Rattle.raw.specs.Packed.{joined, sample_at}
use Rattle.raw.specs.Unpack.{unpack_verdict, unpack_answer, unpack_buffer}
use Rattle.pair.specs.Figures.{numerator, spread_of}
use Rattle.pair.specs.Pair.{pair_verdict, pair_answer}
use Rattle.dark.specs.Dark.{above_black, dark_verdict, dark_answer}
use Rattle.stack.specs.State as stack
use Rattle.adding.specs.After.{renewed, extreme, extreme_at}
use Rattle.adding.specs.Add.{add_verdict, add_answer, add_stack}
use Rattle.variance.specs.Variance.{too_few, variance_verdict, scatter, variance_answer}
use Rattle.blinking.specs.Blinking.{bad_spread, blinks_at, blinking_verdict, blinking_answer}
use Rattle.pattern.specs.Lines.{line_total}
use Rattle.pattern.specs.Figures.{step_of, ten_around, stands_out, deviation, figures_of}
use Rattle.pattern.specs.Pattern.{pattern_verdict, pattern_answer}
use Rattle.near.specs.Near.{near_sum}
use Rattle.sites.specs.Find.{used_threshold, far, found_at, marked_at, found_count, find_verdict, find_answer, find_mask}
use Rattle.lines.specs.Lines.{before, after, pooled, defective, mark_of, mark_at}
use Rattle.lines.specs.Marks.{lines_verdict, lines_answer, lines_buffer}
use Rattle.colour.specs.Bayer.{mosaic_of}
use Rattle.colour.specs.Centre.{too_small}
use Rattle.colour.specs.Colour.{not_above, ratio_of}
use Rattle.colour.specs.Colour as colour
use Rattle.gain.specs.Slope.{joint_spread, all_equal}
use Rattle.gain.specs.Gain.{out_of_limits, bad_length, bad_list, bad_ends, too_large, transfer_verdict, transfer_answer}
use Rattle.blocks.specs.Areas.{blocks_of, area_of, area_sites}
use Rattle.shading.specs.Shade.{unseen, too_dark, fails, judged_shade, shade_of}
use Rattle.shading.specs.Judge.{bad_limit, impossible, impossible_in, lent_verdict, judge_verdict, planes_of, tint_of, shade_in, judge_answer, judge_buffer}
use Rattle.edges.specs.Table.{Edges, Beside, Transfers, Shadings, Stacks}

pub edges : Edges
unfolding round of_bits first_to greatest_to greatest_in ◌⊖◌ sum_toℤ sum_to sum_in sum_box tabulate shape_by mask_verdict_by frame_verdict_by box_sum bad_side bad_sides bad_scale sites_of samples_in_by over_in seen_at seen one root root_to joined sample_at unpack_verdict unpack_answer unpack_buffer numerator spread_of frames_verdict pair_verdict pair_answer above_black dark_verdict dark_answer near_sum used_threshold far found_at marked_at found_count find_verdict find_answer find_mask line_total step_of ten_around stands_out deviation figures_of bad_count pattern_verdict pattern_answer before after pooled defective mark_of mark_at lines_verdict lines_answer lines_buffer
edges = record {
  K1 = refl;
  K2 = refl;
  K3 = (refl, refl);
  K4 = (refl, refl);
  K5 = refl;
  K6 = (refl, refl);
  K7 = (refl, refl);
  K8 = refl;
  K9 = (refl, refl);
  K10 = (refl, refl);
}

pub beside : Beside
unfolding round first_to greatest_to greatest_in ◌⊖◌ sum_toℤ sum_to sum_in sum_box tabulate shape_by mask_verdict_by frame_verdict_by box_sum bad_side bad_sides bad_scale sites_of samples_in_by over_in seen_at seen one root root_to numerator spread_of frames_verdict pair_verdict pair_answer above_black dark_verdict dark_answer near_sum used_threshold far found_at marked_at found_count find_verdict find_answer find_mask line_total step_of ten_around stands_out deviation figures_of bad_count pattern_verdict pattern_answer before after pooled defective mark_of mark_at lines_verdict lines_buffer
beside = record {
  dark_column = refl;
  dark_row = refl;
  dark-columns = refl;
  lone_96 = ((refl, refl), (refl, refl));
  lone_95 = ((refl, refl), (refl, refl));
  lone_101 = (refl, refl);
  one_eighth = (refl, refl);
  over_in_both = refl;
  over_in_second = refl;
  over_in_one_frame = refl;
  over_behind_code = refl;
  met_unmarked = refl;
  met_marked = refl;
}

pub transfers : Transfers
unfolding size odd units round of_bits first_to greatest_to greatest_in first_greatest ◌⊖◌ sum_to joint_spread all_equal out_of_limits bad_length bad_list bad_ends too_large transfer_verdict transfer_answer
transfers = record {
  straight = refl;
  outside_the_chosen = refl;
  falling = refl;
  level = refl;
  exchanged = refl;
  past_the_list = refl;
  empty = refl;
  as_many = refl;
  too_many = refl;
  over_mean = refl;
  over_variance = refl;
  at_limit = refl;
  one_point = refl;
  equal_means = refl;
  too_large = (refl, refl);
}

pub shadings : Shadings
unfolding first_to ◌⊖◌ tabulate bad_side bad_sides bad_scale shape_by mosaic_of too_small colour.above_black not_above ratio_of blocks_of area_of area_sites unseen too_dark fails judged_shade shade_of bad_limit impossible impossible_in lent_verdict judge_verdict planes_of tint_of shade_in judge_answer judge_buffer
shadings = record {
  even = (refl, refl, refl, refl, refl);
  brighter_at_2 = (refl, refl, refl, refl, refl);
  brighter_at_3 = (refl, refl, refl, refl, refl);
  one_seventh = refl;
  one_twenty_first = refl;
  unseen = (refl, refl, refl, refl, refl);
  black_at_3 = (refl, refl, refl, refl, refl);
  black_at_4 = (refl, refl, refl, refl, refl);
  count_193 = refl;
  count_769 = refl;
  total_full = refl;
  total_over = refl;
  total_of_191 = refl;
  total_of_last = refl;
  dark_at_15 = (refl, refl, refl, refl, refl);
  dark_at_16 = (refl, refl, refl, refl, refl);
  row_over = refl;
  too_small = refl;
  length_first = (refl, refl);
}

pub stacks : Stacks
unfolding round first_to sum_to tabulate bad_count bad_side bad_sides bad_scale sites_of seen one shape_by samples_in_by mask_verdict_by frame_verdict_by stack.sums_impossible stack.extremes_impossible stack.empty_extremes stack.impossible stack.impossible_in renewed extreme extreme_at add_verdict add_answer add_stack too_few variance_verdict scatter variance_answer bad_spread blinks_at blinking_verdict blinking_answer
stacks = record {
  first_frame = (refl, refl);
  second_frame = (refl, refl);
  spread_800 = refl;
  spread_801 = refl;
  spread_1 = refl;
  no_frame = refl;
  both_frames = refl;
  greatest_1023 = refl;
  greatest_1024 = (refl, refl, refl, refl, refl);
  above_full_scale = (refl, refl);
  sum_below = (refl, refl);
  sum-above = (refl, refl);
  empty-greatest = (refl, refl);
  empty-squares = (refl, refl);
  squares_below = (refl, refl);
}
