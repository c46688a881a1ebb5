-- `inner_sums` is right because a plane's sites are equally spaced along its rows and down its columns, and those of the next lie right of them.
use mathlib.Core.Path.{◌∙◌}
use native.Mathlib.Omega.{arith}
use Rattle.window.specs.View.{one, seen}
use Rattle.plane.proofs.Planes.{along_in, down_in, stepped, stepped_down, stepped_right, by_columns}
use Rattle.plane.proofs.Runs.{runs_placed, runs_turned}
use Rattle.plane.proofs.inner_sums.Goals as goal

pub runs_sums-requires-clause-by_index : goal.runs_sums-requires-clause-by_index
runs_sums-requires-clause-by_index g c = λ v u l m. down_in _ _ _ _ u v _ (omega arith) (omega arith) (omega arith) (omega arith) c.requires.mask_len.0

pub runs_sums-requires-else-part-lt4-clause-by_index : goal.runs_sums-requires-else-part-lt4-clause-by_index
runs_sums-requires-else-part-lt4-clause-by_index g c = λ u v l m. along_in _ _ _ _ u v _ (omega arith) (omega arith) (omega arith) (omega arith) c.requires.mask_len.0

pub returns-then-part-lt4 : goal.returns-then-part-lt4
returns-then-part-lt4 g c = let a = c.args in
    let r = c.runs_sums.ensures in
    record {
      even =
          record {
            counted = r.even.counted ∙ by_columns a.width a.plane _ _ _ _ (one a.mask.now);
            added = r.even.added ∙ by_columns a.width a.plane _ _ _ _ (seen a.mask.now a.frame.now);
          };
      odd = λ both. runs_turned (λ u v. omega (arith, stepped_down a.width a.plane u v, stepped_right a.width a.plane (omega arith) u v)) (r.odd both);
      few = r.few;
    }

pub returns-else-part-lt4 : goal.returns-else-part-lt4
returns-else-part-lt4 g c = let a = c.args in
    let r = c.runs_sums-else-part-lt4.ensures in
    record {
      even = runs_placed (stepped a.width a.plane) r.even;
      odd = λ both. runs_placed (λ u v. omega (arith, stepped a.width a.plane u v, stepped_right a.width a.plane (omega arith) u v)) (r.odd both);
      few = r.few;
    }
