-- `step` is right because it squares how far apart the two totals are.
use mathlib.Core.Path.{◌≡◌, refl}
use native.Mathlib.Omega.{arith}
use Rattle.laws.specs.Signed.{apart}
use Rattle.pattern.proofs.Figuring.{step_le}
use Rattle.pattern.proofs.step.Goals as goal

pub returns : goal.returns
returns c =
    let e : c.abs_diff-d.result ≡ apart c.args.here c.args.next = omega arith in
    rw e (refl, step_le c.args.here c.args.next (omega arith) (omega arith))
