use Prim.Native.Nat.{ℕ, ◌+◌, ◌%◌}
use mathlib.Core.Path.{◌≡◌, ap, ap₂, ◌∙◌}
use native.Mathlib.Nat.{mod-add-mod}
use native.Mathlib.Omega.{arith}
use lib.ListN.{length}
use Rattle.std.proofs.Common.{rules, length-append}
use Rattle.std.proofs.lemmas.Slice.Zip.{zip_turn, zip_end}
use Rattle.blocks.specs.Areas.{areas_of}
use Rattle.shading.specs.Judge.{impossible}
use Rattle.shading.proofs.Walks.{asked_more, asked-all}
use Rattle.shading.proofs.some_impossible.Goals as goal

pub loop-total-preserved : goal.loop-total-preserved
loop-total-preserved c = let a = c.args in
    let z = zip_turn a.totals.now a.counts.now c.loop-total.yielded c.into_iter-total-iterator.result c.loop-total.total-iterator c.next.new.self c.next.result (search rules) (search rules) c.loop-total.yielded_by _ c.in-Some.is c.next.ensures.steps in
    let areas : c.blocks-areas.result + 1 ≡ areas_of a.asked.width a.asked.height = ap (λ (n : ℕ). n + 1) c.blocks-areas.ensures.0 in
    rw (length-append c.loop-total.yielded _) (
      c.next_area-k.ensures ∙ ap₂ (λ (x n : ℕ). (x + 1) % n) c.loop-total.invariant.0 areas ∙ mod-add-mod (length c.loop-total.yielded) (areas_of a.asked.width a.asked.height) 1,
      asked_more _ _ _ a.totals.now a.counts.now _ _ _ _ _ c.loop-total.invariant.1 c.loop-total.invariant.0 c.area_sites-sites.ensures
          (c.impossible-found.ensures ∙ ap₂ (λ (x y : ℕ). impossible a.asked.full c.area_sites-sites.result x y) (z.2 0) (z.3 0)),
    )

pub returns : goal.returns
returns c = let a = c.args in
    let n = zip_end a.totals.now a.counts.now c.loop-total.yielded c.into_iter-total-iterator.result c.loop-total.total-iterator c.next.new.self c.next.result (search rules) (search rules) c.loop-total.yielded_by c.in-None.is c.next.ensures.steps in
    asked-all _ _ _ a.totals.now a.counts.now _ _ c.loop-total.invariant.1 (omega (arith, n, c.requires))
