-- `codes` is right because the search over all h rows of w finds the first site that the definition names, where there is one.
use Prim.Native.Nat.{ℕ}
use mathlib.Core.Path.{sym, ap, ◌∙◌}
use Rattle.laws.specs.First.{some_to}
use Rattle.verdict.specs.declared.Refusal.TheVariants.{Code}
use Rattle.window.specs.View.{bad_code}
use Rattle.refusals.proofs.Searches.{none_found, found}
use Rattle.refusals.proofs.codes.Goals as goal

pub returns-then-not-some_code_above : goal.returns-then-not-some_code_above
returns-then-not-some_code_above c = none_found Code _ _ (ap (λ (n : ℕ). some_to n (bad_code c.args.mask.now)) (sym c.requires) ∙ sym c.some_code_above.ensures ∙ c.if-not-some_code_above.true)

pub returns : goal.returns
returns c = c.refuse_if.ensures ∙ found Code _ _ _ _ c.requires c.first_bad_code-place.ensures
