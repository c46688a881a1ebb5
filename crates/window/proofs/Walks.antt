-- What a buffer's length lets be walked: the whole window, or nothing.
use Prim.Native.Nat.{ℕ, ◌*◌}
use mathlib.Core.Logic.{⊎_elim}
use mathlib.Core.Path.{◌≡◌, ◌∙◌}
use native.Mathlib.Omega.{arith}
use lib.Dec.{eqb}
use borrow.Author.Tests.{eq-eqb, ne_eqb, eqb-true, eqb-false}
use Rattle.laws.proofs.Cases.{true_or_false}
use Rattle.window.specs.Shape.{sites_of}
use Rattle.window.specs.Walk.{walked}
use Rattle.window.proofs.Sides.{Sides, some_sites}

-- h rows of w, which a buffer of this length holds
pub record Whole (w h long : ℕ) : Type 0 where
  pub legal : Sides w h
  pub holds : long ≡ h * w
  pub sites : walked w h long ≡ h * w

module _ (w h long : ℕ) where
  pub walked_whole : long ≡ sites_of w h → walked w h long ≡ sites_of w h
  unfolding walked
  walked_whole e = rw (eq-eqb long (sites_of w h) e)

  pub walked_none : (long ≡ sites_of w h → ⊥) → walked w h long ≡ 0
  unfolding walked
  walked_none e = rw (ne_eqb long (sites_of w h) e)

  -- where something can be walked, the whole window can
  pub walked_some : (walked w h long ≡ 0 → ⊥) → Whole w h long
  walked_some some =
      ⊎_elim
      (λ t. let e = eqb-true long (sites_of w h) t in
      let n = walked_whole e in
      let legal = some_sites w h (omega arith) in
      record { legal = legal; holds = e ∙ legal.sites; sites = n ∙ legal.sites })
      (λ t. absurd (some (walked_none (eqb-false long (sites_of w h) t))))
      (true_or_false (eqb long (sites_of w h)))
