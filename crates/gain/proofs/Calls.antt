-- Steps of a walk by hand: a call of a function over plain data, which asks nothing of the context and changes nothing in it, and the end of a function with two clauses,
-- which is also the kit's `says_two` (`Rattle.std.proofs.mem.Facts`). No proof of this crate is such a walk now.
use mathlib.Core.Path.{◌≡◌, sym, ◌∙◌, ap, subst}
use mathlib.Core.List.{List, [], ◌∷◌}
use seplogic.Ra.Ura.{Ura}
use mir.Syntax.{Callee, Place, Opd as Operand, Body, seq, call}
use mir.Val.{Val}
use base.Logic.{SProp, ent, sep, emp, via, comm∗, mono_l, emp∗}
use base.Fml.{ftrue}
use prog.Wp.{Env, Calls, Loops}
use types.Logic.{Logic}
use contract.Monad.{fact, fact_i}
use sound.WpLaws.{FmC}
use types.Kit.{Item, prop, Step, step, ‵, raw, ◌⊛◌, given, mean, some, later, Post, runs, lands, Seq, ◌$◌, ◌∵◌, !, qed, move, keep, drop, use0, use1, split, learn, pick, check, updating, now as at_once, await, done}
use types.Run.{Opds}
use denote.RattleType.{RattleType}
use denote.Laws.{Is, Tells, shows}
use denote.Steps.{only, peeks, heard}
use denote.Triple.Statement.{Contract, Triple}
use denote.Triple.Call.{calls_at}

module _ {M : Type 1} {𝓤 : Ura M} (𝓛 : Logic 𝓤) where
  -- what such a callee ensures of its result, that it is y, gives the result's machine value
  open 𝓛 use {H}

  pub told : (R : RattleType) (val : R.Denot → Val) → Tells R (Is R) (λ y. val y ∷ []) → (y : R.Denot) (E : R.Denot → SProp 𝓤) → ((r : R.Denot) → ent 𝓤 (E r) (fact 𝓤 (r ≡ y))) → (v : Val)
      → ent 𝓤 (mean 𝓛 (later (some (λ (r : R.Denot). (‵ ftrue ⊛ ‵ (R.own_val r (v ∷ []))) ⊛ raw (E r))))) (H.⇛ (fact 𝓤 ((v ≡ val y) × Is R y (val y ∷ []))))
  told R val tl y E said v =
      qed 𝓛 (later (some (λ (r : R.Denot). (‵ ftrue ⊛ ‵ (R.own_val r (v ∷ []))) ⊛ raw (E r))) ∷ []) ∵ updating ! $ await ! tt $ pick ! (λ r.
      split ! $ move ! (1 ∷ []) $ use1 𝓛 (raw (fact 𝓤 (r ≡ y))) (said r) $ heard ! (r ≡ y) (λ e. split ! $ drop ! $
      peeks ! R (Is R) (shows 𝓛 R) r (v ∷ []) (λ is. at_once ! $ check ! (ap only (spelled r is e), subst (λ (x : R.Denot). Is R x (val x ∷ [])) e (subst (Is R r) (tl r (v ∷ []) is) is)) $ keep ! [] $ done !)))
    where
      spelled : (r : R.Denot) → Is R r (v ∷ []) → r ≡ y → v ∷ [] ≡ val y ∷ []
      spelled r is e = tl r (v ∷ []) is ∙ ap (λ (x : R.Denot). val x ∷ []) e

module _ {M : Type 1} {𝓤 : Ura M} {𝓛 : Logic 𝓤} {K : Type 0} {Γ : List (Item 𝓤)} {E : Env 𝓤 𝓛.H} {C : Calls 𝓤 𝓛.H} {Λ : Loops 𝓤 𝓛.H} {q : Post 𝓤 𝓛.H} {f : Callee} {xs : List Operand} {d : Place} where
  -- so the call's result is w, and all else of the context is as it was
  open 𝓛 use {H}

  pub calls_plain : K → FmC 𝓤 H 𝓛.laws C → {rest : Body} (c : Contract 𝓤) → Triple 𝓤 (C f) c → (x : c.Ghost) {Q : Type 0} (w : Val) → ent 𝓤 (emp 𝓤) (c.pre x) → ((v : Val) → ent 𝓤 (c.post x v) (H.⇛ (fact 𝓤 ((v ≡ w) × Q))))
      → Opds K 𝓛 (raw (c.pre x) ∷ Γ) E xs (c.args x) → (Q → Seq K 𝓛 Γ (lands C Λ E d w rest q)) → Seq K 𝓛 Γ (runs C Λ E (seq (call f xs d) rest) q)
  calls_plain t fm {rest} c met x {Q} w asks tells os k =
      use0 𝓛 (raw (c.pre x)) asks $ calls_at t fm c met x os (λ v. use1 𝓛 (later (given ((v ≡ w) × Q) (‵ ftrue))) (tells v) $ await t tt $ learn t (λ e. drop t $
      subst (λ (u : Val). Seq K 𝓛 Γ (lands C Λ E d u rest q)) (sym e.0) (k e.1)))

-- a goal P ∗ (⌜φ⌝ ∗ ⌜ψ⌝): φ and ψ are shown, and P is left
pub says_both : {M : Type 1} {𝓤 : Ura M} {𝓛 : Logic 𝓤} {K : Type 0} {Γ : List (Item 𝓤)} → K → {φ ψ : Type 0} {P : SProp 𝓤} → φ × ψ
    → Step K 𝓛 Γ (prop P) Γ (prop (sep 𝓤 P (sep 𝓤 (fact 𝓤 φ) (fact 𝓤 ψ))))
says_both {𝓤 = 𝓤} t {φ} {ψ} {P} x =
    step (λ s. record { prf = via 𝓤 P s.prf (via 𝓤 (sep 𝓤 (emp 𝓤) P) (emp∗ 𝓤 P) (via 𝓤 (sep 𝓤 both P) (mono_l 𝓤 P shown) (comm∗ 𝓤 both P))) })
  where
    both : SProp 𝓤
    both = sep 𝓤 (fact 𝓤 φ) (fact 𝓤 ψ)

    shown : ent 𝓤 (emp 𝓤) both
    shown =
        via 𝓤 (sep 𝓤 (emp 𝓤) (emp 𝓤)) (emp∗ 𝓤 (emp 𝓤))
        (via 𝓤 (sep 𝓤 (fact 𝓤 ψ) (emp 𝓤)) (mono_l 𝓤 (emp 𝓤) (fact_i 𝓤 ψ (emp 𝓤) x.1))
        (via 𝓤 (sep 𝓤 (emp 𝓤) (fact 𝓤 ψ)) (comm∗ 𝓤 (fact 𝓤 ψ) (emp 𝓤)) (mono_l 𝓤 (fact 𝓤 ψ) (fact_i 𝓤 φ (emp 𝓤) x.0))))
