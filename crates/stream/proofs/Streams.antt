-- What a stream is that has no fault: its sides, and exactly how long it is.
use Prim.Native.Nat.{ℕ, ◌+◌, ◌*◌, ◌≤◌}
use mathlib.Core.Bool.{false}
use mathlib.Core.List.{List, [], ◌∷◌}
use mathlib.Core.Path.{◌≡◌, refl, sym, ◌∙◌}
use native.Mathlib.Nat.{mul-le-mul}
use native.Mathlib.Omega.{arith}
use lib.Dec.{ltb}
use lib.ListN.{length}
use borrow.Author.Tests.{ltb-false}
use Rattle.laws.proofs.Cases.{neither}
use Rattle.std.specs.Prelude.{Result, Ok, Err}
use Rattle.verdict.proofs.Verdicts.{passed_head, passed_tail, then_clear, then_end, unless}
use Rattle.verdict.proofs.Answers.{was_accepted}
use Rattle.verdict.specs.Answer.{answer_of}
use Rattle.verdict.specs.declared.Refusal.{Refusal}
use Rattle.verdict.specs.Verdict.{Verdict, clear, refuse_if}
use Rattle.verdict.specs.declared.Refusal.TheVariants.{Sides, TooWide}
use Rattle.window.specs.Shape.{bad_sides, sites_of}
use Rattle.window.proofs.Sides.{Sides as Legal, sides}
use Rattle.raw.specs.Packed.{length10}
use Rattle.stream.specs.Fields.{Field, past, field_at, fields_at, past_all, extra_at}
use Rattle.stream.specs.Stream.{side_fields, body_fields, wide_sides, faults_of, width_of, height_of, stream_verdict}
use Rattle.stream.proofs.Tables.{field_table}

-- an answer that refuses is of a verdict that does
was_refused : {A : Type 0} (v : Verdict) (x : A) {r : Refusal} → Err r ≡ answer_of v x → v ≡ Err r
was_refused (Ok _) x e = absurd cc
was_refused (Err q) x e = cc

-- where the stream of n sites ends
abbrev pub stream_end : ℕ → ℕ
stream_end n = 32 + n + 2 * length10 n

pub end_is : (n : ℕ) → stream_end n ≡ past_all 10 (body_fields n)
unfolding past_all
end_is n = omega arith

pub sides_end : past_all 0 side_fields ≡ 10
unfolding past_all
sides_end = refl

-- ---- the place past a field, and past fields in turn
module _ (s : List ℕ) (at : ℕ) (f : Field) where
  -- a field without a fault leaves the answer to those that follow it
  pub one_more : (next : ℕ) (fs : List Field) {r : Result ℕ Refusal} → Ok next ≡ answer_of (field_at s at f) (past at f)
      → r ≡ answer_of (fields_at s next fs) (past_all next fs) → r ≡ answer_of (fields_at s at (f ∷ fs)) (past_all at (f ∷ fs))
  unfolding fields_at past_all
  one_more next fs e p = let was = was_accepted (field_at s at f) (sym e) in rw (was.0, was.1) p

  pub fault_at : (fs : List Field) {e : Refusal} → Err e ≡ answer_of (field_at s at f) (past at f)
      → Err e ≡ answer_of (fields_at s at (f ∷ fs)) (past_all at (f ∷ fs))
  unfolding fields_at past_all
  fault_at fs p = rw (was_refused (field_at s at f) (past at f) p)

  pub last_of : {r : Result ℕ Refusal} → r ≡ answer_of (field_at s at f) (past at f) → r ≡ answer_of (fields_at s at (f ∷ [])) (past_all at (f ∷ []))
  unfolding fields_at past_all
  last_of p = rw (then_end (field_at s at f)) p

-- ---- the whole stream, past its sides
pub sides_past : (s : List ℕ) (at : ℕ) → Ok at ≡ answer_of (fields_at s 0 side_fields) (past_all 0 side_fields)
    → (fields_at s 0 side_fields ≡ clear) × (at ≡ 10)
sides_past s at sided = let was = was_accepted (fields_at s 0 side_fields) (sym sided) in (was.0, sym was.1 ∙ sides_end)

module _ (s : List ℕ) (w h n at : ℕ) (sided : Ok at ≡ answer_of (fields_at s 0 side_fields) (past_all 0 side_fields))
    (even : clear ≡ refuse_if Sides (bad_sides w h)) (small : clear ≡ refuse_if TooWide (wide_sides w h)) (sites : n ≡ sites_of w h) where
  pub body_fault : {e : Refusal} → Err e ≡ answer_of (fields_at s at (body_fields n)) (past_all at (body_fields n)) → Err e ≡ faults_of s w h
  unfolding faults_of
  body_fault p =
      let begun = sides_past s at sided in
      let q = rw (begun.1, sites) at (was_refused (fields_at s at (body_fields n)) (past_all at (body_fields n)) p) in
      rw (begun.0, ← even, ← small, q)

  pub extra_fault : (end : ℕ) → Ok end ≡ answer_of (fields_at s at (body_fields n)) (past_all at (body_fields n)) → extra_at s end ≡ faults_of s w h
  unfolding faults_of
  extra_fault end p =
      let begun = sides_past s at sided in
      let was = rw (begun.1, sites) at (was_accepted (fields_at s at (body_fields n)) (sym p)) in
      rw (begun.0, ← even, ← small, was.0, was.1)

-- a field without a fault lies inside, and so do fields that follow each other
pub field-inside : (s : List ℕ) (at : ℕ) (f : Field) → field_at s at f ≡ clear → past at f ≤ length s
field-inside s at f e =
    ltb-false (length s) (past at f) (passed_head (passed_tail (passed_tail (passed_tail (passed_tail ((field_table s at f).clear e))))))

pub fields_inside : (s : List ℕ) (at : ℕ) (fs : List Field) → at ≤ length s → fields_at s at fs ≡ clear → past_all at fs ≤ length s
unfolding fields_at past_all
fields_inside s at [] l e = l
fields_inside s at (f ∷ fs) l e =
    let both = then_clear _ _ e in
    fields_inside s (past at f) fs (field-inside s at f both.0) both.1

-- the verdict on the sides as they stand in the stream
pub judged : (s : List ℕ) {v : Verdict} {w h : ℕ} → v ≡ faults_of s w h → w ≡ width_of s → h ≡ height_of s → v ≡ stream_verdict s
judged s e p q = e ∙ rw (p, q)

-- sides that a job may have
pub record Narrow (w h : ℕ) : Type 0 where
  pub legal : Legal w h
  pub wide : w ≤ 64
  pub high : h ≤ 64
  pub few : sites_of w h ≤ 4096

pub narrow : (w h : ℕ) → bad_sides w h ≡ false → wide_sides w h ≡ false → Narrow w h
unfolding wide_sides
narrow w h even small =
    let legal = sides w h even in
    let both = neither (ltb 64 w) (ltb 64 h) small in
    let wide : w ≤ 64 = ltb-false 64 w both.0 in
    let high : h ≤ 64 = ltb-false 64 h both.1 in
    let few = mul-le-mul {n₂ = 64} {m₂ = 64} high wide in
    record { legal = legal; wide = wide; high = high; few = omega (arith, legal.sites) }

-- a stream without a fault, of these sides
pub record Faultless (s : List ℕ) (w h : ℕ) : Type 0 where
  pub sided : fields_at s 0 side_fields ≡ clear
  pub bodied : fields_at s 10 (body_fields (sites_of w h)) ≡ clear
  pub even : bad_sides w h ≡ false
  pub small : wide_sides w h ≡ false
  pub sides : Narrow w h
  pub long : length s ≡ stream_end (sites_of w h)

pub faultless : (s : List ℕ) (w h : ℕ) → faults_of s w h ≡ clear → Faultless s w h
unfolding faults_of past_all
faultless s w h e =
    let n = sites_of w h in
    let head = then_clear (fields_at s 0 side_fields) _ e in
    let one = then_clear _ _ head.1 in
    let four = then_clear _ _ one.1 in
    let rest = then_clear (fields_at s 10 (body_fields n)) _ four.1 in
    let even = unless _ (bad_sides w h) one.0 in
    let small = unless _ (wide_sides w h) four.0 in
    let begun : 10 ≤ length s = fields_inside s 0 side_fields (omega arith) head.0 in
    let most = fields_inside s 10 (body_fields n) begun rest.0 in
    let least : length s ≤ past_all 10 (body_fields n) = ltb-false _ _ (unless _ _ rest.1) in
    record {
      sided = head.0;
      bodied = rest.0;
      even = even;
      small = small;
      sides = narrow w h even small;
      long = omega (arith, end_is n);
    }

pub faultless_as : (s : List ℕ) (w h : ℕ) → stream_verdict s ≡ clear → w ≡ width_of s → h ≡ height_of s → Faultless s w h
faultless_as s w h clear p q = faultless s w h (judged s refl p q ∙ clear)
