-- The laws of verdicts in turn: a number is given exactly where its test applies and none before it does.
use Prim.Native.Nat.{ℕ, ◌≤◌, ◌<◌}
use mathlib.Core.Bool.{Bool, true, false, not, cond, ◌&&◌}
use mathlib.Core.List.{List, [], ◌∷◌, ◌++◌}
use mathlib.Core.Path.{◌≡◌, refl, sym, ap, ap₂, ◌∙◌, subst}
use native.Mathlib.Omega.{arith}
use lib.Dec.{eqb, ltb}
use borrow.Author.Tests.{ltb-true, eqb-true, eq-eqb, ne_eqb, not-true}
use Rattle.std.specs.Prelude.{Result, Ok, Err}
use Rattle.std.specs.Result.{result_and}
use Rattle.laws.specs.First.{first_to, some_to}
use Rattle.laws.proofs.Cases.{and_true, not_both}
use Rattle.verdict.specs.Numbers.{refusal_number, refusal_place, refusal_count}
use Rattle.verdict.specs.Verdict.{Verdict, clear, ◌⨟◌, refuse_if, refuse_first, number_of, place_of, over_of}
use Rattle.verdict.specs.Answer.{CountedPaper}
use Rattle.verdict.specs.declared.Refusal.{Refusal}

-- a verdict is clear or refuses, and never both
pub not_clear : {A R : Type 0} {r : R} → ◌≡◌ {A = Result (Unit {0}) R} (Err r) (Ok tt) → A
not_clear e = let z : ◌≡◌ {A = ℕ} 0 1 = cc in absurd (omega arith)

-- what follows is judged only where nothing was refused
pub then_same : {A R : Type 0} (a : Result (Unit {0}) R) {b d : Result A R} → (a ≡ Ok tt → b ≡ d) → a ⨟ b ≡ a ⨟ d
then_same (Ok u) f = f refl
then_same (Err r) f = refl

-- what `then` answers of two verdicts that are known
pub then_of : {A : Type 0} {a a' : Verdict} {r b b' : Result A Refusal} → r ≡ a ⨟ b → a ≡ a' → b ≡ b' → r ≡ a' ⨟ b'
then_of {A} e p q = e ∙ ap₂ (λ (x : Verdict) (y : Result A Refusal). x ⨟ y) p q

-- the first of two that refuses stops the second, and one that is clear leaves it to the second: what `?` does
pub stopped : {A R : Type 0} {a : Result (Unit {0}) R} {r : R} (b : Result A R) → Err r ≡ a → Err r ≡ a ⨟ b
stopped b e = rw (sym e) refl

pub moved_on : {A R : Type 0} {a : Result (Unit {0}) R} (b : Result A R) → Ok tt ≡ a → b ≡ a ⨟ b
moved_on b e = rw (sym e) refl

-- std's `and` of two verdicts is one after the other
pub and_is : {A R : Type 0} (a : Result (Unit {0}) R) (b : Result A R) → result_and a b ≡ a ⨟ b
and_is (Ok _) b = refl
and_is (Err r) b = refl

pub then_clear : {R : Type 0} (a b : Result (Unit {0}) R) → a ⨟ b ≡ Ok tt → (a ≡ Ok tt) × (b ≡ Ok tt)
then_clear (Ok u) b e = (refl, e)
then_clear (Err r) b e = not_clear e

pub clear_then : {a b : Verdict} → a ≡ clear → b ≡ clear → a ⨟ b ≡ clear
clear_then p q = rw (p, q)

pub then_assoc : {A : Type 0} (a b : Verdict) (d : Result A Refusal) → (a ⨟ b) ⨟ d ≡ a ⨟ (b ⨟ d)
then_assoc (Ok u) b d = refl
then_assoc (Err r) b d = refl

pub clear_first : {A : Type 0} (a : Result A Refusal) → clear ⨟ a ≡ a
clear_first a = refl

pub then_end : (a : Verdict) → a ⨟ clear ≡ a
then_end (Ok u) = refl
then_end (Err r) = refl

-- a test that refuses nothing does not apply
pub unless : {R : Type 0} (r : R) (b : Bool) → refuse_if r b ≡ Ok tt → b ≡ false
unless r false e = refl
unless r true e = not_clear e

pub clear_unless : (r : Refusal) {b : Bool} → b ≡ false → refuse_if r b ≡ clear
clear_unless r e = rw e

-- what a test refuses with is its own refusal
pub its_own : (q : Refusal) (b : Bool) {r : Refusal} → refuse_if q b ≡ Err r → q ≡ r
its_own q true e = cc
its_own q false e = not_clear (sym e)

-- a test that never applies where all before it is clear changes no verdict
pub then_spare : (a : Verdict) (r : Refusal) {b : Bool} → (a ≡ clear → b ≡ false) → a ⨟ refuse_if r b ≡ a
then_spare a r f = then_same a (λ e. clear_unless r (f e)) ∙ then_end a

-- a search whose number is not given found nothing
pub not_given : (at : ℕ → Refusal) (n : ℕ) (test : ℕ → Bool) (v : Verdict)
    → (number_of (refuse_first at n test ⨟ v) ≡ refusal_number (at (first_to n test)) → ⊥) → refuse_first at n test ⨟ v ≡ v
not_given at n test v = by (some_to n test)
  where
    by : (b : Bool) → (number_of (refuse_if (at (first_to n test)) b ⨟ v) ≡ refusal_number (at (first_to n test)) → ⊥)
        → refuse_if (at (first_to n test)) b ⨟ v ≡ v
    by true f = absurd (f refl)
    by false f = refl

-- ---- a table of tests: each a refusal, and whether it applies
pub record Test : Type 0 where
  pub refusal : Refusal
  pub applies : Bool

abbrev pub test : Refusal → Bool → Test
test r b = record { refusal = r; applies = b }

-- at the first of n sites at which something holds
abbrev pub test_first : (ℕ → Refusal) → ℕ → (ℕ → Bool) → Test
test_first at n holds = test (at (first_to n holds)) (some_to n holds)

abbrev pub asked : Test → Verdict
asked t = refuse_if t.refusal t.applies

-- its tests in turn, the first and then the rest
abbrev pub in_turn : Test → List Test → Verdict
in_turn t [] = asked t
in_turn t (u ∷ us) = asked t ⨟ in_turn u us

-- a refusal is given: a test of the table that has its number, place and count applies, and none before it does
pub data Given : List Test → Refusal → Type 0 where
  here : {t : Test} {ts : List Test} → t.applies ≡ true → Given (t ∷ ts) t.refusal
  later : {t : Test} {ts : List Test} {r : Refusal} → t.applies ≡ false → Given ts r → Given (t ∷ ts) r

-- no test of the table applies
pub data Passed : List Test → Type 0 where
  end : Passed []
  past : {t : Test} {ts : List Test} → t.applies ≡ false → Passed ts → Passed (t ∷ ts)

pub passed_head : {t : Test} {ts : List Test} → Passed (t ∷ ts) → t.applies ≡ false
passed_head (past e p) = e

pub passed_tail : {t : Test} {ts : List Test} → Passed (t ∷ ts) → Passed ts
passed_tail (past e p) = p

-- a verdict is what a table says: a refusal is given exactly as tabled, and nothing is where no test applies
pub record Tabled (v : Verdict) (ts : List Test) : Type 0 where
  pub only : (r : Refusal) → v ≡ Err r → Given ts r
  pub given : (r : Refusal) → Given ts r → v ≡ Err r
  pub clear : v ≡ Ok tt → Passed ts
  pub passed : Passed ts → v ≡ Ok tt

abbrev all_of : List Test → Verdict
all_of [] = clear
all_of (t ∷ ts) = asked t ⨟ all_of ts

turned : (t : Test) (ts : List Test) → all_of (t ∷ ts) ≡ in_turn t ts
turned t [] = then_end (asked t)
turned t (u ∷ us) = ap (λ (v : Verdict). asked t ⨟ v) (turned u us)

module _ (r : Refusal) (v : Verdict) where
  applied : (b : Bool) → b ≡ true → refuse_if r b ⨟ v ≡ Err r
  applied b e = rw e

  -- a test that does not apply is passed over
  pub skipped : (b : Bool) → b ≡ false → refuse_if r b ⨟ v ≡ v
  skipped b e = rw e

giving : {ts : List Test} {r : Refusal} → Given ts r → all_of ts ≡ Err r
giving (here {t} {ts} e) = applied t.refusal (all_of ts) t.applies e
giving (later {t} {ts} e g) = skipped t.refusal (all_of ts) t.applies e ∙ giving g

passing : {ts : List Test} → Passed ts → all_of ts ≡ clear
passing end = refl
passing (past {t} {ts} e g) = skipped t.refusal (all_of ts) t.applies e ∙ passing g

gives : (ts : List Test) (r : Refusal) → all_of ts ≡ Err r → Given ts r
gives [] r e = not_clear (sym e)
gives (t ∷ ts) r e = by t.applies refl (λ h. gives ts r h)
  where
    by : (b : Bool) → t.applies ≡ b → (all_of ts ≡ Err r → Given ts r) → Given (t ∷ ts) r
    by true a on =
        let same : Err t.refusal ≡ Err r = sym (applied t.refusal (all_of ts) t.applies a) ∙ e in
        let it : t.refusal ≡ r = cc in
        subst (λ (x : Refusal). Given (t ∷ ts) x) it (here a)
    by false a on = later a (on (sym (skipped t.refusal (all_of ts) t.applies a) ∙ e))

passes : (ts : List Test) → all_of ts ≡ clear → Passed ts
passes [] e = end
passes (t ∷ ts) e =
    let both = then_clear (asked t) (all_of ts) e in
    past (unless t.refusal t.applies both.0) (passes ts both.1)

-- a verdict is what a table says exactly where it is all its tests in turn
all_tabled : (v : Verdict) (ts : List Test) → v ≡ all_of ts → Tabled v ts
all_tabled v ts e = record {
  only = λ r f. gives ts r (sym e ∙ f);
  given = λ r g. e ∙ giving g;
  clear = λ f. passes ts (sym e ∙ f);
  passed = λ g. e ∙ passing g;
}

tabled_all : {ts : List Test} (v : Verdict) → Tabled v ts → v ≡ all_of ts
tabled_all (Ok u) t = sym (passing (t.clear refl))
tabled_all (Err r) t = sym (giving (t.only r refl))

-- THE LAW: tests in turn are what their table says, number, place and count
pub tabled : (t : Test) (ts : List Test) → Tabled (in_turn t ts) (t ∷ ts)
tabled t ts = all_tabled (in_turn t ts) (t ∷ ts) (sym (turned t ts))

-- a verdict of no test
pub tabled_none : Tabled clear []
tabled_none = all_tabled clear [] refl

appended : (ts us : List Test) → all_of (ts ++ us) ≡ all_of ts ⨟ all_of us
appended [] us = refl
appended (t ∷ ts) us = ap (λ (v : Verdict). asked t ⨟ v) (appended ts us) ∙ sym (then_assoc (asked t) (all_of ts) (all_of us))

-- two verdicts in turn are what their two tables say, one after the other
pub tabled_then : {ts us : List Test} {a b : Verdict} → Tabled a ts → Tabled b us → Tabled (a ⨟ b) (ts ++ us)
tabled_then {ts} {us} {a} {b} p q =
    all_tabled (a ⨟ b) (ts ++ us) (ap₂ (λ (x y : Verdict). x ⨟ y) (tabled_all a p) (tabled_all b q) ∙ sym (appended ts us))

-- ---- demand 1
-- no test of a table has the number 0, by which an accepted answer is told
abbrev pub numbered : List Test → Bool
numbered [] = true
numbered (t ∷ ts) = ltb 0 (refusal_number t.refusal) && numbered ts

-- of a call's number and place, and of what holds where it refuses: its figures are 0, its buffers as they were
pub record Refuses (number place : ℕ) (Untouched : Type 0) : Type 0 where
  pub refused : (number ≡ 0 → ⊥) → Untouched
  pub accepted : number ≡ 0 → place ≡ 0

number-above : (ts : List Test) {r : Refusal} → numbered ts ≡ true → Given ts r → 0 < refusal_number r
number-above (t ∷ ts) e (here a) = ltb-true 0 (refusal_number t.refusal) (and_true (ltb 0 (refusal_number t.refusal)) (numbered ts) e).0
number-above (t ∷ ts) e (later a g) = number-above ts (and_true (ltb 0 (refusal_number t.refusal)) (numbered ts) e).1 g
number-above [] {r = r} e x'' = elim x'' [ ]

-- a verdict whose number is 0 refuses nothing
pub zero_clear : {ts : List Test} (v : Verdict) → Tabled v ts → numbered ts ≡ true → number_of v ≡ 0 → v ≡ clear
zero_clear (Ok u) t n e = refl
zero_clear {ts} (Err r) t n e =
    let above : 0 < refusal_number r = number-above ts n (t.only r refl) in
    absurd (omega arith)

-- THE LAW: of any verdict that a table without a 0 says
pub refuses : {ts : List Test} (v : Verdict) {Untouched : Type 0}
    → Tabled v ts → numbered ts ≡ true → ((r : Refusal) → v ≡ Err r → Untouched)
    → Refuses (number_of v) (place_of v) Untouched
refuses (Ok _) t n u = record { refused = λ f. absurd (f refl); accepted = λ e. refl }
refuses {ts} (Err r) t n u =
    let above : 0 < refusal_number r = number-above ts n (t.only r refl) in
    record { refused = λ f. u r refl; accepted = λ e. absurd (omega arith) }

-- a table whose places are all 0 gives no other
abbrev pub unplaced : List Test → Bool
unplaced [] = true
unplaced (t ∷ ts) = eqb (refusal_place t.refusal) 0 && unplaced ts

given_unplaced : (ts : List Test) {r : Refusal} → unplaced ts ≡ true → Given ts r → refusal_place r ≡ 0
given_unplaced (t ∷ ts) e (here a) = eqb-true (refusal_place t.refusal) 0 (and_true (eqb (refusal_place t.refusal) 0) (unplaced ts) e).0
given_unplaced (t ∷ ts) e (later a g) = given_unplaced ts (and_true (eqb (refusal_place t.refusal) 0) (unplaced ts) e).1 g
given_unplaced [] {r = r} e x'' = elim x'' [ ]

pub never_placed : {ts : List Test} (v : Verdict) → Tabled v ts → unplaced ts ≡ true → place_of v ≡ 0
never_placed (Ok _) t u = refl
never_placed {ts} (Err r) t u = given_unplaced ts u (t.only r refl)

-- ---- demand 1 as document 02 d amends it: 6 counts the samples that are over, and no other number counts anything
-- of a call's number and its over: at 6 just so many samples, and at least 1; else 0
pub record OverAtSix (number over samples : ℕ) : Type 0 where
  pub at_six : number ≡ 6 → (over ≡ samples) × (1 ≤ over)
  pub else_none : (number ≡ 6 → ⊥) → over ≡ 0

-- and all that demand 1 says of the numbers of a call that can give 6
abbrev pub RefusesCounting : {F : Type 0} → CountedPaper F → ℕ → Type 0 → Type 0
RefusesCounting paper samples Untouched = Refuses paper.number paper.place Untouched × OverAtSix paper.number paper.over samples

-- the tests of 6 in a table
abbrev pub sixes : List Test → List Test
sixes [] = []
sixes (t ∷ ts) = cond (eqb (refusal_number t.refusal) 6) (t ∷ sixes ts) (sixes ts)

-- no test of another number has a count
abbrev pub others_uncounted : List Test → Bool
others_uncounted [] = true
others_uncounted (t ∷ ts) = cond (eqb (refusal_number t.refusal) 6) true (eqb (refusal_count t.refusal) 0) && others_uncounted ts

-- each test of a table has this count, and applies only where it is at least 1
pub data Counting (samples : ℕ) : List Test → Type 0 where
  no_six : Counting samples []
  also : {t : Test} {ts : List Test} → refusal_count t.refusal ≡ samples → (t.applies ≡ true → 1 ≤ samples) → Counting samples ts → Counting samples (t ∷ ts)

-- what a table gives at 6 has the count that its tests of 6 have, and that is at least 1
given_six : (ts : List Test) {r : Refusal} {samples : ℕ} → Counting samples (sixes ts) → Given ts r → refusal_number r ≡ 6 → (refusal_count r ≡ samples) × (1 ≤ samples)
given_six (t ∷ ts) {samples = samples} c (here a) e = by (rw (eq-eqb (refusal_number t.refusal) 6 e) at c)
  where
    by : {us : List Test} → Counting samples (t ∷ us) → (refusal_count t.refusal ≡ samples) × (1 ≤ samples)
    by (also same some rest) = (same, some a)
given_six (t ∷ ts) {samples = samples} c (later a g) e = given_six ts (by (eqb (refusal_number t.refusal) 6) c) g e
  where
    by : (b : Bool) → Counting samples (cond b (t ∷ sixes ts) (sixes ts)) → Counting samples (sixes ts)
    by true (also same some rest) = rest
    by false c = c
given_six [] {r = r} {samples = samples} c x3 e = elim x3 [ ]

-- and what it gives at another number counts nothing
given_other : (ts : List Test) {r : Refusal} → others_uncounted ts ≡ true → Given ts r → (refusal_number r ≡ 6 → ⊥) → refusal_count r ≡ 0
given_other (t ∷ ts) e (here a) other =
    eqb-true (refusal_count t.refusal) 0
    (rw (ne_eqb (refusal_number t.refusal) 6 other) at (and_true (cond (eqb (refusal_number t.refusal) 6) true (eqb (refusal_count t.refusal) 0)) (others_uncounted ts) e).0)
given_other (t ∷ ts) e (later a g) other =
    given_other ts (and_true (cond (eqb (refusal_number t.refusal) 6) true (eqb (refusal_count t.refusal) 0)) (others_uncounted ts) e).1 g other
given_other [] {r = r} e x3 other = elim x3 [ ]

-- THE LAW: of any verdict that a table says in which 6 alone counts
pub over_at_six : {ts : List Test} {samples : ℕ} (v : Verdict) → Tabled v ts → others_uncounted ts ≡ true → Counting samples (sixes ts)
    → OverAtSix (number_of v) (over_of v) samples
over_at_six (Ok _) t u c = record { at_six = λ e. absurd (omega arith); else_none = λ f. refl }
over_at_six {ts} (Err r) t u c =
    let given = t.only r refl in
    record {
      at_six = λ e. let six = given_six ts c given e in (six.0, omega (arith, six.0, six.1));
      else_none = given_other ts u given;
    }

-- and so demand 1, of the numbers that it tells
pub refuses_counting : {ts : List Test} {samples : ℕ} (v : Verdict) {Untouched : Type 0}
    → Tabled v ts → numbered ts ≡ true → others_uncounted ts ≡ true → Counting samples (sixes ts) → ((r : Refusal) → v ≡ Err r → Untouched)
    → Refuses (number_of v) (place_of v) Untouched × OverAtSix (number_of v) (over_of v) samples
refuses_counting v t n o c u = (refuses v t n u, over_at_six v t o c)

-- so a table that has no 6 gives none, and counts nothing
module _ {ts : List Test} (v : Verdict) (t : Tabled v ts) (u : others_uncounted ts ≡ true) (none : sixes ts ≡ []) where
  uncounting : OverAtSix (number_of v) (over_of v) 0
  uncounting = over_at_six {samples = 0} v t u (rw none no_six)

  pub never_six : number_of v ≡ 6 → ⊥
  never_six e = omega (arith, (uncounting.at_six e).0, (uncounting.at_six e).1)

  pub never_over : over_of v ≡ 0
  never_over = uncounting.else_none never_six

-- every test of a number in a table does not apply
abbrev pub idle : ℕ → List Test → Bool
idle n [] = true
idle n (t ∷ ts) = not (eqb (refusal_number t.refusal) n && t.applies) && idle n ts

-- so that number is not given
pub never_given : {ts : List Test} {n : ℕ} (v : Verdict) → Tabled v ts → idle n ts ≡ true → 0 < n → number_of v ≡ n → ⊥
never_given (Ok u) t i some e = omega arith
never_given {ts} {n} (Err r) t i some e = by ts i (t.only r refl) e
  where
    by : (us : List Test) {r : Refusal} → idle n us ≡ true → Given us r → refusal_number r ≡ n → ⊥
    by (u ∷ us) i (here a) e =
        let still = not-true (eqb (refusal_number u.refusal) n && u.applies) (and_true (not (eqb (refusal_number u.refusal) n && u.applies)) (idle n us) i).0 in
        not_both a (rw (eq-eqb (refusal_number u.refusal) n e) at still)
    by (u ∷ us) i (later a g) e = by us (and_true (not (eqb (refusal_number u.refusal) n && u.applies)) (idle n us) i).1 g e
    by [] i x7 e = elim x7 [ ]
