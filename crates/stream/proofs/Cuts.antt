-- What a stream that is cut off is judged as: the same by whoever needs no byte past the cut, and 20 by the field that is cut.
use Prim.Native.Nat.{ℕ, ◌+◌, ◌<◌, ◌≤◌, min}
use mathlib.Core.Bool.{false, cond}
use mathlib.Core.List.{List, [], ◌∷◌, ◌++◌}
use mathlib.Core.Logic.{⊎_elim}
use mathlib.Core.Path.{◌≡◌, refl}
use native.Mathlib.Nat.{eq-or-lt_of_le}
use native.Mathlib.Omega.{arith}
use lib.Dec.{ltb}
use lib.ListN.{length, get_or, take, length-take}
use lib.Seq.{get_or-take, length-take-le}
use borrow.Author.Tests.{lt-ltb, le-ltb}
use Rattle.laws.proofs.Cases.{lt_or_ge, ltb_iff}
use Rattle.verdict.specs.Verdict.{clear, refuse_if}
use Rattle.verdict.proofs.Verdicts.{here, later, passed_head, passed_tail, then_same, then_clear, unless}
use Rattle.verdict.specs.declared.Refusal.TheVariants.{Sides, TooWide, Cut}
use Rattle.std.specs.Prelude.{Err}
use Rattle.window.specs.Shape.{bad_sides, sites_of}
use Rattle.refusals.specs.Judge.{other_than}
use Rattle.stream.specs.Fields.{Field, word_at, past, field_at, fields_at, past_all, extra_at}
use Rattle.stream.specs.Stream.{side_fields, body_fields, wide_sides, faults_of, width_of, height_of, sites_in, stream_verdict}
use Rattle.stream.proofs.Streams.{Faultless, faultless, narrow, field-inside, end_is, sides_end}
use Rattle.stream.proofs.Tables.{field_table}

-- ---- a cut past what is looked at
past_all_lem : (at : ℕ) (fs : List Field) → at ≤ past_all at fs
unfolding past_all
past_all_lem at [] = omega arith
past_all_lem at (f ∷ fs) = omega (arith, past_all_lem (past at f) fs)

module _ (n : ℕ) (s : List ℕ) where
  short : (a : ℕ) → a ≤ n → ltb (length (take n s)) a ≡ ltb (length s) a
  short a l = rw (length-take n s) (ltb_iff (min n (length s)) a (length s) a (λ h. omega arith) (λ h. omega arith))

  pub word_seen : (i : ℕ) → i + 1 < n → word_at (take n s) i ≡ word_at s i
  unfolding word_at
  word_seen i h = rw (get_or-take n s i 0 (omega arith), get_or-take n s (i + 1) 0 h)

  field_seen : (at : ℕ) (f : Field) → past at f ≤ n → field_at (take n s) at f ≡ field_at s at f
  unfolding field_at
  field_seen at f l =
      rw (
        short (at + 1) (omega arith),
        short (at + 3) (omega arith),
        short (past at f) l,
        get_or-take n s at 0 (omega arith),
        word_seen (at + 1) (omega arith),
      )

  pub fields_seen : (at : ℕ) (fs : List Field) → past_all at fs ≤ n → fields_at (take n s) at fs ≡ fields_at s at fs
  unfolding fields_at past_all
  fields_seen at [] l = refl
  fields_seen at (f ∷ fs) l =
      rw (field_seen at f (omega (arith, past_all_lem (past at f) fs)), fields_seen (past at f) fs l)

  extra_seen : (e : ℕ) → e < n → extra_at (take n s) e ≡ extra_at s e
  extra_seen e l = rw (length-take n s, ltb_iff e (min n (length s)) e (length s) (λ h. omega arith) (λ h. omega arith))

-- ---- a cut inside a field
-- where the field begins that byte k stands in, of fields that follow each other from `at` on
unfoldable pub start_of : ℕ → ℕ → List Field → ℕ
start_of k at [] = at
start_of k at (f ∷ fs) = cond (ltb k (past at f)) at (start_of k (past at f) fs)

module _ (k : ℕ) (s : List ℕ) (at : ℕ) (f : Field) (whole : field_at s at f ≡ clear) where
  tagged : at < k → other_than f.tag (get_or (take k s) at 0) ≡ false
  tagged q = rw (get_or-take k s at 0 q) (passed_head (passed_tail ((field_table s at f).clear whole)))

  sized : at + 3 ≤ k → other_than f.long (word_at (take k s) (at + 1)) ≡ false
  sized r =
      rw (word_seen k s (at + 1) (omega arith))
      (passed_head (passed_tail (passed_tail (passed_tail ((field_table s at f).clear whole)))))

  pub field_cut : at ≤ k → k < past at f → field_at (take k s) at f ≡ Err (Cut at)
  field_cut l h =
      let inside = field-inside s at f whole in
      let size : length (take k s) ≡ k = length-take-le k s (omega arith) in
      let n = length (take k s) in
      let told = (field_table (take k s) at f).given (Cut at) in
      ⊎_elim
      (λ (q : at ≡ k). told (here (lt-ltb n (at + 1) (omega arith))))
      (λ (q : at < k).
      let begun = le-ltb n (at + 1) (omega arith) in
      ⊎_elim
      (λ (r : k < at + 3). told (later begun (later (tagged q) (here (lt-ltb n (at + 3) (omega arith))))))
      (λ (r : at + 3 ≤ k).
      told (later begun (later (tagged q) (later (le-ltb n (at + 3) (omega arith)) (later (sized r) (here (lt-ltb n (past at f) (omega arith))))))))
      (lt_or_ge k (at + 3)))
      (eq-or-lt_of_le l)

-- of fields without a fault, the one that is cut
pub fields_cut : (k : ℕ) (s : List ℕ) (at : ℕ) (fs : List Field) → fields_at s at fs ≡ clear → at ≤ k → k < past_all at fs
    → fields_at (take k s) at fs ≡ Err (Cut (start_of k at fs))
unfolding fields_at past_all start_of
fields_cut k s at [] e l h = absurd (omega arith)
fields_cut k s at (f ∷ fs) e l h =
    let both = then_clear (field_at s at f) (fields_at s (past at f) fs) e in
    ⊎_elim
    (λ (i : k < past at f). rw (field_cut k s at f both.0 l i, lt-ltb k (past at f) i))
    (λ (o : past at f ≤ k). rw (field_seen k s at f o, both.0, le-ltb k (past at f) o) (fields_cut k s (past at f) fs both.1 o h))
    (lt_or_ge k (past at f))

-- ---- the whole stream
module _ (n : ℕ) (s : List ℕ) (w h : ℕ) where
  room : bad_sides w h ≡ false → wide_sides w h ≡ false → 14369 ≤ n → past_all 10 (body_fields (sites_of w h)) < n
  room even small l = omega (arith, end_is (sites_of w h), (narrow w h even small).few)

  -- no byte is looked at past the longest stream and the one byte that would follow it
  pub faults_seen : 14369 ≤ n → faults_of (take n s) w h ≡ faults_of s w h
  unfolding faults_of
  faults_seen l =
      rw (fields_seen n s 0 side_fields (omega (arith, sides_end)))
      (then_same (fields_at s 0 side_fields) (λ _.
      then_same (refuse_if Sides (bad_sides w h)) (λ a.
      then_same (refuse_if TooWide (wide_sides w h)) (λ b.
      let fits = room (unless _ (bad_sides w h) a) (unless _ (wide_sides w h) b) l in
      rw (fields_seen n s 10 (body_fields (sites_of w h)) (omega arith), extra_seen n s (past_all 10 (body_fields (sites_of w h))) fits)))))

-- the place of a cut: where the field begins that the first missing byte would have stood in
abbrev pub cut_field : List ℕ → ℕ → ℕ
cut_field s k = start_of k 0 (side_fields ++ body_fields (sites_in s))

module _ (s : List ℕ) (k : ℕ) where
  in_sides : k < 10 → start_of k 0 side_fields ≡ cut_field s k
  unfolding start_of
  in_sides l = rw (lt-ltb k 10 l)

  in_bodies : 10 ≤ k → start_of k 10 (body_fields (sites_in s)) ≡ cut_field s k
  unfolding start_of
  in_bodies l = rw (le-ltb k 5 (omega arith), le-ltb k 10 l)

  cut_sides : (w h : ℕ) → fields_at s 0 side_fields ≡ clear → k < 10 → faults_of (take k s) w h ≡ Err (Cut (cut_field s k))
  unfolding faults_of
  cut_sides w h whole l = rw (fields_cut k s 0 side_fields whole (omega arith) (omega (arith, sides_end)), in_sides l)

  cut_bodies : Faultless s (width_of s) (height_of s) → 10 ≤ k → k < length s
      → faults_of (take k s) (width_of s) (height_of s) ≡ Err (Cut (cut_field s k))
  unfolding faults_of
  cut_bodies x l m =
      rw (
        fields_seen k s 0 side_fields (omega (arith, sides_end)),
        x.sided,
        x.even,
        x.small,
        fields_cut k s 10 (body_fields (sites_in s)) x.bodied l (omega (arith, x.long, end_is (sites_in s))),
        in_bodies l,
      )

  pub stream_cut : stream_verdict s ≡ clear → k < length s → stream_verdict (take k s) ≡ Err (Cut (cut_field s k))
  stream_cut clear m =
      let x = faultless s (width_of s) (height_of s) clear in
      ⊎_elim
      (λ (l : k < 10). cut_sides (width_of (take k s)) (height_of (take k s)) x.sided l)
      (λ (l : 10 ≤ k). rw (word_seen k s 3 (omega arith), word_seen k s 8 (omega arith)) (cut_bodies x l m))
      (lt_or_ge k 10)
