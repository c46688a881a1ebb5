-- A body of the length that its window packs to is unpacked whole, at the front of a longer array.
use Prim.Native.Nat.{ℕ, ◌+◌, ◌-◌, ◌≤◌}
use mathlib.Core.List.{List, ◌++◌}
use mathlib.Core.Bool.{false}
use mathlib.Core.Path.{◌≡◌, refl, sym, ap, ◌∙◌}
use native.Mathlib.Omega.{arith}
use lib.ListN.{length, take, drop, length-take, length-drop}
use lib.Seq.{take_at, length-take-le, length_front}
use Rattle.laws.proofs.Tables.{length-tabulate}
use Rattle.verdict.proofs.Verdicts.{end, past}
use Rattle.std.specs.Prelude.{Ok}
use Rattle.verdict.specs.Verdict.{clear}
use Rattle.verdict.specs.Answer.{nothing}
use Rattle.window.specs.Shape.{bad_sides, sites_of}
use Rattle.refusals.proofs.Chains.{right-length}
use Rattle.raw.specs.Packed.{sample10, length10}
use Rattle.raw.specs.Unpack.{unpack_verdict, unpack_answer, unpack_buffer}
use Rattle.raw.proofs.Unpacks.{table, written_is}
use Rattle.stream.specs.Fields.{body_at}
use Rattle.stream.specs.Stream.{unpacked, sites_in, first_of}

-- unpacking refuses nothing of it
pub unpacks : (w h long : ℕ) → bad_sides w h ≡ false → long ≡ length10 (sites_of w h)
    → unpack_verdict w h long (sites_of w h) ≡ clear
unpacks w h long even e =
    (table w h long (sites_of w h)).passed (past even (past (right-length _ long e) (past (right-length _ (sites_of w h) refl) end)))

-- what `unpack_raw10` leaves in a buffer of the window's length
pub left : (w h : ℕ) (body out : List ℕ) → unpack_verdict w h (length body) (sites_of w h) ≡ clear → length out ≡ sites_of w h
    → unpack_buffer w h body out ≡ unpacked (sites_of w h) body
left w h body out clear e =
    sym (written_is w h body out (ap (λ (n : ℕ). unpack_verdict w h (length body) n) e ∙ clear))
    ∙ ap (λ (n : ℕ). unpacked n body) e

-- and in the front of an array of 4,096
pub front : (w h n : ℕ) (body written array : List ℕ) → n ≡ sites_of w h → sites_of w h ≤ 4096 → length array ≡ 4096
    → unpack_verdict w h (length body) (sites_of w h) ≡ clear → written ≡ unpack_buffer w h body (take n array)
    → (take (sites_of w h) (written ++ drop n array) ≡ unpacked (sites_of w h) body) × (length (written ++ drop n array) ≡ 4096)
front w h n body written array e few long clear p =
    let room : length (take n array) ≡ n = length-take-le n array (omega arith) in
    let whole : written ≡ unpacked (sites_of w h) body = p ∙ left w h body (take n array) clear (room ∙ e) in
    let size : length written ≡ sites_of w h = ap length whole ∙ length-tabulate (sites_of w h) (sample10 body) in
    (take_at written (drop n array) (sites_of w h) size ∙ whole, length_front array written n (size ∙ sym e ∙ sym room) ∙ long)

-- which is no refusal
pub front_ok : (w h n : ℕ) (body array : List ℕ) → n ≡ sites_of w h → sites_of w h ≤ 4096 → length array ≡ 4096
    → unpack_verdict w h (length body) (sites_of w h) ≡ clear → Ok nothing ≡ unpack_answer w h (length body) (length (take n array))
unfolding unpack_answer
front_ok w h n body array e few long clear =
    let room : length (take n array) ≡ sites_of w h = length-take-le n array (omega arith) ∙ e in
    rw (room, clear)

-- ---- the bodies that the job reads
-- a field's body is all there
pub body_long : (s : List ℕ) (at n : ℕ) → at + 3 + n ≤ length s → length (body_at s at n) ≡ n
body_long s at n l = simp (length-take, length-drop) (omega arith)

-- one as long as a packed frame can be unpacked
pub body_unpacks : (s : List ℕ) (w h n at : ℕ) → bad_sides w h ≡ false → n ≡ sites_of w h → at + 3 + length10 n ≤ length s
    → unpack_verdict w h (length (body_at s at (length10 n))) (sites_of w h) ≡ clear
body_unpacks s w h n at even e l = unpacks w h _ even (body_long s at (length10 n) l ∙ ap (λ (k : ℕ). length10 k) e)

-- the first frame, from one place of the stream to another
pub first_is_lem : (s : List ℕ) (n : ℕ) (e : n ≡ sites_in s) (k : ℕ) → k ≡ sites_in s
    → unpacked k (take (23 + n + 3 + length10 n - (23 + n + 3)) (drop (23 + n + 3) s)) ≡ first_of s
first_is_lem s n e k f =
    let long : 23 + n + 3 + length10 n - (23 + n + 3) ≡ length10 n = omega arith in
    rw (long, f, e)
