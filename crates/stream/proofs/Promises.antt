-- What is promised of `job`, for any input.
use Prim.Native.Nat.{ℕ, ◌+◌, ◌*◌, ◌/◌, ◌<◌, ◌≤◌}
use mathlib.Core.Bool.{false}
use mathlib.Core.List.{List, ◌∷◌, ◌++◌}
use mathlib.Core.Path.{◌≡◌, refl, sym, ap, ◌∙◌}
use native.Mathlib.Omega.{arith}
use lib.Dec.{ltb}
use lib.ListN.{length, take}
use lib.Seq.{take_all}
use Rattle.laws.specs.First.{count_to}
use Rattle.laws.proofs.Tables.{length-tabulate}
use Rattle.laws.proofs.Sole.{Sole, sole}
use Rattle.verdict.specs.Verdict.{Verdict, clear, ◌⨟◌, refuse_if, number_of, if_clear}
use Rattle.verdict.specs.declared.Refusal.{Refusal}
use Rattle.verdict.proofs.Verdicts.{Test, Tabled, RefusesCounting, refuses_counting, its_own, never_six, in_turn, tabled, tabled_then, then_same, then_clear}
use Rattle.verdict.proofs.Answers.{counted_is_told, was_accepted}
use Rattle.verdict.specs.declared.Refusal.TheVariants.{Parameter, Cut}
use Rattle.verdict.specs.Numbers.{refusal_number}
use Rattle.std.specs.Prelude.{Ok, Err}
use Rattle.window.specs.Shape.{bad_sides}
use Rattle.window.specs.View.{above, seen}
use Rattle.window.proofs.Views.{Agree}
use Rattle.refusals.proofs.Ranges.{two_counting}
use Rattle.raw.specs.Packed.{sample10}
use Rattle.raw.specs.Unpack.{unpack_buffer}
use Rattle.pair.specs.Figures.{spread_of}
use Rattle.pair.specs.Pair.{pair_verdict}
use Rattle.pair.proofs.Promises as pair
use Rattle.dark.specs.Dark.{dark_verdict}
use Rattle.dark.proofs.Promises as dark
use Rattle.stream.specs.Fields.{body_at}
use Rattle.stream.specs.Stream.{width_of, height_of, full_of, black_of, sites_in, packed_in, first_field, second_field, unpacked, mask_of, first_of, second_of, stream_verdict}
use Rattle.stream.specs.Job.{job_verdict, no_figures, job_figures, job_answer, paper_of, job_paper}
use Rattle.stream.specs.Walk.{directly}
use Rattle.stream.specs.declared.JobFigures.{JobFigures}
use Rattle.stream.proofs.Streams.{Faultless, faultless}
use Rattle.stream.proofs.Frames.{left, unpacks, body_long}
use Rattle.stream.proofs.Answers.{together-same, fault_is, calls_are, work_is}
use Rattle.stream.proofs.Tables.{fields_tests, stream_tests, scale_test, left_tests, stream_table, dark_left, left_is}
use Rattle.stream.proofs.Cuts.{faults_seen, word_seen, cut_field, stream_cut}

module _ (s : List ℕ) where
  -- only: no second answer meets the promise
  pub only : Sole (job_answer s)
  only = sole _

  -- the paper's numbers are those of the answer
  pub paper_is : paper_of (job_answer s) ≡ job_paper s
  unfolding job_answer job_paper
  paper_is = counted_is_told no_figures (job_figures s) (job_verdict s)

  -- what the library is lent of a stream without a fault: a legal window, and buffers of its length
  record Lent : Type 0 where
    even : bad_sides (width_of s) (height_of s) ≡ false
    mask : length (mask_of s) ≡ sites_in s
    first : length (first_of s) ≡ sites_in s
    second : length (second_of s) ≡ sites_in s

  lent : stream_verdict s ≡ clear → Lent
  lent clear =
      let x = faultless s (width_of s) (height_of s) clear in
      record {
        even = x.even;
        mask = body_long s 20 (sites_in s) (omega (arith, x.long));
        first = length-tabulate (sites_in s) (sample10 (body_at s (first_field (sites_in s)) (packed_in s)));
        second = length-tabulate (sites_in s) (sample10 (body_at s (second_field (sites_in s)) (packed_in s)));
      }

  -- given: the faults of each field as they are met, 1 and 24 after field 2, 23; then what is left of the library's refusals, in its order
  abbrev pub tests : List Test
  tests =
      stream_tests s (width_of s) (height_of s)
      ++ (scale_test (full_of s) ∷ left_tests (width_of s) (height_of s) (full_of s) (black_of s) (mask_of s) (first_of s) (second_of s))

  pub given : Tabled (job_verdict s) tests
  unfolding job_verdict
  given =
      rw (then_same (stream_verdict s) (λ clear. library clear))
      (tabled_then (stream_table s (width_of s) (height_of s)) (tabled (scale_test (full_of s)) (left_tests (width_of s) (height_of s) (full_of s) (black_of s) (mask_of s) (first_of s) (second_of s))))
    where
      library : stream_verdict s ≡ clear
          → pair_verdict (width_of s) (height_of s) (full_of s) (mask_of s) (first_of s) (second_of s)
          ⨟ dark_verdict (width_of s) (height_of s) (full_of s) (black_of s) (mask_of s) (first_of s)
          ≡ in_turn (scale_test (full_of s)) (left_tests (width_of s) (height_of s) (full_of s) (black_of s) (mask_of s) (first_of s) (second_of s))
      library clear =
          let l = lent clear in
          left_is (width_of s) (height_of s) (full_of s) (black_of s) (mask_of s) (first_of s) (second_of s) l.even l.mask l.first l.second

  -- refused: where the number is not 0 every other number but place and over is 0, and where it is 0 so is the place. Where it is 6, over is
  -- at least 1 and just the count of surveyed samples above full scale, over both frames; else it is 0
  pub refused : RefusesCounting (job_paper s)
      (count_to (sites_in s) (above (full_of s) (seen (mask_of s) (first_of s))) + count_to (sites_in s) (above (full_of s) (seen (mask_of s) (second_of s))))
      ((job_paper s).figures ≡ no_figures)
  unfolding job_paper fields_tests
  refused = refuses_counting (job_verdict s) given refl refl (two_counting (width_of s) (height_of s) (full_of s) (seen (mask_of s) (first_of s)) (seen (mask_of s) (second_of s))) (λ r e. rw e)

  -- pairs_six: a 6 of the job is the pair's, with its place and its count, since the dark level sees a frame that the pair has accepted
  pub pairs_six : (r : Refusal) → job_verdict s ≡ Err r → (refusal_number r) ≡ 6
      → pair_verdict (width_of s) (height_of s) (full_of s) (mask_of s) (first_of s) (second_of s) ≡ Err r
  unfolding job_verdict fields_tests
  pairs_six r e six = past_stream (stream_verdict s) refl e
    where
      pair_is : Verdict
      pair_is = pair_verdict (width_of s) (height_of s) (full_of s) (mask_of s) (first_of s) (second_of s)

      dark_is : Verdict
      dark_is = dark_verdict (width_of s) (height_of s) (full_of s) (black_of s) (mask_of s) (first_of s)

      own_three : stream_verdict s ≡ clear → pair_is ≡ clear → dark_is ≡ refuse_if Parameter (ltb (full_of s) (black_of s))
      own_three clear = let l = lent clear in
          dark_left (width_of s) (height_of s) (full_of s) (black_of s) (mask_of s) (first_of s) (second_of s) l.even l.mask l.first l.second

      past-pair : stream_verdict s ≡ clear → (v : Verdict) → pair_is ≡ v → v ⨟ dark_is ≡ Err r → pair_is ≡ Err r
      past-pair clear (Err q) p f = p ∙ f
      past-pair clear (Ok _) p f = absurd (omega (arith, six, ap (λ (q : Refusal). (refusal_number q)) (its_own Parameter _ (sym (own_three clear p) ∙ f))))

      past_stream : (v : Verdict) → stream_verdict s ≡ v → v ⨟ pair_is ⨟ dark_is ≡ Err r → pair_is ≡ Err r
      past_stream (Ok _) clear f = past-pair clear pair_is refl f
      past_stream (Err q) p f =
          absurd (never_six (stream_verdict s) (stream_table s (width_of s) (height_of s)) refl refl (ap number_of (p ∙ f) ∙ six))

  -- the noise is over 64 × sites and the dark level over sites, so the other numbers tell all that is printed
  pub denominators : ((job_paper s).figures.r_over ≡ 64 * (job_paper s).figures.sites) × ((job_paper s).figures.dark_over ≡ (job_paper s).figures.sites)
  unfolding job_paper spread_of
  denominators = by (job_verdict s)
    where
      by : (v : Verdict) → ((if_clear v (job_figures s) no_figures).r_over ≡ 64 * (if_clear v (job_figures s) no_figures).sites)
          × ((if_clear v (job_figures s) no_figures).dark_over ≡ (if_clear v (job_figures s) no_figures).sites)
      by (Ok _) = (refl, refl)
      by (Err r) = (refl, refl)

  -- a stream that is answered with figures has no fault
  pub accepted : (f : JobFigures) → job_answer s ≡ Ok f → stream_verdict s ≡ clear
  unfolding job_answer job_verdict
  accepted f e = (then_clear (stream_verdict s) _ (was_accepted (job_verdict s) e).0).0

  -- ---- of a stream without a fault: its sides are legal and at most 64 (`Faultless`)
  module _ (clear : stream_verdict s ≡ clear) where
    abbrev whole : Faultless s (width_of s) (height_of s)
    whole = faultless s (width_of s) (height_of s) clear

    -- it has exactly one length for its sides
    pub one_length : length s ≡ 32 + height_of s * width_of s + 2 * (height_of s * width_of s * 5 / 4)
    one_length = rw (← whole.sides.legal.sites) whole.long

    -- at most 14,368 bytes
    pub longest : length s ≤ 14368
    longest = omega (arith, whole.long, whole.sides.few)

    frame : (at : ℕ) (out : List ℕ) → length out ≡ sites_in s → at + 3 + packed_in s ≤ length s
        → unpack_buffer (width_of s) (height_of s) (body_at s at (packed_in s)) out ≡ unpacked (sites_in s) (body_at s at (packed_in s))
    frame at out e l =
        left (width_of s) (height_of s) (body_at s at (packed_in s)) out (unpacks (width_of s) (height_of s) _ whole.even (body_long s at (packed_in s) l)) e

    -- the answer is that of the library's calls on the two frames that `unpack_raw10` leaves in any buffers of the window's length
    pub direct : (one two : List ℕ) → length one ≡ sites_in s → length two ≡ sites_in s
        → job_answer s
        ≡ directly (width_of s) (height_of s) (full_of s) (black_of s) (mask_of s)
        (unpack_buffer (width_of s) (height_of s) (body_at s (first_field (sites_in s)) (packed_in s)) one)
        (unpack_buffer (width_of s) (height_of s) (body_at s (second_field (sites_in s)) (packed_in s)) two)
    direct one two p q =
        sym (work_is s clear refl refl refl refl refl
        (frame (first_field (sites_in s)) one p (omega (arith, whole.long)))
        (frame (second_field (sites_in s)) two q (omega (arith, whole.long))))

    -- cut anywhere before its end, it is refused: 20, at the field that was cut
    pub cut : (k : ℕ) → k < length s → job_answer (take k s) ≡ Err (Cut (cut_field s k))
    cut k l = sym (fault_is (take k s) (stream_cut s k clear l))

-- the first 14,369 bytes decide the answer
pub decided : (s : List ℕ) → job_answer (take 14369 s) ≡ job_answer s
decided s = by (stream_verdict s) refl
  where
    read : stream_verdict (take 14369 s) ≡ stream_verdict s
    read = rw (word_seen 14369 s 3 (omega arith), word_seen 14369 s 8 (omega arith)) (faults_seen 14369 s (width_of s) (height_of s) (omega arith))

    by : (v : Verdict) → stream_verdict s ≡ v → job_answer (take 14369 s) ≡ job_answer s
    by (Ok _) e = ap job_answer (take_all 14369 s (omega (arith, longest s e)))
    by (Err r) e = sym (fault_is (take 14369 s) (read ∙ e)) ∙ fault_is s e

-- whatever follows them
pub same_start : (s t : List ℕ) → take 14369 s ≡ take 14369 t → job_answer s ≡ job_answer t
same_start s t e = sym (decided s) ∙ ap job_answer e ∙ decided t

-- two streams of one window, full scale, black level and mask, whose frames agree at the surveyed sites
pub record Alike (s t : List ℕ) : Type 0 where
  pub wide : width_of s ≡ width_of t
  pub high : height_of s ≡ height_of t
  pub full : full_of s ≡ full_of t
  pub black : black_of s ≡ black_of t
  pub mask : mask_of s ≡ mask_of t
  pub first : Agree (mask_of s) (first_of s) (first_of t)
  pub second : Agree (mask_of s) (second_of s) (second_of t)

-- of two that have no fault
figures-alike : (s t : List ℕ) → Alike s t → stream_verdict s ≡ clear → stream_verdict t ≡ clear → job_answer s ≡ job_answer t
figures-alike s t a clear clear' =
    sym (calls_are s clear)
    ∙ together-same (pair.blind (width_of s) (height_of s) (full_of s) a.first a.second) (dark.blind (width_of s) (height_of s) (full_of s) (black_of s) (mask_of s) (first_of s) (first_of t) a.first)
    ∙ work_is t clear' a.wide a.high a.full a.black a.mask refl refl

-- blind: what a stream's frames hold at unsurveyed sites changes nothing, no count either, whatever fault both have
pub blind : (s t : List ℕ) → Alike s t → stream_verdict s ≡ stream_verdict t → job_answer s ≡ job_answer t
blind s t a same = by (stream_verdict s) refl
  where
    by : (v : Verdict) → stream_verdict s ≡ v → job_answer s ≡ job_answer t
    by (Ok _) e = figures-alike s t a e (sym same ∙ e)
    by (Err r) e = sym (fault_is s e) ∙ fault_is t (sym same ∙ e)
