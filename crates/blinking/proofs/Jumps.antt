-- A site jumps exactly where its greatest sample of a run exceeds its least by the spread, since no two frames differ more than the two that have these.
use Prim.Native.Nat.{ℕ, zero, suc, ◌-◌, ◌≤◌}
use mathlib.Core.Bool.{Bool, true, false, ◌||◌, ◌&&◌}
use mathlib.Core.List.{List, [], ◌∷◌}
use mathlib.Core.Path.{◌≡◌, refl, ap₂}
use native.Mathlib.Omega.{arith}
use lib.Dec.{leb}
use lib.ListN.{get_or, replicate}
use borrow.Author.Tests.{leb-false, lt-leb, eqb-true}
use Rattle.laws.specs.Signed.{apart}
use Rattle.laws.proofs.Cases.{neither, both_ways}
use Rattle.window.specs.View.{surveyed}
use Rattle.adding.proofs.Frames.{OneOf, newest, older}
use Rattle.adding.proofs.Extremes.{ExtremeOf}
use Rattle.blinking.specs.Blinking.{blinks_at}
use Rattle.blinking.specs.Jumps.{some_frame, jumps}
use Rattle.blinking.proofs.Counts.{where_surveyed}

module _ (test : List ℕ → Bool) where
  -- where no frame of a run passes a test, each fails it
  each_fails : {f : List ℕ} (fs : List (List ℕ)) → OneOf f fs → some_frame fs test ≡ false → test f ≡ false
  unfolding some_frame
  each_fails (f ∷ fs) newest e = (neither (some_frame fs test) (test f) e).1
  each_fails (g ∷ fs) (older o) e = each_fails fs o (neither (some_frame fs test) (test g) e).0
  each_fails {f = f} [] x'' e = elim x'' [ ]

  -- and where each fails it, none passes
  none_passes : (fs : List (List ℕ)) → ((f : List ℕ) → OneOf f fs → test f ≡ false) → some_frame fs test ≡ false
  unfolding some_frame
  none_passes [] fails = refl
  none_passes (f ∷ fs) fails = ap₂ ◌||◌ (none_passes fs (λ g o. fails g (older o))) (fails f newest)

-- a frame of a run of equal ones
of_repeated : (k : ℕ) {f frame : List ℕ} → OneOf f (replicate k frame) → f ≡ frame
of_repeated (suc k) newest = refl
of_repeated (suc k) (older o) = of_repeated k o
of_repeated zero {f = f} {frame = frame} x' = elim x' [ ]

module _ (spread i : ℕ) where
  -- two frames differ by at least the spread
  abbrev differ : List ℕ → List ℕ → Bool
  differ f g = leb spread (apart (get_or f i 0) (get_or g i 0))

  -- where no two frames of a run do
  none_differ : (fs : List (List ℕ)) → ((f g : List ℕ) → OneOf f fs → OneOf g fs → differ f g ≡ false) → some_frame fs (λ (f : List ℕ). some_frame fs (differ f)) ≡ false
  none_differ fs near = none_passes (λ (f : List ℕ). some_frame fs (differ f)) fs (λ f o. none_passes (differ f) fs (λ g p. near f g o p))

  -- where the greatest less the least is at least the spread, two frames differ by it, and only there
  widest : (fs : List (List ℕ)) {least greatest : ℕ} → ExtremeOf (λ (x y : ℕ). x ≤ y) fs (λ (f : List ℕ). get_or f i 0) least
      → ExtremeOf (λ (x y : ℕ). y ≤ x) fs (λ (f : List ℕ). get_or f i 0) greatest
      → leb spread (greatest - least) ≡ some_frame fs (λ (f : List ℕ). some_frame fs (differ f))
  widest fs {least} {greatest} low high =
      both_ways (leb spread (greatest - least)) (some_frame fs (λ (f : List ℕ). some_frame fs (differ f)))
      (λ e. none_differ fs (λ f g o p. lt-leb spread (apart (get_or f i 0) (get_or g i 0))
      (omega (arith, leb-false spread (greatest - least) e, low.before f o, low.before g p, high.before f o, high.before g p))))
      (λ e. lt-leb spread (greatest - least)
      (omega (arith, leb-false spread (apart (get_or low.frame i 0) (get_or high.frame i 0)) (met e), low.has, high.has)))
    where
      met : some_frame fs (λ (f : List ℕ). some_frame fs (differ f)) ≡ false → differ low.frame high.frame ≡ false
      met e = each_fails (differ low.frame) fs high.among (each_fails (λ (f : List ℕ). some_frame fs (differ f)) fs low.among e)

  -- so by the least and the greatest of a run a site blinks exactly where it jumps
  pub blinks-jumps : (mask : List ℕ) (fs : List (List ℕ)) (least greatest : ℕ)
      → (get_or mask i 0 ≡ 0
      → ExtremeOf (λ (x y : ℕ). x ≤ y) fs (λ (f : List ℕ). get_or f i 0) least × ExtremeOf (λ (x y : ℕ). y ≤ x) fs (λ (f : List ℕ). get_or f i 0) greatest)
      → blinks_at spread (get_or mask i 0) least greatest ≡ jumps spread mask fs i
  unfolding blinks_at jumps
  blinks-jumps mask fs least greatest extremes =
      where_surveyed (surveyed (get_or mask i 0)) (λ t. let both = extremes (eqb-true (get_or mask i 0) 0 t) in widest fs both.0 both.1)

  -- equal frames do not jump
  pub equal_still : 1 ≤ spread → (k : ℕ) (mask frame : List ℕ) → jumps spread mask (replicate k frame) i ≡ false
  unfolding jumps
  equal_still low k mask frame =
      by (surveyed (get_or mask i 0))
      (none_differ (replicate k frame) (λ f g o p. rw (of_repeated k o, of_repeated k p) (lt-leb spread _ (omega arith))))
    where
      by : (t : Bool) {a : Bool} → a ≡ false → (t && a) ≡ false
      by true e = e
      by false e = refl
