-- The frames of a run: sums over them, their order, those in range, and one of them.
use Prim.Native.Nat.{ℕ, zero, suc, ◌+◌, ◌*◌, ◌≤◌, ◌<◌}
use mathlib.Core.List.{List, [], ◌∷◌, Permᴰ}
use mathlib.Core.Path.{◌≡◌, refl, sym, ap, ap₂, ◌∙◌, subst}
use native.Mathlib.Nat.{suc-mul, zero-mul}
use native.Mathlib.Omega.{arith}
use lib.ListN.{length, replicate}
use Rattle.window.specs.View.{seen}
use Rattle.adding.specs.Run.{over_frames}

-- ---- sums over frames
module _ {g g' : List ℕ → ℕ} where
  pub over_ext : (fs : List (List ℕ)) → ((f : List ℕ) → g f ≡ g' f) → over_frames fs g ≡ over_frames fs g'
  unfolding over_frames
  over_ext [] e = refl
  over_ext (f ∷ fs) e = ap₂ (λ (x y : ℕ). x + y) (over_ext fs e) (e f)

pub over_none : {g : List ℕ → ℕ} (fs : List (List ℕ)) → ((f : List ℕ) → g f ≡ 0) → over_frames fs g ≡ 0
unfolding over_frames
over_none [] e = refl
over_none (f ∷ fs) e = omega (arith, over_none fs e, e f)

pub over_repeated : (k : ℕ) (frame : List ℕ) (g : List ℕ → ℕ) → over_frames (replicate k frame) g ≡ k * g frame
unfolding over_frames
over_repeated zero frame g = sym (zero-mul (g frame))
over_repeated (suc k) frame g = omega (arith, over_repeated k frame g, suc-mul k (g frame))

-- ---- the same frames in another order
abbrev pub Reordered : List (List ℕ) → List (List ℕ) → Type 0
Reordered fs gs = Permᴰ fs gs

pub over_order : {fs gs : List (List ℕ)} (g : List ℕ → ℕ) → Reordered fs gs → over_frames fs g ≡ over_frames gs g
unfolding over_frames
over_order g Permᴰ.nil = refl
over_order g (Permᴰ.cons e r) = ap₂ (λ (x y : ℕ). x + y) (over_order g r) (ap g e)
over_order g (Permᴰ.swap {a} {b} {a'} {b'} {l} e d) = omega (arith, ap g e, ap g d)
over_order g (Permᴰ.trans r s) = over_order g r ∙ over_order g s

pub as_many : {fs gs : List (List ℕ)} → Reordered fs gs → length fs ≡ length gs
as_many Permᴰ.nil = refl
as_many (Permᴰ.cons e r) = ap suc (as_many r)
as_many (Permᴰ.swap e d) = refl
as_many (Permᴰ.trans r s) = as_many r ∙ as_many s

-- ---- frames that can be offered
module _ (n full : ℕ) (mask : List ℕ) where
  -- a frame of n samples, none above full scale where it is surveyed
  pub record InRange (frame : List ℕ) : Type 0 where
    pub long : length frame ≡ n
    pub ranged : (i : ℕ) → i < n → seen mask frame i ≤ full

  pub data AllInRange : List (List ℕ) → Type 0 where
    none : AllInRange []
    more : {frame : List ℕ} {frames : List (List ℕ)} → InRange frame → AllInRange frames → AllInRange (frame ∷ frames)

module _ {n full : ℕ} {mask : List ℕ} where
  pub first_of : {f : List ℕ} {fs : List (List ℕ)} → AllInRange n full mask (f ∷ fs) → InRange n full mask f
  first_of (more a r) = a

  pub rest_of : {f : List ℕ} {fs : List (List ℕ)} → AllInRange n full mask (f ∷ fs) → AllInRange n full mask fs
  rest_of (more a r) = r

  pub range_order : {fs gs : List (List ℕ)} → Reordered fs gs → AllInRange n full mask fs → AllInRange n full mask gs
  range_order Permᴰ.nil a = none
  range_order (Permᴰ.cons e r) a = more (subst (InRange n full mask) e (first_of a)) (range_order r (rest_of a))
  range_order (Permᴰ.swap e d) a =
      more (subst (InRange n full mask) d (first_of (rest_of a))) (more (subst (InRange n full mask) e (first_of a)) (rest_of (rest_of a)))
  range_order (Permᴰ.trans r s) a = range_order s (range_order r a)

  pub range_repeated : (k : ℕ) {frame : List ℕ} → InRange n full mask frame → AllInRange n full mask (replicate k frame)
  range_repeated zero a = none
  range_repeated (suc k) a = more a (range_repeated k a)

-- ---- one of the frames
pub data OneOf (frame : List ℕ) : List (List ℕ) → Type 0 where
  newest : {frames : List (List ℕ)} → OneOf frame (frame ∷ frames)
  older : {other : List ℕ} {frames : List (List ℕ)} → OneOf frame frames → OneOf frame (other ∷ frames)
