-- The least and the greatest over the frames of a run, by one argument for both; and why 11 lets pass what one frame more leaves.
use Prim.Native.Nat.{ℕ, zero, suc, ◌+◌, ◌*◌, ◌≤◌}
use mathlib.Core.List.Permᴰ
use mathlib.Core.List.{List, [], ◌∷◌}
use mathlib.Core.Logic.{⊎_elim}
use mathlib.Core.Path.{◌≡◌, refl, ap, ap₂, ◌∙◌}
use native.Mathlib.Nat.{add-mul, mul-le-mul_left}
use native.Mathlib.Omega.{arith}
use lib.ListN.{length}
use Rattle.laws.specs.Greatest.{lesser, greater}
use Rattle.laws.proofs.Cases.{times_le}
use Rattle.laws.proofs.Greatests.{Choice, choice_of, choice_comm, choice_swap, lesser_choice, greater_choice}
use Rattle.laws.proofs.Squares.{schwarz_more}
use Rattle.stack.proofs.Sites.{Possible}
use Rattle.adding.specs.After.{extreme}
use Rattle.adding.proofs.Frames.{Reordered, as_many, OneOf, newest, older}

-- the extreme of a number that each frame has, made as adding makes it: the newest frame last
unfoldable pub extreme_over : (ℕ → ℕ → ℕ) → List (List ℕ) → (List ℕ → ℕ) → ℕ
extreme_over choose [] g = 0
extreme_over choose (frame ∷ frames) g = extreme choose (length frames) (extreme_over choose frames g) (g frame)

-- x is among the numbers that the frames of a run have, and stands before each of them: it is their least (Before is ≤), or their greatest
pub record ExtremeOf (Before : ℕ → ℕ → Type 0) (fs : List (List ℕ)) (g : List ℕ → ℕ) (x : ℕ) : Type 0 where
  pub frame : List ℕ
  pub among : OneOf frame fs
  pub has : x ≡ g frame
  pub before : (f : List ℕ) → OneOf f fs → Before x (g f)

module _ {choose : ℕ → ℕ → ℕ} {Before : ℕ → ℕ → Type 0} (c : Choice choose Before) where
  -- of zeros it is 0
  extreme-zero : (k : ℕ) → extreme choose k 0 0 ≡ 0
  unfolding extreme
  extreme-zero zero = refl
  extreme-zero (suc k) = choice_of c (λ (x : ℕ). x ≡ 0) 0 0 refl refl

  pub extreme_zeros : {g : List ℕ → ℕ} (fs : List (List ℕ)) → ((f : List ℕ) → g f ≡ 0) → extreme_over choose fs g ≡ 0
  unfolding extreme_over
  extreme_zeros [] e = refl
  extreme_zeros (f ∷ fs) e = ap₂ (extreme choose (length fs)) (extreme_zeros fs e) (e f) ∙ extreme-zero (length fs)

  -- of one frame or more it is the least, or the greatest
  pub extreme_is : (g : List ℕ → ℕ) (f : List ℕ) (fs : List (List ℕ)) → ExtremeOf Before (f ∷ fs) g (extreme_over choose (f ∷ fs) g)
  unfolding extreme_over extreme
  extreme_is g f [] = record { frame = f; among = newest; has = refl; before = only }
    where
      only : (o : List ℕ) → OneOf o (f ∷ []) → Before (g f) (g o)
      only o newest = c.self (g f)
      only o (older x3) = elim x3 [ ]
  extreme_is g f (next ∷ fs) =
      let x = extreme_over choose (next ∷ fs) g in
      let rest = extreme_is g next fs in
      ⊎_elim
      (λ (e : choose x (g f) ≡ x). record { frame = rest.frame; among = older rest.among; has = e ∙ rest.has; before = all rest.before })
      (λ (e : choose x (g f) ≡ g f). record { frame = f; among = newest; has = e; before = all rest.before })
      (c.one x (g f))
    where
      all : ((o : List ℕ) → OneOf o (next ∷ fs) → Before (extreme_over choose (next ∷ fs) g) (g o))
          → (o : List ℕ) → OneOf o (f ∷ next ∷ fs) → Before (choose (extreme_over choose (next ∷ fs) g) (g f)) (g o)
      all h o newest = c.right (extreme_over choose (next ∷ fs) g) (g f)
      all h o (older p) = c.far _ (extreme_over choose (next ∷ fs) g) (g o) (c.left (extreme_over choose (next ∷ fs) g) (g f)) (h o p)

  -- the order of two frames does not matter, the first included
  extreme_swap : (k x a b : ℕ) → extreme choose (suc k) (extreme choose k x a) b ≡ extreme choose (suc k) (extreme choose k x b) a
  unfolding extreme
  extreme_swap zero x a b = choice_comm c a b
  extreme_swap (suc k) x a b = choice_swap c x a b

  -- nor that of a run
  pub extreme_order : {fs gs : List (List ℕ)} (g : List ℕ → ℕ) → Reordered fs gs → extreme_over choose fs g ≡ extreme_over choose gs g
  unfolding extreme_over
  extreme_order g Permᴰ.nil = refl
  extreme_order g (Permᴰ.cons {l₂ = gs} e r) =
      rw (as_many r, extreme_order g r) (ap (extreme choose (length gs) (extreme_over choose gs g)) (ap g e))
  extreme_order g (Permᴰ.swap {a} {b} {a'} {b'} {l} e d) =
      extreme_swap (length l) (extreme_over choose l g) (g b) (g a)
      ∙ ap₂ (λ (x y : ℕ). extreme choose (suc (length l)) (extreme choose (length l) (extreme_over choose l g) x) y) (ap g e) (ap g d)
  extreme_order g (Permᴰ.trans r s) = extreme_order g r ∙ extreme_order g s

-- ---- what 11 lets pass, it lets pass with one sample more
record Widened (full k s least greatest : ℕ) : Type 0 where
  ordered : least ≤ greatest
  in_scale : greatest ≤ full
  sum-least : k * least ≤ s
  sum_most : s ≤ k * greatest

widened : (full k s q least greatest p : ℕ) → Possible full k s q least greatest → p ≤ full
    → Widened full (k + 1) (s + p) (extreme lesser k least p) (extreme greater k greatest p)
unfolding extreme
widened full zero s q least greatest p a l =
    let none : s ≡ 0 = omega (arith, a.sum_most) in
    record { ordered = omega arith; in_scale = l; sum-least = omega arith; sum_most = omega arith }
widened full (suc k) s q least greatest p a l =
    let low = lesser least p in
    let high = greater greatest p in
    let under = mul-le-mul_left (suc k) (lesser_choice.left least p) in
    let over = mul-le-mul_left (suc k) (greater_choice.left greatest p) in
    record {
      ordered = omega (arith, lesser_choice.right least p, greater_choice.right greatest p);
      in_scale = choice_of greater_choice (λ (x : ℕ). x ≤ full) greatest p a.in_scale l;
      sum-least = omega (arith, add-mul (suc k) 1 low, under, a.sum-least, lesser_choice.right least p);
      sum_most = omega (arith, add-mul (suc k) 1 high, over, a.sum_most, greater_choice.right greatest p);
    }

pub possible_more : (full k s q least greatest p : ℕ) → Possible full k s q least greatest → p ≤ full
    → Possible full (k + 1) (s + p) (q + p * p) (extreme lesser k least p) (extreme greater k greatest p)
possible_more full k s q least greatest p a l =
    let w = widened full k s q least greatest p a l in
    record {
      sum = omega (arith, a.sum, add-mul k 1 full);
      square = omega (arith, a.square, add-mul k 1 (full * full), times_le p p full full l l);
      scatter = schwarz_more k q s p a.scatter;
      ordered = w.ordered;
      in_scale = w.in_scale;
      sum-least = w.sum-least;
      sum_most = w.sum_most;
      empty = λ z. absurd (omega arith);
    }
