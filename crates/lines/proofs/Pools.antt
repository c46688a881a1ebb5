-- The laws of the lines around a line, and of its mark.
use Prim.Native.Nat.{ℕ, ◌+◌, ◌-◌, ◌*◌, ◌/◌, ◌%◌, ◌<◌, ◌≤◌}
use mathlib.Core.List.{List}
use mathlib.Core.Bool.{Bool, cond}
use mathlib.Core.Path.{◌≡◌, refl, sym, ap, ap₂, ◌∙◌}
use native.Mathlib.Omega.{arith}
use native.Mathlib.Nat.{mod-lt, div-add-mod', div-lt_iff_lt-mul}
use lib.Arith.{digits_lt, digits_div, digits_mod}
use lib.ListN.{length}
use Rattle.laws.specs.Sum.{sum_in}
use Rattle.laws.proofs.Sums.{in_ext, in_more}
use Rattle.window.specs.View.{seen, one}
use Rattle.window.specs.Walk.{walked}
use Rattle.plane.specs.Plane.{sums, box_sums}
use Rattle.plane.specs.declared.Sums.{Sums}
use Rattle.plane.proofs.Planes.{sums-whole}
use Rattle.lines.specs.Walk.{sums_held, sums_pooled}
use Rattle.lines.specs.declared.Pooled.{Pooled}
use mir.Val.{bool_byte}
use Rattle.laws.proofs.Cases.{bit_is}
use Rattle.lines.specs.Lines.{Lines, before, after, pooled, defective, mark_of, line_sum, mark_at}

-- the lines around a line are lines of the same plane
module _ (n l j : ℕ) (some : 9 ≤ n) (inside : l < n) (near : j ≤ 8) where
  pub before_in : before l j < n
  unfolding before
  before_in = omega arith

  pub after_in : after n l j < n
  unfolding after
  after_in = omega arith

-- what is pooled of j lines on either side
abbrev pub pooled_to : ℕ → ℕ → (ℕ → ℕ) → ℕ → ℕ
pooled_to i n of l = sum_in 1 i (λ (j : ℕ). of (before l j) + of (after n l j))

pub pooled_is : (n : ℕ) (of : ℕ → ℕ) (l : ℕ) → pooled_to 9 n of l ≡ pooled n of l
unfolding pooled
pooled_is n of l = refl

-- one more line on either side: those at b and at a
pub pooled_more : (i n l b a : ℕ) (of : ℕ → ℕ) (sum half : ℕ) {more : ℕ} → 1 ≤ i → sum ≡ pooled_to i n of l → b ≡ before l i → a ≡ after n l i
    → half ≡ sum + of b → more ≡ half + of a → more ≡ pooled_to (i + 1) n of l
pooled_more i n l b a of sum half some so_far at_b at_a e f =
    omega (arith, in_more 1 i (λ (j : ℕ). of (before l j) + of (after n l j)) some, ap of at_b, ap of at_a)

-- until all eight are
pub pooled_all : (i n l : ℕ) (of : ℕ → ℕ) (sum : ℕ) → i ≡ 9 → sum ≡ pooled_to i n of l → sum ≡ pooled n of l
pooled_all i n l of sum e so_far = so_far ∙ ap (λ (k : ℕ). pooled_to k n of l) e ∙ pooled_is n of l

module _ (n l : ℕ) (some : 9 ≤ n) (inside : l < n) where
  -- of two functions that agree on the plane's lines the same is pooled
  pub pooled_ext : (f g : ℕ → ℕ) → ((m : ℕ) → m < n → f m ≡ g m) → pooled n f l ≡ pooled n g l
  unfolding pooled
  pooled_ext f g same =
      in_ext 1 9 _ _ (λ j p q. ap₂ (λ (x y : ℕ). x + y)
      (same (before l j) (before_in n l j some inside (omega arith)))
      (same (after n l j) (after_in n l j some inside (omega arith))))

  -- and the same line is marked
  pub mark_ext : (c d s t : ℕ → ℕ) → ((m : ℕ) → m < n → c m ≡ d m) → ((m : ℕ) → m < n → s m ≡ t m)
      → mark_of n c s l ≡ mark_of n d t l
  unfolding mark_of
  mark_ext c d s t p q = rw (pooled_ext c d p, pooled_ext s t q, p l inside, q l inside)

-- a mark is what the test says of a line and of what is pooled around it
pub marked : (n l : ℕ) (counts totals : ℕ → ℕ) (count total : ℕ) (b : Bool)
    → count ≡ pooled n counts l → total ≡ pooled n totals l → defective (counts l) (totals l) count total ≡ b
    → cond b 1 0 ≡ mark_of n counts totals l
unfolding mark_of
marked n l counts totals count total b p q e =
    ap (λ (x : Bool). cond x 1 0) (sym e ∙ ap₂ (λ (x y : ℕ). defective (counts l) (totals l) x y) p q)

-- so of sums as they are held
pub sums_marked : (n l : ℕ) (of : ℕ → Sums) (line : Sums) (around : Pooled) (b : Bool)
    → line ≡ of l → around ≡ sums_pooled n of l → b ≡ defective line.count line.total around.count around.total
    → bool_byte b ≡ mark_of n (λ (m : ℕ). (of m).count) (λ (m : ℕ). (of m).total) l
unfolding mark_of
sums_marked n l of line around b p q e =
    bit_is b ∙ ap (λ (x : Bool). cond x 1 0) (e ∙ ap₂ (λ (x : Sums) (y : Pooled). defective x.count x.total y.count y.total) p q)

-- The lines of the four planes, n to a plane, are held one after the other: the i-th is line i % n of plane i / n.
module _ (n i : ℕ) (some : 0 < n) (inside : i < 4 * n) where
  -- where its plane begins
  first_is_lem : i - i % n ≡ i / n * n
  first_is_lem = omega (arith, div-add-mod' i n)

  module _ (m : ℕ) (below : m < n) where
    pub held_in : i - i % n + m < 4 * n
    held_in = rw first_is_lem (digits_lt ((div-lt_iff_lt-mul some).1 inside) below)

    pub held_plane : (i - i % n + m) / n ≡ i / n
    held_plane = rw first_is_lem (digits_div (i / n) below)

    pub held-line : (i - i % n + m) % n ≡ m
    held-line = rw first_is_lem (digits_mod (i / n) below)

-- the mark of the i-th line, by what the lines of its plane hold
pub mark_at_lem : (lines : Lines) (w h n i : ℕ) (mask frame : List ℕ) (held : ℕ → Sums)
    → 0 < walked w h (length mask) → 0 < walked w h (length frame)
    → n ≡ lines.count → 9 ≤ n → i < 4 * n
    → ((k : ℕ) → k < 4 * n → held k ≡ sums_held lines w h n mask frame k)
    → mark_of n (λ (m : ℕ). (held (i - i % n + m)).count) (λ (m : ℕ). (held (i - i % n + m)).total) (i % n) ≡ mark_at lines w h (one mask) (seen mask frame) i
unfolding mark_at
mark_at_lem lines w h n i mask frame held a b e some inside each =
    rw (← e) (mark_ext n (i % n) some (mod-lt i (omega arith)) _ _ _ _ (λ m l. ap (λ (x : Sums). x.count) (of m l)) (λ m l. ap (λ (x : Sums). x.total) (of m l)))
  where
    of : (m : ℕ) → m < n → held (i - i % n + m) ≡ sums (line_sum lines w h (i / n) (one mask) m) (line_sum lines w h (i / n) (seen mask frame) m)
    of m l =
        each (i - i % n + m) (held_in n i (omega arith) inside m l)
        ∙ ap₂ (λ (p x : ℕ). box_sums w h p (lines.line x) mask frame) (held_plane n i (omega arith) inside m l) (held-line n i (omega arith) inside m l)
        ∙ sums-whole w h (i / n) (lines.line m) mask frame (λ z. omega arith)

-- the mark of line l of a plane stands with its plane
pub mark_line : (lines : Lines) (w h : ℕ) (ones view : ℕ → ℕ) (plane l : ℕ) → l < lines.count
    → mark_at lines w h ones view (plane * lines.count + l) ≡ mark_of lines.count (line_sum lines w h plane ones) (line_sum lines w h plane view) l
unfolding mark_at
mark_line lines w h ones view plane l below = rw (digits_div plane below, digits_mod plane below)
