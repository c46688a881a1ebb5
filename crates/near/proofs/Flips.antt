-- A window flipped top-bottom, left-right, or both: what is seen around a site is what was seen around the site it came from.
use Prim.Native.Nat.{ℕ, suc, ◌+◌, ◌-◌, ◌*◌, ◌/◌, ◌%◌, ◌<◌, ◌≤◌, min}
use mathlib.Core.Bool.{Bool, true, false}
use mathlib.Core.List.{List}
use mathlib.Core.Path.{◌≡◌, refl, sym, ap, ap₂, ◌∙◌}
use native.Mathlib.Nat.{mod-lt, div-lt_iff_lt-mul}
use native.Mathlib.Omega.{arith}
use lib.Arith.{digits_lt, digits_div, digits_mod}
use lib.ListN.{get_or}
use Rattle.laws.specs.Sum.{sum_to, sum_in, sum_box}
use Rattle.laws.specs.Table.{tabulate}
use Rattle.laws.proofs.Sums.{sum_ext, sum_rows, sum_back, in_ext, in_back}
use Rattle.laws.proofs.Tables.{length-tabulate, get_d_tabulate, tabulate_ext}
use Rattle.window.specs.Shape.{sites_of}
use Rattle.window.specs.View.{seen_at, seen, one}
use Rattle.window.proofs.Sides.{Sides}
use Rattle.window.proofs.Views.{seen_is, one_is}
use Rattle.refusals.proofs.Judges.{Framed}
use Rattle.plane.specs.Plane.{row_parity, column_parity, plane_of, site_at, box_sum}
use Rattle.plane.proofs.Planes.{site_row, site_column}
use Rattle.near.specs.Near.{near_sum}
use Rattle.near.proofs.Nears.{near_same}

-- the k-th of n, from the other end where it is turned
unfoldable pub mirrored : Bool → ℕ → ℕ → ℕ
mirrored true n k = n - suc k
mirrored false n k = k

-- the two ends of a reach around the k-th of n, from the other end
low_end : (n k reach : ℕ) → k < n → n - suc k - reach ≡ n - min (k + reach + 1) n
low_end n k reach inside = omega arith

high_end : (n k reach : ℕ) → k < n → min (n - suc k + reach + 1) n ≡ n - (k - reach)
high_end n k reach inside = omega arith

cut : (k reach n : ℕ) → min (k + reach + 1) n ≤ n
cut k reach n = omega arith

module _ (b : Bool) (n k : ℕ) (inside : k < n) where
  pub mirrored_in : mirrored b n k < n
  unfolding mirrored
  mirrored_in = by b
    where
      by : (b : Bool) → mirrored b n k < n
      by true = omega arith
      by false = inside

  -- a reach around it, cut off at both ends
  around_mirrored : (reach : ℕ) (f : ℕ → ℕ)
      → sum_in (mirrored b n k - reach) (min (mirrored b n k + reach + 1) n) f ≡ sum_in (k - reach) (min (k + reach + 1) n) (λ (x : ℕ). f (mirrored b n x))
  unfolding mirrored
  around_mirrored reach f = by b
    where
      by : (b : Bool) → sum_in (mirrored b n k - reach) (min (mirrored b n k + reach + 1) n) f ≡ sum_in (k - reach) (min (k + reach + 1) n) (λ (x : ℕ). f (mirrored b n x))
      by true =
          rw (low_end n k reach inside, high_end n k reach inside) (sym (in_back n (k - reach) (min (k + reach + 1) n) f (cut k reach n)))
      by false = refl

-- all n of them
all_mirrored : (b : Bool) (n : ℕ) (f : ℕ → ℕ) → sum_to n (λ (k : ℕ). f (mirrored b n k)) ≡ sum_to n f
unfolding mirrored
all_mirrored true n f = sum_back n f
all_mirrored false n f = refl

-- lines of a plane: two to a line of the window
module _ (b : Bool) (n side y : ℕ) (double : side ≡ 2 * n) (inside : y < side) where
  line_mirrored : mirrored b side y / 2 ≡ mirrored b n (y / 2)
  unfolding mirrored
  line_mirrored = by b
    where
      by : (b : Bool) → mirrored b side y / 2 ≡ mirrored b n (y / 2)
      by true = omega arith
      by false = refl

  parity_mirrored : (u : ℕ) → u < n → mirrored b side (2 * u + y % 2) ≡ 2 * mirrored b n u + mirrored b side y % 2
  unfolding mirrored
  parity_mirrored u low = by b
    where
      by : (b : Bool) → mirrored b side (2 * u + y % 2) ≡ 2 * mirrored b n u + mirrored b side y % 2
      by true = omega arith
      by false = refl

-- where a site of the flipped window comes from
abbrev pub flip : Bool → Bool → ℕ → ℕ → ℕ → ℕ
flip down across w h i = mirrored down h (i / w) * w + mirrored across w (i % w)

-- a mask or a frame, flipped
abbrev pub flipped : Bool → Bool → ℕ → ℕ → List ℕ → List ℕ
flipped down across w h l = tabulate (sites_of w h) (λ (i : ℕ). get_or l (flip down across w h i) 0)

module _ (down across : Bool) (w h : ℕ) (legal : Sides w h) where
  module _ (i : ℕ) (inside : i < h * w) where
    row_of : i / w < h
    row_of = (div-lt_iff_lt-mul {k = w} (omega (arith, legal.wide.low))).1 inside

    column_of : i % w < w
    column_of = mod-lt i (omega (arith, legal.wide.low))

    pub flip_in : flip down across w h i < h * w
    flip_in = digits_lt (mirrored_in down h (i / w) row_of) (mirrored_in across w (i % w) column_of)

    flip_row : flip down across w h i / w ≡ mirrored down h (i / w)
    flip_row = digits_div (mirrored down h (i / w)) (mirrored_in across w (i % w) column_of)

    flip_column : flip down across w h i % w ≡ mirrored across w (i % w)
    flip_column = digits_mod (mirrored down h (i / w)) (mirrored_in across w (i % w) column_of)

    rows : h ≡ 2 * (h / 2)
    rows = omega (arith, legal.high.even)

    columns : w ≡ 2 * (w / 2)
    columns = omega (arith, legal.wide.even)

    -- planes go to planes: the site in row u and column v of one to the site in the mirrored row and column of the other
    site_flip : (u v : ℕ) → u < h / 2 → v < w / 2
        → site_at w (plane_of w (flip down across w h i)) (mirrored down (h / 2) u) (mirrored across (w / 2) v)
        ≡ flip down across w h (site_at w (plane_of w i) u v)
    site_flip u v low left =
        let a : row_parity (plane_of w i) ≡ i / w % 2 = omega arith in
        let b : column_parity (plane_of w i) ≡ i % w % 2 = omega arith in
        let p : row_parity (plane_of w (flip down across w h i)) ≡ mirrored down h (i / w) % 2 = parity (flip down across w h i) ∙ ap (λ (k : ℕ). k % 2) flip_row in
        let q : column_parity (plane_of w (flip down across w h i)) ≡ mirrored across w (i % w) % 2 = side (flip down across w h i) ∙ ap (λ (k : ℕ). k % 2) flip_column in
        let r : site_at w (plane_of w i) u v / w ≡ 2 * u + i / w % 2 = site_row w (plane_of w i) u v left ∙ ap (λ (k : ℕ). 2 * u + k) a in
        let c : site_at w (plane_of w i) u v % w ≡ 2 * v + i % w % 2 = omega (arith, site_column w (plane_of w i) u v left) in
        let y = parity_mirrored down (h / 2) h (i / w) rows row_of u low in
        let x = parity_mirrored across (w / 2) w (i % w) columns column_of v left in
        meet _ _ _ _ _ _ (ap (λ (k : ℕ). 2 * mirrored down (h / 2) u + k) p ∙ sym y ∙ ap (mirrored down h) (sym r)) (omega (arith, q, x, ap (mirrored across w) c))
      where
        parity : (j : ℕ) → row_parity (plane_of w j) ≡ j / w % 2
        parity j = omega arith

        side : (j : ℕ) → column_parity (plane_of w j) ≡ j % w % 2
        side j = omega arith

        meet : (r s b v k w : ℕ) → r ≡ s → b + 2 * v ≡ k → r * w + b + 2 * v ≡ s * w + k
        meet r s b v k w e f = rw e (omega arith)

    -- so what is seen around a site of the flipped window is what was seen around the site it came from
    pub near_flip : (reach : ℕ) (f : ℕ → ℕ)
        → near_sum reach w h (λ (j : ℕ). f (flip down across w h j)) i ≡ near_sum reach w h f (flip down across w h i)
    unfolding near_sum box_sum sum_box
    near_flip reach f =
        let H = h / 2 in
        let W = w / 2 in
        let R = i / w / 2 in
        let C = i % w / 2 in
        let plane = plane_of w (flip down across w h i) in
        let r : flip down across w h i / w / 2 ≡ mirrored down H R = ap (λ (k : ℕ). k / 2) flip_row ∙ line_mirrored down H h (i / w) rows row_of in
        let c : flip down across w h i % w / 2 ≡ mirrored across W C = ap (λ (k : ℕ). k / 2) flip_column ∙ line_mirrored across W w (i % w) columns column_of in
        let row : ℕ → ℕ = λ (u : ℕ). sum_in (mirrored across W C - reach) (min (mirrored across W C + reach + 1) W) (λ (v : ℕ). f (site_at w plane u v)) in
        sym
        (ap₂ (λ (y x : ℕ). sum_in (y - reach) (min (y + reach + 1) H) (λ (u : ℕ). sum_in (x - reach) (min (x + reach + 1) W) (λ (v : ℕ). f (site_at w plane u v)))) r c
        ∙ around_mirrored down H R (omega (arith, row_of, rows)) reach row
        ∙ in_ext (R - reach) (min (R + reach + 1) H) (λ (u : ℕ). row (mirrored down H u)) _
        (λ u _ low. around_mirrored across W C (omega (arith, column_of, columns)) reach (λ (v : ℕ). f (site_at w plane (mirrored down H u) v))
        ∙ in_ext (C - reach) (min (C + reach + 1) W) (λ (v : ℕ). f (site_at w plane (mirrored down H u) (mirrored across W v))) _
        (λ v _ left. ap f (site_flip u v (omega arith) (omega arith)))))

  -- every site comes from one
  pub sum_flip : (f : ℕ → ℕ) → sum_to (h * w) (λ (i : ℕ). f (flip down across w h i)) ≡ sum_to (h * w) f
  sum_flip f =
      sum_rows h w (λ (i : ℕ). f (flip down across w h i))
      ∙ sum_ext h _ (λ (y : ℕ). sum_to w (λ (x : ℕ). f (mirrored down h y * w + x)))
      (λ y _. sum_ext w _ (λ (x : ℕ). f (mirrored down h y * w + mirrored across w x))
      (λ x l. ap₂ (λ (r c : ℕ). f (mirrored down h r * w + mirrored across w c)) (digits_div y l) (digits_mod y l))
      ∙ all_mirrored across w (λ (x : ℕ). f (mirrored down h y * w + x)))
      ∙ all_mirrored down h (λ (y : ℕ). sum_to w (λ (x : ℕ). f (y * w + x)))
      ∙ sym (sum_rows h w f)

  -- what is decided at each site from what it came from: the same count, and the flip of what is written
  pub flip_count : (f g : ℕ → ℕ) → ((i : ℕ) → i < h * w → g i ≡ f (flip down across w h i)) → sum_to (sites_of w h) g ≡ sum_to (sites_of w h) f
  flip_count f g same = rw legal.sites (sum_ext (h * w) g (λ (i : ℕ). f (flip down across w h i)) same ∙ sum_flip f)

  pub flip_table : (f g : ℕ → ℕ) → ((i : ℕ) → i < h * w → g i ≡ f (flip down across w h i))
      → tabulate (sites_of w h) g ≡ flipped down across w h (tabulate (sites_of w h) f)
  flip_table f g same =
      rw legal.sites
      (tabulate_ext (h * w) g _ (λ i l. same i l ∙ sym (get_d_tabulate (h * w) f (flip down across w h i) (flip_in i l))))

  module _ (mask frame : List ℕ) (i : ℕ) (inside : i < h * w) where
    pub code_flip : get_or (flipped down across w h mask) i 0 ≡ get_or mask (flip down across w h i) 0
    code_flip = get_d_tabulate (sites_of w h) (λ (j : ℕ). get_or mask (flip down across w h j) 0) i (rw legal.sites inside)

    pub sample_flip : get_or (flipped down across w h frame) i 0 ≡ get_or frame (flip down across w h i) 0
    sample_flip = get_d_tabulate (sites_of w h) (λ (j : ℕ). get_or frame (flip down across w h j) 0) i (rw legal.sites inside)

    pub one_flip : one (flipped down across w h mask) i ≡ one mask (flip down across w h i)
    one_flip = one_is _ _ ∙ ap (λ (k : ℕ). seen_at k 1) code_flip ∙ sym (one_is _ _)

    pub seen_flip : seen (flipped down across w h mask) (flipped down across w h frame) i ≡ seen mask frame (flip down across w h i)
    seen_flip = seen_is _ _ _ ∙ ap₂ seen_at code_flip sample_flip ∙ sym (seen_is _ _ _)

  module _ (mask frame : List ℕ) (reach i : ℕ) (inside : i < h * w) where
    pub ones_flip : near_sum reach w h (one (flipped down across w h mask)) i ≡ near_sum reach w h (one mask) (flip down across w h i)
    ones_flip =
        near_same reach w h i _ (λ (j : ℕ). one mask (flip down across w h j)) legal (λ j l. one_flip mask frame j (rw legal.sites at l))
        ∙ near_flip i inside reach (one mask)

    pub view_flip : near_sum reach w h (seen (flipped down across w h mask) (flipped down across w h frame)) i ≡ near_sum reach w h (seen mask frame) (flip down across w h i)
    view_flip =
        near_same reach w h i _ (λ (j : ℕ). seen mask frame (flip down across w h j)) legal (λ j l. seen_flip mask frame j (rw legal.sites at l))
        ∙ near_flip i inside reach (seen mask frame)

  -- a flipped window is accepted where the window is
  pub accepted_flip : (full : ℕ) (mask frame : List ℕ) → Framed w h full mask frame
      → Framed w h full (flipped down across w h mask) (flipped down across w h frame)
  accepted_flip full mask frame a =
      let from : (i : ℕ) → i < sites_of w h → flip down across w h i < sites_of w h = λ i l. rw legal.sites (flip_in i (rw legal.sites at l)) in
      record {
        of = record {
          legal = a.of.legal;
          scaled = a.of.scaled;
          masked = length-tabulate _ _;
          codes = λ i l. rw (code_flip mask frame i (rw legal.sites at l)) (a.of.codes (flip down across w h i) (from i l));
        };
        framed = length-tabulate _ _;
        range = λ i l. rw (seen_flip mask frame i (rw legal.sites at l)) (a.range (flip down across w h i) (from i l));
      }
