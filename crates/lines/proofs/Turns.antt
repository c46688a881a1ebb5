-- The window turned over its diagonal: its rows are the columns of the window, so one proof serves both.
use Prim.Native.Nat.{ℕ, ◌+◌, ◌*◌, ◌/◌, ◌%◌, ◌<◌, ◌≤◌}
use mathlib.Core.List.{List}
use mathlib.Core.Path.{◌≡◌, refl, sym, ap, ap₂, ◌∙◌}
use native.Mathlib.Nat.{mod-lt, mul_comm, div-lt_iff_lt-mul}
use native.Mathlib.Omega.{arith}
use lib.Arith.{digits_lt}
use lib.ListN.{length, get_or}
use Rattle.laws.specs.Table.{tabulate}
use Rattle.laws.proofs.Sums.{box_ext, box_turned}
use Rattle.laws.proofs.Tables.{length-tabulate, get_d_tabulate}
use Rattle.verdict.proofs.Verdicts.{then_clear, clear_then}
use Rattle.verdict.specs.Verdict.{clear}
use Rattle.window.specs.Shape.{sites_of}
use Rattle.window.specs.View.{seen_at, seen, one}
use Rattle.window.proofs.Sides.{sides, turned_sides, turned_sites}
use Rattle.window.proofs.Views.{seen_is, one_is}
use Rattle.refusals.proofs.Judges.{Masked, Framed, frame_clear, clear_frame}
use Rattle.plane.specs.Plane.{row_parity, column_parity, site_at, box_sum}
use Rattle.plane.proofs.Planes.{site_in, site_row, site_column}
use Rattle.lines.specs.Lines.{rows, columns, mark_of, line_sum}
use Rattle.lines.specs.Marks.{lines_verdict}
use Rattle.lines.proofs.Pools.{mark_ext}

-- the window w wide and h high, turned, is h wide and w high: its site i comes from the site in row i % h and column i / h
abbrev pub turned_site : ℕ → ℕ → ℕ → ℕ
turned_site w h i = i % h * w + i / h

unfoldable pub turned : ℕ → ℕ → List ℕ → List ℕ
turned w h list = tabulate (h * w) (λ (i : ℕ). get_or list (turned_site w h i) 0)

-- plane (a,b) becomes plane (b,a)
abbrev pub turned_plane : ℕ → ℕ
turned_plane plane = 2 * column_parity plane + row_parity plane

module _ (w h : ℕ) (some : 0 < h) where
  pub turned_length : (list : List ℕ) → length (turned w h list) ≡ h * w
  unfolding turned
  turned_length list = length-tabulate (h * w) _

  turned_get_or : (list : List ℕ) (i : ℕ) → i < h * w → get_or (turned w h list) i 0 ≡ get_or list (turned_site w h i) 0
  unfolding turned
  turned_get_or list i l = get_d_tabulate (h * w) _ i l

  turned_in : (i : ℕ) → i < h * w → turned_site w h i < h * w
  turned_in i l = digits_lt (mod-lt i some) ((div-lt_iff_lt-mul some).1 (omega (arith, mul_comm h w)))

  -- what is seen is turned with the window
  turned_one : (mask : List ℕ) (i : ℕ) → i < h * w → one (turned w h mask) i ≡ one mask (turned_site w h i)
  turned_one mask i l = one_is _ i ∙ ap (λ (x : ℕ). seen_at x 1) (turned_get_or mask i l) ∙ sym (one_is mask _)

  turned_seen : (mask frame : List ℕ) (i : ℕ) → i < h * w → seen (turned w h mask) (turned w h frame) i ≡ seen mask frame (turned_site w h i)
  turned_seen mask frame i l = seen_is _ _ i ∙ ap₂ seen_at (turned_get_or mask i l) (turned_get_or frame i l) ∙ sym (seen_is mask frame _)

  module _ (plane u v : ℕ) (low : u < w / 2) (in_row : v < h / 2) where
    turned_site_lem : turned_site w h (site_at h (turned_plane plane) u v) ≡ site_at w plane v u
    turned_site_lem =
        let y : site_at h (turned_plane plane) u v % h ≡ 2 * v + row_parity plane = site_column h (turned_plane plane) u v in_row ∙ omega arith in
        let x : site_at h (turned_plane plane) u v / h ≡ column_parity plane + 2 * u = site_row h (turned_plane plane) u v in_row ∙ omega arith in
        ap₂ (λ (a b : ℕ). a * w + b) y x ∙ omega arith

    turned_inside : site_at h (turned_plane plane) u v < h * w
    turned_inside = omega (arith, site_in h w (turned_plane plane) u low v in_row, mul_comm h w)

  -- a view of the window, and one of the turned window
  module _ (view turned-view : ℕ → ℕ) (same : (i : ℕ) → i < h * w → turned-view i ≡ view (turned_site w h i)) where
    turned_line : (plane l : ℕ) → line_sum (columns w h) w h plane view l ≡ line_sum (rows h w) h w (turned_plane plane) turned-view l
    unfolding box_sum
    turned_line plane l =
        box_turned _ _ _ _ (λ (u v : ℕ). view (site_at w plane u v))
        ∙ box_ext _ _ _ _ (λ (u v : ℕ). view (site_at w plane v u)) (λ (u v : ℕ). turned-view (site_at h (turned_plane plane) u v))
        (λ u v p q s t. let low : u < w / 2 = omega arith in
        let in_row : v < h / 2 = omega arith in
        sym (same _ (turned_inside plane u v low in_row) ∙ ap view (turned_site_lem plane u v low in_row)))

  -- so column l of plane (a,b) is marked as row l of plane (b,a) is
  pub turned_mark : (mask frame : List ℕ) (plane l : ℕ) → 9 ≤ w / 2 → l < w / 2
      → mark_of (w / 2) (line_sum (columns w h) w h plane (one mask)) (line_sum (columns w h) w h plane (seen mask frame)) l
      ≡ mark_of (w / 2) (line_sum (rows h w) h w (turned_plane plane) (one (turned w h mask))) (line_sum (rows h w) h w (turned_plane plane) (seen (turned w h mask) (turned w h frame))) l
  turned_mark mask frame plane l nine below =
      mark_ext (w / 2) l nine below _ _ _ _
      (λ m b. turned_line _ _ (turned_one mask) plane m)
      (λ m b. turned_line _ _ (turned_seen mask frame) plane m)

-- the turned window is accepted where the window is
pub turned_accepted : (w h full : ℕ) (mask frame : List ℕ) (marks : ℕ)
    → lines_verdict columns w h full mask frame marks ≡ clear
    → lines_verdict rows h w full (turned w h mask) (turned w h frame) marks ≡ clear
unfolding lines_verdict
turned_accepted w h full mask frame marks e =
    let both = then_clear _ _ e in
    let lent = frame_clear w h full mask frame both.0 in
    let fit = lent.2 in
    let legal = sides w h fit.of.legal in
    let n = turned_sites w h ∙ legal.sites in
    let some : 0 < h = omega (arith, legal.high.low) in
    let from : (i : ℕ) → i < sites_of h w → turned_site w h i < sites_of w h = λ i l. omega (arith, turned_in w h some i (omega arith), legal.sites) in
    let masked : Masked h w full (turned w h mask) = record {
      legal = turned_sides w h ∙ fit.of.legal;
      scaled = fit.of.scaled;
      masked = turned_length w h some mask ∙ sym n;
      codes = λ i l. rw (turned_get_or w h some mask i (omega arith)) (fit.of.codes _ (from i l));
    } in
    let framed : Framed h w full (turned w h mask) (turned w h frame) = record {
      of = masked;
      framed = turned_length w h some frame ∙ sym n;
      range = λ i l. rw (turned_seen w h some mask frame i (omega arith)) (fit.range _ (from i l));
    } in
    clear_then (clear_frame h w full (turned w h mask) (turned w h frame) framed refl lent.1) both.1
