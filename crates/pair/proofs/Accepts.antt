-- The tests in the order of document 01, and what passes them: n and P stay within bounds.
use Prim.Native.Nat.{ℕ, ◌*◌, ◌^◌, ◌≤◌, ◌<◌}
use mathlib.Core.List.{List, [], ◌∷◌}
use mathlib.Core.Path.{◌≡◌, sym, ◌∙◌}
use native.Mathlib.Omega.{arith}
use lib.Dec.{ltb}
use lib.ListN.{length}
use borrow.Author.Tests.{ltb-false, le-ltb}
use Rattle.laws.proofs.Squares.{excess_most}
use Rattle.laws.proofs.Cases.{times_le}
use Rattle.exact.proofs.Noises.{Measured}
use Rattle.verdict.proofs.Verdicts.{Test, Tabled, test, tabled, tabled_then, then_clear, clear_then, unless, clear_unless}
use Rattle.verdict.specs.Verdict.{clear}
use Rattle.verdict.specs.declared.Refusal.TheVariants.{Sides, FullScale, Length, TooFew}
use Rattle.window.specs.Shape.{bad_sides, bad_scale, sites_of}
use Rattle.window.specs.View.{one, seen}
use Rattle.window.proofs.Sides.{scale, sites-few}
use Rattle.window.proofs.Views.{surveyed_most}
use Rattle.refusals.specs.Judge.{other_than, frames_verdict}
use Rattle.refusals.proofs.Ranges.{samples_test}
use Rattle.refusals.proofs.Judges.{codes_test}
use Rattle.refusals.proofs.Frames.{Readable, frames_clear, clear_frames, frames_tabled}
use Rattle.pair.specs.Figures.{spread_of}
use Rattle.pair.specs.Pair.{pair_spread, pair_verdict}
use Rattle.pair.specs.declared.Spread.{Spread}
use Rattle.pair.proofs.Spreads.{counted, spread_is}

module _ (w h full : ℕ) (mask first second : List ℕ) where
  -- the tests in the order of document 01
  abbrev pub tests : List Test
  tests =
      test Sides (bad_sides w h)
      ∷ test FullScale (bad_scale full)
      ∷ test Length (other_than (sites_of w h) (length mask))
      ∷ test Length (other_than (sites_of w h) (length first))
      ∷ test Length (other_than (sites_of w h) (length second))
      ∷ codes_test (sites_of w h) mask
      ∷ samples_test w h full (seen mask first ∷ seen mask second ∷ []) (seen mask first)
      ∷ samples_test w h full (seen mask first ∷ seen mask second ∷ []) (seen mask second)
      ∷ test TooFew (ltb (pair_spread w h mask first second).n 2)
      ∷ []

  pub table : Tabled (pair_verdict w h full mask first second) tests
  unfolding pair_verdict
  table = tabled_then (frames_tabled w h full mask first second) (tabled _ [])

  -- what the walk asks of the lengths
  pub lent : frames_verdict w h full mask first second ≡ clear
      → (length mask ≤ 16384) × (length first ≡ length mask) × (length second ≡ length mask)
  lent e =
      let r = frames_clear w h full mask first second e in
      let whole = r.of_first.of.masked in
      (omega (arith, sites-few w h, whole), r.of_first.framed ∙ sym whole, r.of_second.framed ∙ sym whole)

-- P is at most (n × full scale)², since no two samples are farther apart than full scale
pub spread_most : (w h full : ℕ) (mask first second : List ℕ) → Readable w h full mask first second
    → (pair_spread w h mask first second).p ≤ (pair_spread w h mask first second).n * full * ((pair_spread w h mask first second).n * full)
unfolding spread_of
spread_most w h full mask first second r =
    let most = excess_most (one mask) (seen mask first) (seen mask second) (counted mask first second) (sites_of w h) full
    (λ i l. omega (arith, r.of_first.range i l, r.of_second.range i l)) in
    omega (arith, spread_is mask first second (sites_of w h), most)

-- so it is at most (16,384 × 4,095)², which is below 2^52: there are at most 16,384 sites, and full scale is at most 4,095
pub spread_greatest : (w h full : ℕ) (mask first second : List ℕ) → Readable w h full mask first second → (pair_spread w h mask first second).p ≤ 4501400872550400
unfolding spread_of
spread_greatest w h full mask first second r =
    let n = (pair_spread w h mask first second).n in
    let side : n * full ≤ 16384 * 4095 = times_le n full 16384 4095 (surveyed_most w h mask) (scale full r.of_first.of.scaled).high in
    omega (arith, spread_most w h full mask first second r, times_le (n * full) (n * full) (16384 * 4095) (16384 * 4095) side side)

-- n and P are within the bounds in which floats are near
abbrev pub Measurable : Spread → Type 0
Measurable s = Measured s.p s.n

pub measured_at : (s : Spread) → (2 ≤ s.n) × (s.n ≤ 16384) × (s.p < 2 ^ 53) → Measurable s
measured_at s bounds = record { exact = bounds.2; some = omega (arith, bounds.0); few = omega (arith, bounds.1) }

-- what an accepted pair is
pub record Accepted (w h full : ℕ) (mask first second : List ℕ) : Type 0 where
  pub frames : Readable w h full mask first second
  pub two : 2 ≤ (pair_spread w h mask first second).n
  pub few : (pair_spread w h mask first second).n ≤ 16384
  pub exact : (pair_spread w h mask first second).p < 2 ^ 53

module _ {w h full : ℕ} {mask first second : List ℕ} where
  pub accepted : pair_verdict w h full mask first second ≡ clear → Accepted w h full mask first second
  unfolding pair_verdict spread_of
  accepted e =
      let both = then_clear _ _ e in
      let frames = frames_clear w h full mask first second both.0 in
      record {
        frames = frames;
        two = ltb-false _ 2 (unless _ _ both.1);
        few = surveyed_most w h mask;
        exact = omega (arith, spread_greatest w h full mask first second frames);
      }

  pub measured : Accepted w h full mask first second → Measurable (pair_spread w h mask first second)
  measured a = measured_at (pair_spread w h mask first second) (a.two, a.few, a.exact)

  -- two frames that 1 to 6 let pass, with 2 surveyed sites or more, are accepted
  pub clear_pair : Readable w h full mask first second → 2 ≤ (pair_spread w h mask first second).n → pair_verdict w h full mask first second ≡ clear
  unfolding pair_verdict
  clear_pair r two = clear_then (clear_frames w h full mask first second r) (clear_unless _ (le-ltb _ 2 two))
