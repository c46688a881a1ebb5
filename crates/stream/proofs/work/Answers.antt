-- `work` is right because the bodies stand where the sides say, and a stream without a fault holds them whole.
use Prim.Native.Nat.{ℕ}
use mathlib.Core.Path.{◌≡◌, ap, ap₂, ◌∙◌}
use mathlib.Core.List.{List}
use native.Mathlib.Omega.{arith}
use Rattle.window.specs.Shape.{sites_of}
use Rattle.stream.proofs.Answers.{work_is}
use Rattle.stream.proofs.Frames.{body_unpacks}
use Rattle.stream.proofs.Streams.{Faultless, faultless_as}
use Rattle.stream.specs.Fields.{body_at}
use Rattle.stream.specs.Stream.{width_of, height_of, sites_in}
use Rattle.stream.proofs.work.Goals as goal
use Rattle.stream.proofs.work.Goals.{After-sites-n}

abbrev Input : After-sites-n → List ℕ
Input c = c.args.input.now

-- what the stream is, by the sides that were read
module _ (c : After-sites-n) where
  abbrev width : ℕ
  width = c.from-width.result

  abbrev height : ℕ
  height = c.from-height.result

  width_is : width ≡ width_of (Input c)
  width_is = c.from-width.ensures ∙ c.word_at.ensures

  height-is : height ≡ height_of (Input c)
  height-is = c.from-height.ensures ∙ c.word_at-2.ensures

  whole : Faultless (Input c) width height
  whole = faultless_as (Input c) width height c.requires width_is height-is

  counted : sites_of width height ≡ sites_in (Input c)
  counted = ap₂ (λ (w h : ℕ). sites_of w h) width_is height-is

pub body_at-requires : goal.body_at-requires
body_at-requires c = omega (arith, (whole (goal.at.body_at-requires c).After-sites-n).long, c.sites-n.ensures.0)

pub body_at-requires-2 : goal.body_at-requires-2
body_at-requires-2 c = omega (arith, (whole (goal.at.body_at-requires-2 c).After-sites-n).long, c.sites-n.ensures.0)

pub body_at-requires-3 : goal.body_at-requires-3
body_at-requires-3 c = omega (arith, (whole (goal.at.body_at-requires-3 c).After-sites-n).long, c.sites-n.ensures.0)

pub measure-requires : goal.measure-requires
measure-requires c =
    let x = whole (goal.at.measure-requires c).After-sites-n in
    let s = c.args.input.now in
    let n = c.sites-n.ensures.0 in (
      x.sides.few,
      rw c.body_at-2.ensures (body_unpacks s _ _ _ _ x.even n (omega (arith, x.long, n))),
      rw c.body_at-3.ensures (body_unpacks s _ _ _ _ x.even n (omega (arith, x.long, n))),
    )

pub returns : goal.returns
returns c =
    let d : After-sites-n = (goal.at.returns c).After-sites-n in
    let s = c.args.input.now in
    let n = c.sites-n.ensures.0 ∙ counted d in
    c.measure.ensures
    ∙ work_is s c.requires (width_is d) (height-is d) (c.from.ensures ∙ c.word_at-3.ensures) (c.from-2.ensures ∙ c.word_at-4.ensures)
    (c.body_at.ensures ∙ ap (λ (k : ℕ). body_at s 20 k) n)
    (rw (c.body_at-2.ensures, counted d, n))
    (rw (c.body_at-3.ensures, counted d, n))
