-- Document 01, "Refusal numbers", as document 02 d amends them: what is told of a refusal.
use Rattle.std.specs.Prelude.{ℕ, cond, eqb, List, [], ◌++◌, codes}
use Rattle.std.specs.Fmt.{decimal}
use Rattle.verdict.specs.declared.Refusal.{Refusal}
use Rattle.verdict.specs.declared.Refusal.TheVariants.{Sides, FullScale, Parameter, Length, Code, Over, TooFew, Unsurveyed, TooSmall, TooDark, Impossible, StackFull, EqualMeans, TooLarge, Cut, OtherTag, OtherLength, Extra, TooWide}

-- its number
abbrev pub refusal_number : Refusal → ℕ
refusal_number Sides = 1
refusal_number FullScale = 2
refusal_number Parameter = 3
refusal_number Length = 4
refusal_number (Code site) = 5
refusal_number (Over site count) = 6
refusal_number TooFew = 7
refusal_number Unsurveyed = 8
refusal_number TooSmall = 9
refusal_number TooDark = 10
refusal_number Impossible = 11
refusal_number StackFull = 12
refusal_number EqualMeans = 13
refusal_number TooLarge = 14
refusal_number (Cut at) = 20
refusal_number (OtherTag at) = 21
refusal_number (OtherLength at) = 22
refusal_number (Extra at) = 23
refusal_number TooWide = 24

-- its place: the site of 5 and 6, the byte of 20 to 23, else 0
abbrev pub refusal_place : Refusal → ℕ
refusal_place (Code site) = site
refusal_place (Over site count) = site
refusal_place (Cut at) = at
refusal_place (OtherTag at) = at
refusal_place (OtherLength at) = at
refusal_place (Extra at) = at
refusal_place _ = 0

-- how many samples are above full scale, which only 6 tells
abbrev pub refusal_count : Refusal → ℕ
refusal_count (Over site count) = count
refusal_count _ = 0

-- what it prints: "refused NUMBER at PLACE", and where samples are over " count COUNT"
abbrev pub refusal_text : Refusal → List ℕ
refusal_text r =
    codes "refused " ++ decimal (refusal_number r) ++ codes " at " ++ decimal (refusal_place r)
    ++ cond (eqb (refusal_count r) 0) [] (codes " count " ++ decimal (refusal_count r))
