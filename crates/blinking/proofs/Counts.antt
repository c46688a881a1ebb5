-- How many sites blink: what the count owes to each site.
use Prim.Native.Nat.{ℕ, ◌-◌, ◌≤◌}
use mathlib.Core.Bool.{Bool, true, false, ◌&&◌}
use mathlib.Core.List.{List}
use mathlib.Core.Path.{◌≡◌, refl, ap₂}
use native.Mathlib.Nat.{le_trans}
use lib.Dec.{leb}
use lib.ListN.{get_or}
use borrow.Author.Tests.{leb-true, le-leb}
use Rattle.laws.specs.First.{count_to}
use Rattle.laws.specs.Sum.{sum_to}
use Rattle.laws.proofs.Cases.{and_true}
use Rattle.laws.proofs.Firsts.{count-le, count_ext}
use Rattle.window.specs.View.{surveyed, seen_at, one}
use Rattle.window.proofs.Views.{Agree}
use Rattle.blinking.specs.Blinking.{blinks_at, blinks}

-- tests that agree at a surveyed site, and are asked only there, are one
pub where_surveyed : (t : Bool) {a b : Bool} → (t ≡ true → a ≡ b) → (t && a) ≡ (t && b)
where_surveyed true e = e refl
where_surveyed false e = refl

-- a site that blinks at a spread blinks at any lesser one
blinks_below : (a b code least greatest : ℕ) → a ≤ b → blinks_at b code least greatest ≡ true → blinks_at a code least greatest ≡ true
unfolding blinks_at
blinks_below a b code least greatest l e =
    let both = and_true (surveyed code) (leb b (greatest - least)) e in
    ap₂ ◌&&◌ both.0 (le-leb a (greatest - least) (le_trans l (leb-true b (greatest - least) both.1)))

-- so at a greater spread no more do
pub fewer_blinking : (n a b : ℕ) (mask least greatest : List ℕ) → a ≤ b → count_to n (blinks b mask least greatest) ≤ count_to n (blinks a mask least greatest)
fewer_blinking n a b mask least greatest l =
    count-le n (blinks b mask least greatest) (blinks a mask least greatest)
    (λ i _. blinks_below a b (get_or mask i 0) (get_or least i 0) (get_or greatest i 0) l)

-- no site blinks that is not surveyed
pub blinking_surveyed : (n spread : ℕ) (mask least greatest : List ℕ) → count_to n (blinks spread mask least greatest) ≤ sum_to n (one mask)
unfolding blinks_at one seen_at
blinking_surveyed n spread mask least greatest =
    count-le n (blinks spread mask least greatest) (λ (i : ℕ). surveyed (get_or mask i 0))
    (λ i _ e. (and_true (surveyed (get_or mask i 0)) (leb spread (get_or greatest i 0 - get_or least i 0)) e).0)

-- least and greatest that agree at surveyed sites blink alike
pub same_blinking : (n spread : ℕ) {mask l l' g g' : List ℕ} → Agree mask l l' → Agree mask g g' → count_to n (blinks spread mask l g) ≡ count_to n (blinks spread mask l' g')
unfolding blinks_at
same_blinking n spread {mask} {l} {l'} {g} {g'} p q =
    count_ext n (blinks spread mask l g) (blinks spread mask l' g')
    (λ i _. where_surveyed (surveyed (get_or mask i 0)) (λ t. rw (p.same i t, q.same i t)))
