-- The walk over the sites: a site adds what is seen there, 0 where it is not surveyed, and no sum can outgrow its local, whatever the samples.
use Prim.Native.Nat.{ℕ, ◌+◌, ◌*◌, ◌≤◌, ◌<◌}
use mathlib.Core.List.{List}
use mathlib.Core.Path.{◌≡◌, sym, ap₂, ◌∙◌}
use native.Mathlib.Omega.{arith}
use lib.ListN.{get_or}
use Rattle.laws.specs.Sum.{sum_to}
use Rattle.laws.specs.Signed.{apart}
use Rattle.laws.proofs.Squares.{squares}
use Rattle.laws.proofs.Sums.{sum_none, sum_more}
use Rattle.window.specs.View.{seen_at, one, seen}
use Rattle.window.proofs.Views.{seen_is, one_is, seen_le}
use Rattle.pair.specs.Walk.{totals_of}

-- the sums n, a, b and q after i sites
pub record Walked (mask first second : List ℕ) (i n a b q : ℕ) : Type 0 where
  pub counted : n ≡ sum_to i (one mask)
  pub firsts : a ≡ sum_to i (seen mask first)
  pub seconds : b ≡ sum_to i (seen mask second)
  pub squared : q ≡ sum_to i (squares (seen mask first) (seen mask second))
  pub few : n ≤ i
  pub low_first : a ≤ 65535 * i
  pub low_second : b ≤ 65535 * i
  pub low-squares : q ≤ 4294836225 * i

module _ (mask first second : List ℕ) where
  pub walk_begins : Walked mask first second 0 0 0 0 0
  walk_begins = record {
    counted = sum_none (one mask);
    firsts = sum_none (seen mask first);
    seconds = sum_none (seen mask second);
    squared = sum_none (squares (seen mask first) (seen mask second));
    few = omega arith;
    low_first = omega arith;
    low_second = omega arith;
    low-squares = omega arith;
  }

  added : (i t v : ℕ) (f : ℕ → ℕ) → t ≡ sum_to i f → v ≡ f i → t + v ≡ sum_to (i + 1) f
  added i t v f e h = ap₂ (λ (x y : ℕ). x + y) e h ∙ sum_more i f

  -- a site where u and v are seen: k, x, y and d² are what it adds
  pub walk_more : {i n a b q : ℕ} (k u v d² : ℕ) → Walked mask first second i n a b q
      → get_or first i 0 < 65536 → get_or second i 0 < 65536
      → k ≡ seen_at (get_or mask i 0) 1 → u ≡ seen_at (get_or mask i 0) (get_or first i 0) → v ≡ seen_at (get_or mask i 0) (get_or second i 0)
      → (d² ≡ apart v u * apart v u) × (d² ≤ 4294836225)
      → Walked mask first second (i + 1) (n + k) (a + u) (b + v) (q + d²)
  walk_more {i} {n} {a} {b} {q} k u v d² r low high ek eu ev ed =
      let code = get_or mask i 0 in
      let su : u ≡ seen mask first i = eu ∙ sym (seen_is mask first i) in
      let sv : v ≡ seen mask second i = ev ∙ sym (seen_is mask second i) in
      record {
        counted = added i n k (one mask) r.counted (ek ∙ sym (one_is mask i));
        firsts = added i a u (seen mask first) r.firsts su;
        seconds = added i b v (seen mask second) r.seconds sv;
        squared = added i q d² (squares (seen mask first) (seen mask second)) r.squared (ed.0 ∙ rw (su, sv));
        few = omega (arith, r.few, seen_le code 1 1 (omega arith));
        low_first = omega (arith, r.low_first, seen_le code (get_or first i 0) 65535 (omega arith));
        low_second = omega (arith, r.low_second, seen_le code (get_or second i 0) 65535 (omega arith));
        low-squares = omega (arith, r.low-squares, ed.1);
      }

  -- after all N sites, n', a' and b' being the sums as they are handed out
  pub walk_ends : {i n a b q : ℕ} (N : ℕ) → Walked mask first second i n a b q → i ≡ N → {n' a' b' : ℕ} → n' ≡ n → a' ≡ a → b' ≡ b
      → record { n = n'; first = a'; second = b'; squares = q } ≡ totals_of N (one mask) (seen mask first) (seen mask second)
  walk_ends N r e en ea eb = rw (en, ea, eb, ← e, r.counted, r.firsts, r.seconds, r.squared)
