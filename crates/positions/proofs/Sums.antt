-- The exact sum of a top and an i64, by the u64 that holds it; and the top that an exact sum gives.
-- Assumes nothing.
use Prim.Native.Nat.{ℕ, ◌≤◌, ◌<◌, max}
use mathlib.Core.Path.{◌≡◌, refl}
use native.Mathlib.Omega.{arith}
use borrow.Author.Tests.{le-leb, lt-leb, eq-eqb, ne_eqb}
use lib.IntN.{ℤ, pos, negsuc, ◌+ℤ◌}
use lib.Signed.{◌<ℤ◌}
use mir.Syntax.{w64}
use mir.Val.{SFits, to_z, of_z}
use Rattle.std.proofs.lemmas.Int.{ints}
use Rattle.std.specs.Int.{FitsUnsigned}
use Rattle.std.specs.Prelude.{unsigned_abs}
use Rattle.positions.specs.NewTop.{exact_top}

-- the sum with an i64, which a callee reads back from its bits, is the u64 that holds it
pub sum_is : {top t n : ℕ} {d : ℤ} → SFits w64 d → t ≡ top
    → FitsUnsigned w64 (pos t +ℤ to_z w64 (of_z w64 d)) × (n ≡ unsigned_abs (pos t +ℤ to_z w64 (of_z w64 d)))
    → pos top +ℤ d ≡ pos n
sum_is f e h = omega (arith, ints)

module _ (start cap top : ℕ) where
  -- an exact sum below 0 gives the data offset
  pub reach_under : (z : ℤ) → z <ℤ pos 0 → exact_top start cap top z ≡ start
  unfolding exact_top
  reach_under (pos n) h = absurd (omega (arith, ints))
  reach_under (negsuc n) h = refl

module _ (start cap top n : ℕ) where
  -- one of at least the capacity gives the capacity
  pub reach_cap : cap ≤ n → exact_top start cap top (pos n) ≡ cap
  unfolding exact_top
  reach_cap h = simp (le-leb _ _ h)

  -- 0 changes nothing
  pub reach_zero : n < cap → n ≡ 0 → exact_top start cap top (pos n) ≡ top
  unfolding exact_top
  reach_zero h e = simp (lt-leb _ _ h, eq-eqb _ _ e)

  -- any other is raised to the data offset
  pub reach_else : n < cap → (n ≡ 0 → ⊥) → exact_top start cap top (pos n) ≡ max n start
  unfolding exact_top
  reach_else h some = simp (lt-leb _ _ h, ne_eqb _ _ some)
