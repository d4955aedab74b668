-- A signed number below 0, or not, as a native number, and its exact sum with a top. docs/PORT.md names these laws, but for
-- `read` and `sum_under`; the search finds what they say, so no proof cites them. Assumes nothing.
use Prim.Native.Nat.{ℕ, suc, ◌+◌, ◌-◌, ◌≤◌, ◌<◌, ◌^◌}
use mathlib.Core.Path.{◌≡◌, refl, ap, ◌∙◌}
use mathlib.Core.Bool.{true, false, false≢true}
use native.Mathlib.Omega.{arith}
use borrow.Author.Tests.{ltb-true, le-ltb, lt-ltb}
use lib.IntN.{ℤ, pos, negsuc, ◌+ℤ◌, ◌-ℤ◌}
use lib.Signed.{lt_z}
use mir.Syntax.{w64}
use mir.Val.{SFits, to_z, of_z}
use mir.Facts.{to_z-of_z}

-- z is below 0, and an i64
pub record Below (z : ℤ) : Type 0 where
  pub k : ℕ
  pub is : z ≡ negsuc k
  pub small : k < 2 ^ 63

-- z is 0 or more, and an i64
pub record Above (z : ℤ) : Type 0 where
  pub k : ℕ
  pub is : z ≡ pos k
  pub small : k < 2 ^ 63

below_of : (z : ℤ) → SFits w64 z → lt_z z (pos 0) ≡ true → Below z
below_of (pos n) f e = let no : n < 0 = ltb-true n 0 e in absurd (omega arith)
below_of (negsuc k) f e = record { k = k; is = refl; small = f.sfits }

above_of : (z : ℤ) → SFits w64 z → lt_z z (pos 0) ≡ false → Above z
above_of (pos k) f e = record { k = k; is = refl; small = f.sfits }
above_of (negsuc k) f e = absurd (false≢true cc)

-- -1 less a number below 0
minus : (k : ℕ) → negsuc 0 -ℤ negsuc k ≡ pos k
minus k =
    let gone : suc k - 1 ≡ k = omega arith in
    simp (le-ltb (suc k) 1 (omega arith), gone)

module _ (z : ℤ) (f : SFits w64 z) where
  -- the number as the machine reads it back
  pub read : to_z w64 (of_z w64 z) ≡ z
  read = to_z-of_z f

  -- a test for numbers below 0, where it holds
  pub below : lt_z (to_z w64 (of_z w64 z)) (pos 0) ≡ true → Below z
  below e = below_of z f (rw read at e)

  -- and where it fails
  pub above : lt_z (to_z w64 (of_z w64 z)) (pos 0) ≡ false → Above z
  above e = above_of z f (rw read at e)

  -- -1 - z
  pub rest_is : (b : Below z) → negsuc 0 -ℤ to_z w64 (of_z w64 z) ≡ pos b.k
  rest_is b = ap (λ (u : ℤ). negsuc 0 -ℤ u) (read ∙ b.is) ∙ minus b.k

  -- the same, as the machine reads it back
  pub rest_read : (b : Below z) → to_z w64 (of_z w64 (negsuc 0 -ℤ to_z w64 (of_z w64 z))) ≡ pos b.k
  rest_read b = ap (λ (u : ℤ). to_z w64 (of_z w64 u)) (rest_is b) ∙ to_z-of_z {w = w64} (record { sfits = b.small })

-- a move up by an i64 leaves room for a top in a u64
pub up_small : (d : ℤ) (k : ℕ) → SFits w64 d → d ≡ pos k → k < 2 ^ 63
up_small d k f e = (rw e at f).sfits

module _ (top : ℕ) (d : ℤ) (k : ℕ) where
  -- the exact sum after a move up
  pub sum_up : d ≡ pos k → pos top +ℤ d ≡ pos (top + k)
  sum_up e = rw e

  -- after a move down by k + 1 past 0
  pub sum_under : d ≡ negsuc k → top < suc k → pos top +ℤ d ≡ negsuc (suc k - suc top)
  sum_under e h = rw e (simp (lt-ltb _ _ h))

  -- and after one that does not pass 0
  pub sum_down : d ≡ negsuc k → suc k ≤ top → pos top +ℤ d ≡ pos (top - suc k)
  sum_down e h = rw e (simp (le-ltb _ _ h))
