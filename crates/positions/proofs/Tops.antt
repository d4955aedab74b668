-- A rewind from a top between the data offset and the capacity leads to one between them.
-- Assumes nothing.
use Prim.Native.Nat.{ℕ, ◌≤◌}
use native.Mathlib.Omega.{arith}
use borrow.Author.Tests.{leb-false}
use lib.Dec.{leb, eqb}
use lib.IntN.{ℤ, pos, negsuc, ◌+ℤ◌}
use Rattle.records.proofs.Facts.{pick_either}
use Rattle.records.specs.declared.Position.{Position}
use Rattle.records.specs.declared.Position.TheVariants.{Start, Current, End}
use Rattle.positions.specs.NewTop.{exact_top, new_top}

module _ (start cap top : ℕ) (low : start ≤ top) (high : top ≤ cap) where
  abbrev Between : ℕ → Type 0
  Between x = (start ≤ x) × (x ≤ cap)

  -- the new top for any exact sum lies between the two
  pub exact_between : (z : ℤ) → (start ≤ exact_top start cap top z) × (exact_top start cap top z ≤ cap)
  unfolding exact_top
  exact_between (pos n) =
      pick_either Between (leb cap n) _ _
      (λ _. omega arith)
      (λ q. let less = leb-false cap n q in pick_either Between (eqb n 0) _ _ (λ _. omega arith) (λ _. omega arith))
  exact_between (negsuc n) = omega arith

  -- and so does that for any position
  pub new_top_between : (p : Position) → (start ≤ new_top start cap top p) × (new_top start cap top p ≤ cap)
  unfolding new_top
  new_top_between (Start x) = omega arith
  new_top_between (Current d) = exact_between (pos top +ℤ d)
  new_top_between (End x) = omega arith
