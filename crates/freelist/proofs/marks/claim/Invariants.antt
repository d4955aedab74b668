-- `freelist::marks::claim` meets its contract. The invariant: the marks from a up to i were not set and are set now, the others are as they were, and i stays
-- at b or below it, or at a. The measure is the number of marks left.
-- Assumes nothing.
use mathlib.Core.Path.{◌≡◌}
use Prim.Native.Nat.{◌-◌, ◌≤◌, max}
use lib.ListN.{length}
use Rattle.freelist.specs.Marks.{Unset, Marked}
use Rattle.freelist.proofs.marks.claim.Given as goal

abbrev pub invariant-loop-i : goal.invariant-loop-i
invariant-loop-i l =
    (l.a ≤ l.i) × (l.i ≤ max l.a l.b) × (length l.marks ≡ length l.initial.marks) × Unset l.initial.marks l.a l.i × Marked l.initial.marks l.a l.i l.marks

abbrev pub decreases-loop-i : goal.decreases-loop-i
decreases-loop-i l = l.b - l.i
