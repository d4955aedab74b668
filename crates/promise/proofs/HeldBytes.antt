-- No call writes in anybody's block: every byte of a block that is held before and after a call is after it what it was before. A held block's bytes lie
-- between the data offset and the top, and no two held blocks start at one byte, so that a give-back ends one holding. All this is read off the
-- invariant that demand 3 rests on. Assumes nothing.
use Prim.Native.Nat.{ℕ, ◌≤◌, ◌<◌}
use mathlib.Core.Path.{◌≡◌}
use mathlib.Core.Logic.{inl, inr}
use mathlib.Core.List.{Memᴰ}
use native.Mathlib.Omega.{arith}
use lib.ListN.{get_or}
use Rattle.records.specs.declared.Shape.{Shape}
use Rattle.records.specs.declared.Block.{Block}
use Rattle.freelist.specs.Segs.{Pairwise}
use Rattle.freelist.proofs.Listing.{pairs_map}
use Rattle.calls.specs.declared.Call.{Call}
use Rattle.promise.specs.Runs.{State, Holds, Allowed, Reached, after}
use Rattle.promise.proofs.Blocks.{Placed, Asunder, holds_within}
use Rattle.promise.proofs.Holding.{held_placed}
use Rattle.promise.proofs.DemandThree.{call_left, reached_kept}

module _ (s : Shape) (st : State) (r : Reached s st) (b : Block) (held : Memᴰ b st.held) where
  placed : Placed s.data_offset st.header.allocated b
  placed = held_placed (reached_kept r).holding b held

  pub held_between : (x : ℕ) → Holds b x → (s.data_offset ≤ x) × (x < st.header.allocated)
  held_between x h = omega (arith, placed, holds_within placed x h)

  pub held_bytes_stay : (c : Call) → Allowed st c → Memᴰ b (after s st c).held → (x : ℕ) → Holds b x → get_or (after s st c).bytes x 0 ≡ get_or st.bytes x 0
  held_bytes_stay c allowed later x h =
      let w = holds_within placed x h in
      (call_left (reached_kept r) c allowed).still b held later x w.0 w.1

-- two blocks with some memory that are apart do not start at one byte
asunder_start : {start top : ℕ} (a b : Block) → Placed start top a → Placed start top b → Asunder a b → a.memory_offset ≡ b.memory_offset → ⊥
asunder_start a b p q (inl h) e = omega (arith, p.some)
asunder_start a b p q (inr h) e = omega (arith, q.some)

pub held_starts_differ : (s : Shape) (st : State) → Reached s st → Pairwise (λ a b. a.memory_offset ≡ b.memory_offset → ⊥) st.held
held_starts_differ s st r =
    let m = (reached_kept r).holding in
    pairs_map Asunder (λ a b. a.memory_offset ≡ b.memory_offset → ⊥) (Placed s.data_offset st.header.allocated) asunder_start st.held m.placed m.apart
