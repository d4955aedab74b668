-- What a call leaves: the invariant, and the bytes of every block that is held before and after.
-- Assumes nothing.
use Prim.Native.Nat.{ℕ}
use mathlib.Core.Path.{refl}
use mathlib.Core.List.{List, Memᴰ}
use Rattle.records.specs.Answer.{Outcome, Said, refused, leaves, refuses}
use Rattle.records.specs.declared.Shape.{Shape}
use Rattle.records.specs.declared.Header.{Header}
use Rattle.records.specs.declared.Block.{Block}
use Rattle.records.specs.declared.Segment.{Segment}
use Rattle.calls.specs.declared.Call.{Call}
use Rattle.calls.specs.declared.Call.TheVariants.{Take}
use Rattle.promise.specs.Runs.{State, held_after}
use Rattle.promise.proofs.Blocks.{Untouched}
use Rattle.promise.proofs.Holding.{Kept, Onward, keeps}

-- this outcome of a call keeps the invariant, and the bytes of every block that is held before and after
pub record Left (s : Shape) (st : State) (c : Call) (o : Outcome) : Type 0 where
  pub kept : Kept s (record { header = o.header; bytes = o.bytes; held = held_after st.held c o.says o.header.allocated })
  pub still : (b : Block) → Memᴰ b st.held → Memᴰ b (held_after st.held c o.says o.header.allocated) → Untouched b st.bytes o.bytes

module _ {s : Shape} {st : State} (k : Kept s st) (c : Call) where
  -- an outcome by a change that leaves the bytes of such blocks
  pub left_onward : (x : Said) {before : List Block} {h : Header} {l : List ℕ} {segs : List Segment}
      → ((b : Block) → Memᴰ b st.held → Memᴰ b (held_after st.held c x h.allocated) → Memᴰ b before)
      → Onward s st.bytes before h l segs (held_after st.held c x h.allocated) → Left s st c (leaves x h l)
  left_onward x which m = record { kept = keeps k.writable m.holding; still = λ b held stays. m.still b (which b held stays) }

  -- an outcome that leaves all bytes
  pub left_quiet : (x : Said) (h : Header) → Kept s (record { header = h; bytes = st.bytes; held = held_after st.held c x h.allocated }) → Left s st c (leaves x h st.bytes)
  left_quiet x h m = record { kept = m; still = λ b held stays y low high. refl }

-- a refused call changes nothing
pub left_refused : {s : Shape} {st : State} → Kept s st → (c : Call) (n : ℕ) (carried : List ℕ) → Left s st c (refuses n carried st.header st.bytes)
left_refused {st = st} k (Take r) n carried = left_quiet k (Take r) (refused n carried) st.header k
left_refused {st = st} k c n carried = left_quiet k c (refused n carried) st.header k
