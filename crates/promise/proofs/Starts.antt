-- A fresh arena, as setup answers it, keeps the invariant: its head is sound, its list is empty and nothing is held. Callers' writes keep it: every byte
-- of a block lies in its hull, so that no node's byte changes. A write in usable bytes alone, as the request has it, is such a write. Assumes nothing.
use Prim.Native.Nat.{ℕ}
use mathlib.Core.Path.{◌≡◌}
use mathlib.Core.Bool.{false}
use mathlib.Core.Logic.{inr}
use mathlib.Core.List.{List, [], Memᴰ}
use native.Mathlib.Omega.{arith}
use lib.ListN.{length, get_or}
use Rattle.records.specs.Answer.{ready}
use Rattle.records.specs.Setup.{setting_up}
use Rattle.records.specs.declared.Settings.{Settings}
use Rattle.records.specs.declared.Shape.{Shape}
use Rattle.records.specs.declared.Header.{Header}
use Rattle.records.specs.declared.Block.{Block}
use Rattle.records.proofs.Rules.{ready_head}
use Rattle.records.specs.declared.Segment.{Segment}
use Rattle.freelist.proofs.Places.{all_mem, mem_all}
use Rattle.freelist.proofs.Words.{Agree}
use Rattle.freelist.proofs.Moves.{sound_empty}
use Rattle.promise.specs.Runs.{State, Usable, free_in, Written}
use Rattle.promise.proofs.Blocks.{Clear, clear_bytes}
use Rattle.promise.proofs.Holding.{Kept, keeps, held_placed, held_clear, hold_agree}

pub fresh_keeps : (s : Shape) (settings : Settings) (h : Header) (l : List ℕ) → setting_up settings (length l) ≡ ready s h → s.read_only ≡ false → Kept s (record { header = h; bytes = l; held = [] })
fresh_keeps s settings h l e writable =
    let r = ready_head settings (length l) s h e in
    let n = sound_empty s h l r.0 r.1 in
    keeps {segs = []} writable (record { sounds = n.0; lists = n.1; placed = tt; apart = tt; clear = tt })

pub write_keeps : {s : Shape} {st : State} (l : List ℕ) → Written st l → Kept s st → Kept s (record { header = st.header; bytes = l; held = st.held })
write_keeps {s} {st} l w k = keeps k.writable (hold_agree k.holding l w.long (mem_all (Agree st.bytes l) (free_in s st) agree))
  where
    agree : (g : Segment) → Memᴰ g (free_in s st) → Agree st.bytes l g
    agree g m x low high =
        w.outside x (λ b held has.
        clear_bytes (held_placed k.holding b held) g (all_mem (Clear b) g (free_in s st) m (held_clear k.holding b held)) x has (low, omega arith))

-- what demand 3 lets callers write, in usable bytes of blocks they hold and nowhere else, is a write here
pub usable_written : (st : State) (l : List ℕ) → length l ≡ length st.bytes
    → ((x : ℕ) → ((b : Block) → Memᴰ b st.held → Usable b x → ⊥) → get_or l x 0 ≡ get_or st.bytes x 0) → Written st l
usable_written st l long outside = record { long = long; outside = λ x no. outside x (λ b held usable. no b held (inr usable)) }
