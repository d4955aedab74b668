-- Demand 3 of the request. After any calls of callers who keep to their blocks, from a fresh writable arena, the arena is sound; held blocks and free segments
-- share no byte; no give-back of a held block is refused; past the top a request is granted exactly if some segment has room, and a best one serves it.
-- By induction over the calls and writes that led to the state: each keeps the invariant, and the invariant says all this. Assumes nothing.
use Prim.Native.Nat.{ℕ}
use Rattle.records.specs.declared.Shape.{Shape}
use Rattle.freelist.proofs.Listing.{pairs_map}
use Rattle.freelist.proofs.Places.{all_mem}
use Rattle.freelist.proofs.Arenas.{sound_iff}
use Rattle.calls.specs.declared.Call.{Call}
use Rattle.calls.specs.declared.Call.TheVariants.{Take, Give, Discard, Rewind, SetMinimum, AddDiscarded}
use Rattle.calls.specs.Calls.{performed}
use Rattle.promise.specs.Runs.{State, Holds, Allowed, Reached, fresh, call, write, Promise, free_in}
use Rattle.promise.proofs.Blocks.{Placed, Asunder, Clear, asunder_bytes, clear_bytes}
use Rattle.promise.proofs.Holding.{Kept, held_placed, held_clear}
use Rattle.promise.proofs.Cases.{Left}
use Rattle.promise.proofs.Takes.{take_left}
use Rattle.promise.proofs.Gives.{give_left, give_taken}
use Rattle.promise.proofs.Rewinds.{discard_left, rewind_left, minimum_left, discarded_left}
use Rattle.promise.proofs.Starts.{fresh_keeps, write_keeps}
use Rattle.promise.proofs.Grants.{grants_exactly, chooses_best}

-- every call that callers may make keeps the invariant, and the bytes of blocks that stay held
pub call_left : {s : Shape} {st : State} → Kept s st → (c : Call) → Allowed st c → Left s st c (performed s st.header st.bytes c)
call_left k (Take r) a = take_left k r
call_left k (Give offset size) a = rw (← a.2, ← a.3) (give_left k a.0 a.1)
call_left k Discard a = discard_left k
call_left k (Rewind p) a = rewind_left k p
call_left k (SetMinimum n) a = minimum_left k n
call_left k (AddDiscarded n) a = discarded_left k n

-- so every state that callers can bring about has it
pub reached_kept : {s : Shape} {st : State} → Reached s st → Kept s st
reached_kept {s} (fresh settings h l e writable) = fresh_keeps s settings h l e writable
reached_kept (call c a r) = (call_left (reached_kept r) c a).kept
reached_kept (write l w r) = write_keeps l w (reached_kept r)

-- and the invariant says what is promised
pub kept_promise : {s : Shape} {st : State} → Kept s st → Promise s st
kept_promise {s} {st} k =
    let m = k.holding in
    record {
      is_sound = (sound_iff s st.header st.bytes).0 m.sounds;
      held_apart =
          pairs_map Asunder (λ a b. (x : ℕ) → Holds a x → Holds b x → ⊥) (Placed s.data_offset st.header.allocated) (λ a b p q. asunder_bytes p q) st.held m.placed m.apart;
      free_apart = λ b g held free. clear_bytes (held_placed m b held) g (all_mem (Clear b) g (free_in s st) free (held_clear m b held));
      taken_back = λ b held. let t = give_taken k b held in (t.answer, t.is);
      grants = λ r past ordered. grants_exactly k r past ordered;
      chooses = λ r b past e. chooses_best k r past b e;
    }

pub demand_three : (s : Shape) (st : State) → Reached s st → Promise s st
demand_three s st r = kept_promise (reached_kept r)
