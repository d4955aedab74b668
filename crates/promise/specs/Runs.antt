-- Demand 3 of the request: what holds after any calls of callers who keep to their blocks.
use Rattle.std.specs.Prelude.{ℕ, ◌+◌, ◌≤◌, ◌<◌, ◌≡◌, Bool, true, false, ◌&&◌, not, ◌⊎◌, ◌↔◌, leb, eqb, length, get_or}
use Rattle.std.specs.List.{filter}
use mathlib.Core.List.{List, [], ◌∷◌, Memᴰ}
use Rattle.records.specs.Answer.{Said, granted, nothing, given_back, sum, done, refused, ready}
use Rattle.records.specs.Setup.{setting_up}
use Rattle.records.specs.declared.Order.TheVariants.{Optimistic, Pessimistic}
use Rattle.records.specs.declared.Policy.{Policy}
use Rattle.records.specs.declared.Policy.TheVariants.{None, Ordered}
use Rattle.records.specs.declared.Settings.{Settings}
use Rattle.records.specs.declared.Shape.{Shape}
use Rattle.records.specs.declared.Header.{Header}
use Rattle.records.specs.declared.Block.{Block}
use Rattle.records.specs.declared.Request.{Request}
use Rattle.records.specs.declared.Segment.{Segment}
use Rattle.requests.specs.Request.{well_formed, plain, for_nothing, want, need}
use Rattle.freelist.specs.Segs.{Covers, Pairwise}
use Rattle.freelist.specs.Sound.{Sound, free}
use Rattle.calls.specs.declared.Call.{Call}
use Rattle.calls.specs.declared.Call.TheVariants.{Take, Give, Discard, Rewind, SetMinimum, AddDiscarded}
use Rattle.calls.specs.Calls.{performed}

-- the byte x is one of the n from offset on
abbrev pub Within : ℕ → ℕ → ℕ → Type 0
Within offset n x = (offset ≤ x) × (x < offset + n)

-- the byte x is a usable byte of the block
abbrev pub Usable : Block → ℕ → Type 0
Usable b x = Within b.usable_offset b.usable_size x

-- 01: a held block's bytes mean both ranges together
abbrev pub Holds : Block → ℕ → Type 0
Holds b x = Within b.memory_offset b.memory_size x ⊎ Usable b x

-- an arena in use: what the calls change, and the blocks that callers hold
pub record State : Type 0 where
  pub header : Header
  pub bytes : List ℕ
  pub held : List Block

-- the members that pass a test
abbrev pub only : (Block → Bool) → List Block → List Block
only = filter

-- 01: blocks whose bytes pass the new top are held no more
abbrev pub ends_by : ℕ → Block → Bool
ends_by top b = leb (b.memory_offset + b.memory_size) top && leb (b.usable_offset + b.usable_size) top

-- the block's memory does not start here
abbrev pub elsewhere : ℕ → Block → Bool
elsewhere offset b = not (eqb b.memory_offset offset)

-- the blocks held after a call: a grant is held, a range taken back is not, a rewind that is done ends those past the top;
-- a refused call changes no holding
abbrev pub held_after : List Block → Call → Said → ℕ → List Block
held_after bs (Take r) (granted b) top = b ∷ bs
held_after bs (Take r) nothing top = bs
held_after bs (Take r) (given_back x) top = bs
held_after bs (Take r) (sum n) top = bs
held_after bs (Take r) done top = bs
held_after bs (Take r) (refused n c) top = bs
held_after bs (Give offset size) (granted b) top = bs
held_after bs (Give offset size) nothing top = bs
held_after bs (Give offset size) (given_back x) top = only (elsewhere offset) bs
held_after bs (Give offset size) (sum n) top = bs
held_after bs (Give offset size) done top = bs
held_after bs (Give offset size) (refused n c) top = bs
held_after bs Discard x top = bs
held_after bs (Rewind p) (granted b) top = bs
held_after bs (Rewind p) nothing top = bs
held_after bs (Rewind p) (given_back x) top = bs
held_after bs (Rewind p) (sum n) top = bs
held_after bs (Rewind p) done top = only (ends_by top) bs
held_after bs (Rewind p) (refused n c) top = bs
held_after bs (SetMinimum n) x top = bs
held_after bs (AddDiscarded n) x top = bs

-- the state that a call leaves
abbrev pub after : Shape → State → Call → State
after s st c =
    let o = performed s st.header st.bytes c in
    record { header = o.header; bytes = o.bytes; held = held_after st.held c o.says o.header.allocated }

-- demand 3: callers give back only held blocks; every other call may be made with any numbers
abbrev pub Allowed : State → Call → Type 0
Allowed st (Take r) = Unit {0}
Allowed st (Give offset size) = (b : Block) × Memᴰ b st.held × (b.memory_offset ≡ offset) × (b.memory_size ≡ size)
Allowed st Discard = Unit {0}
Allowed st (Rewind p) = Unit {0}
Allowed st (SetMinimum n) = Unit {0}
Allowed st (AddDiscarded n) = Unit {0}

-- demand 3: callers write only in usable bytes of blocks they hold. Here they may write in every byte of those blocks, which is more than is asked, so
-- that every run of the request's callers is one of these
pub record Written (st : State) (l : List ℕ) : Type 0 where
  pub long : length l ≡ length st.bytes
  pub outside : (x : ℕ) → ((b : Block) → Memᴰ b st.held → Holds b x → ⊥) → get_or l x 0 ≡ get_or st.bytes x 0

-- the states that callers can bring about: start from a fresh writable arena, as setup answers it, over any bytes
pub data Reached (s : Shape) : State → Type 0 where
  fresh : (settings : Settings) (h : Header) (l : List ℕ) → setting_up settings (length l) ≡ ready s h → s.read_only ≡ false →
      Reached s (record { header = h; bytes = l; held = [] })
  call : {st : State} (c : Call) → Allowed st c → Reached s st → Reached s (after s st c)
  write : {st : State} (l : List ℕ) → Written st l → Reached s st → Reached s (record { header = st.header; bytes = l; held = st.held })

-- demand 3: the optimistic list takes a largest, the pessimistic a smallest that fits, as a search of all segments that ignores list order would choose
abbrev pub Best : Policy → ℕ → Segment → List Segment → Type 0
Best None n g gs = ⊥
Best (Ordered Optimistic) n g gs = (f : Segment) → Memᴰ f gs → f.size ≤ g.size
Best (Ordered Pessimistic) n g gs = (f : Segment) → Memᴰ f gs → n ≤ f.size → g.size ≤ f.size

-- the free segments of a state
abbrev pub free_in : Shape → State → List Segment
free_in s st = free s st.header st.bytes

-- a request that the top can't meet, well-formed and for something
pub record PastTop (s : Shape) (st : State) (r : Request) : Type 0 where
  pub formed : well_formed r ≡ true
  pub some : for_nothing (plain r) ≡ false
  pub past : s.cap < want st.header.allocated (plain r)

-- what demand 3 promises of a state that was reached
pub record Promise (s : Shape) (st : State) : Type 0 where
  -- the arena is sound
  pub is_sound : Sound s st.header st.bytes
  -- held blocks share no byte
  pub held_apart : Pairwise (λ a b. (x : ℕ) → Holds a x → Holds b x → ⊥) st.held
  -- held blocks and free segments share no byte
  pub free_apart : (b : Block) (g : Segment) → Memᴰ b st.held → Memᴰ g (free_in s st) → (x : ℕ) → Holds b x → Covers g x → ⊥
  -- no give-back of a held block is refused
  pub taken_back : (b : Block) → Memᴰ b st.held →
      (x : Bool) × ((performed s st.header st.bytes (Give b.memory_offset b.memory_size)).says ≡ given_back x)
  -- such a request is granted exactly if some free segment's data size is at least its need
  pub grants : (r : Request) → PastTop s st r → (s.policy ≡ None → ⊥) →
      ((b : Block) × ((performed s st.header st.bytes (Take r)).says ≡ granted b)) ↔ ((g : Segment) × Memᴰ g (free_in s st) × (need (plain r) ≤ g.size))
  -- and the segment taken is a best one
  pub chooses : (r : Request) (b : Block) → PastTop s st r → (performed s st.header st.bytes (Take r)).says ≡ granted b →
      (g : Segment) × Memᴰ g (free_in s st) × (b.memory_offset ≡ g.offset) × (need (plain r) ≤ g.size) × Best s.policy (need (plain r)) g (free_in s st)
