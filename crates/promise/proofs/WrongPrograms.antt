-- Programs that the promises shut out, each refuted at a small arena by computing. The contracts shut out one that refuses everything, one that records
-- nothing or no node's word, one that loses what is given back after the first, an invented discard sum and an invented count of discarded bytes. Demand 3
-- shuts out, by the program's own runs, one fixed block each time, whichever block with a byte that is, one that puts in front what is given back after the
-- first and one that refuses everything past the top. One that refuses everything holds no block in its own runs; at the states that the contracts lead to
-- demand 3 shuts it out too. Assumes nothing.
use Prim.Native.Nat.{ℕ, ◌+◌}
use mathlib.Core.Path.{◌≡◌, refl, sym, ap, ◌∙◌}
use mathlib.Core.Logic.{◌↔◌}
use mathlib.Core.Bool.{true, false, false≢true}
use mathlib.Core.List.Memᴰ
use mathlib.Core.List.{List, []}
use native.Mathlib.Omega.{arith}
use lib.Dec.{ltb, eqb}
use lib.ListN.{length, replicate, get_or}
use Rattle.std.specs.Prelude.{Option, Some, None as Refused}
use Rattle.words.specs.Word as W
use Rattle.words.specs.Pick.{pick}
use Rattle.records.specs.Answer.{Outcome, Said, granted, given_back, sum, refused, ready, leaves, refuses}
use Rattle.records.specs.Setup as St
use Rattle.records.specs.Change.{with_first, losing}
use Rattle.records.specs.Rule as Ru
use Rattle.records.specs.declared.Order.TheVariants.{Optimistic}
use Rattle.records.specs.declared.Policy.{Policy}
use Rattle.records.specs.declared.Policy.TheVariants.{None, Ordered}
use Rattle.records.specs.declared.Settings.{Settings}
use Rattle.records.specs.declared.Shape.{Shape}
use Rattle.records.specs.declared.Header.{Header}
use Rattle.records.specs.declared.Block.{Block}
use Rattle.records.specs.declared.Request.{Request}
use Rattle.records.specs.declared.Request.TheVariants.{Bytes}
use Rattle.records.specs.declared.Segment.{Segment}
use Rattle.records.proofs.Facts.{pick_either}
use Rattle.requests.specs.Request.{block, plain, want}
use Rattle.freelist.specs.Segs.{Pairwise}
use Rattle.freelist.specs.Sound.{Sound, free, first_of}
use Rattle.freelist.proofs.Arenas.{sound_iff}
use Rattle.calls.specs.declared.Call.{Call}
use Rattle.calls.specs.declared.Call.TheVariants.{Take, Give, Discard}
use Rattle.calls.specs.Calls.{performed}
use Rattle.promise.specs.Runs.{State, Holds, held_after, elsewhere, Allowed, Reached, fresh, call, PastTop, free_in}
use Rattle.promise.proofs.Holding.{Kept, keeps, hold_only, hold_counters}
use Rattle.promise.proofs.Cases.{Left, left_quiet}
use Rattle.promise.proofs.Starts.{fresh_keeps}
use Rattle.promise.proofs.Grants.{Grants, Fits}
use Rattle.promise.proofs.DemandThree.{call_left, kept_promise, demand_three}
use Rattle.promise.proofs.Opened.{opened}

-- a program answers every call on any arena
abbrev pub Program : Type 0
Program = Shape → Header → List ℕ → Call → Outcome

-- it meets the contracts where it leaves what they state
abbrev pub Meets : Program → Type 0
Meets p = (s : Shape) (h : Header) (l : List ℕ) (c : Call) → p s h l c ≡ performed s h l c

-- the states that it brings about, from a fresh writable arena, where callers write nothing and give back only held blocks
abbrev pub left_by : Program → Shape → State → Call → State
left_by p s st c =
    let o = p s st.header st.bytes c in
    record { header = o.header; bytes = o.bytes; held = held_after st.held c o.says o.header.allocated }

pub data Brought (p : Program) (s : Shape) : State → Type 0 where
  begun : (settings : Settings) (h : Header) (l : List ℕ) → St.setting_up settings (length l) ≡ ready s h → s.read_only ≡ false → Brought p s (record { header = h; bytes = l; held = [] })
  next : {st : State} (c : Call) → Allowed st c → Brought p s st → Brought p s (left_by p s st c)

-- demand 3 of it: the arena is sound; held blocks share no byte; past the top it grants exactly if some segment has room
abbrev pub Sounds : Program → Type 0
Sounds p = (s : Shape) (st : State) → Brought p s st → Sound s st.header st.bytes

abbrev pub Parts : Program → Type 0
Parts p = (s : Shape) (st : State) → Brought p s st → Pairwise (λ a b. (x : ℕ) → Holds a x → Holds b x → ⊥) st.held

abbrev pub GrantsIn : Program → Shape → State → Type 0
GrantsIn p s st = (r : Request) → PastTop s st r → (s.policy ≡ None → ⊥) → Grants (p s st.header st.bytes (Take r)) ↔ Fits s st r

abbrev pub GrantsExactly : Program → Type 0
GrantsExactly p = (s : Shape) (st : State) → Brought p s st → GrantsIn p s st

-- the same, asked at the states that callers bring about where every call does what its contract states
abbrev pub GrantsWhereReached : Program → Type 0
GrantsWhereReached p = (s : Shape) (st : State) → Reached s st → GrantsIn p s st

-- the program that the contracts state has all this
brought_reached : (s : Shape) {st : State} → Brought performed s st → Reached s st
brought_reached s (begun settings h l e w) = fresh settings h l e w
brought_reached s (next c a b) = call c a (brought_reached s b)

pub performed_sounds : Sounds performed
performed_sounds s st b = (demand_three s st (brought_reached s b)).is_sound

pub performed_parts : Parts performed
performed_parts s st b = (demand_three s st (brought_reached s b)).held_apart

pub performed_grants_where_reached : GrantsWhereReached performed
performed_grants_where_reached s st r = (demand_three s st r).grants

pub performed_grants_exactly : GrantsExactly performed
performed_grants_exactly s st b = performed_grants_where_reached s st (brought_reached s b)

-- an arena of 64 bytes, and it fresh
abbrev small : Shape
small = record { cap = 64; reserved = 7; data_offset = 8; unify = false; read_only = false; policy = Ordered Optimistic }

abbrev begin : State
begin = record { header = St.fresh_header 8 0; bytes = replicate 64 0; held = [] }

begin_brought : (p : Program) → Brought p small begin
unfolding opened
begin_brought p = begun (record { reserved = 7; unify = false; policy = 1; minimum_segment_size = 0; read_only = false }) begin.header begin.bytes refl refl

-- the sum that is said
abbrev sum_of : Said → ℕ
sum_of (sum n) = n
sum_of _ = 0

-- a program that leaves every header as it was meets no contract
module _ (p : Program) (leaves-header : (s : Shape) (h : Header) (l : List ℕ) (c : Call) → (p s h l c).header ≡ h) where
  same_header_out : Meets p → ⊥
  unfolding opened
  same_header_out m =
      let c = Take (Bytes 24) in
      let z : ◌≡◌ {A = ℕ} 8 32 = sym (ap (λ (h : Header). h.allocated) (leaves-header small begin.header begin.bytes c)) ∙ ap (λ (o : Outcome). o.header.allocated) (m small begin.header begin.bytes c) in
      omega arith

-- so one that refuses everything
abbrev pub refuses_all : Program
refuses_all s h l c = refuses 1 [] h l

pub refuses_all_out : Meets refuses_all → ⊥
refuses_all_out = same_header_out refuses_all (λ s h l c. refl)

-- and one that records nothing
abbrev pub records_nothing : Program
records_nothing s h l c = leaves (performed s h l c).says h l

pub records_nothing_out : Meets records_nothing → ⊥
records_nothing_out = same_header_out records_nothing (λ s h l c. refl)

-- one fixed block each time, where it grants: any block that has a byte
abbrev always : Block → Said → Said
always b (granted c) = granted b
always b x = x

abbrev pub one_block : Block → Program
one_block b s h l c = leaves (always b (performed s h l c).says) (performed s h l c).header (performed s h l c).bytes

pub one_block_out : (b : Block) (x : ℕ) → Holds b x → Parts (one_block b) → ⊥
unfolding opened
one_block_out b x byte m =
    let two = next (Take (Bytes 8)) tt (next (Take (Bytes 8)) tt (begin_brought (one_block b))) in
    (m small _ two).0.0 x byte byte

-- three blocks, up to the capacity: (8,24), (32,16), (48,16)
abbrev taken_by : Program → State
taken_by p = left_by p small (left_by p small (left_by p small begin (Take (Bytes 24))) (Take (Bytes 16))) (Take (Bytes 16))

taken_brought : (p : Program) → Brought p small (taken_by p)
taken_brought p = next (Take (Bytes 16)) tt (next (Take (Bytes 16)) tt (next (Take (Bytes 24)) tt (begin_brought p)))

-- and the first of them given back, by a program that grants them as the contracts do
abbrev once_by : Program → State
once_by p = left_by p small (taken_by p) (Give 8 24)

once_brought : (p : Program) → (taken_by p).held ≡ (taken_by performed).held → Brought p small (once_by p)
unfolding opened
once_brought p e = next (Give 8 24) (block 8 24 8 24, rw e (Memᴰ.tail (Memᴰ.tail (Memᴰ.head refl))), refl, refl) (taken_brought p)

-- one that records the header and no node's word
abbrev pub records_no_word : Program
records_no_word s h l c = leaves (performed s h l c).says (performed s h l c).header l

pub records_no_word_out : Meets records_no_word → ⊥
unfolding opened
records_no_word_out m =
    let z : ◌≡◌ {A = ℕ} 0 16 = ap (λ (o : Outcome). get_or o.bytes 12 0) (m small (taken_by performed).header (taken_by performed).bytes (Give 8 24)) in
    omega arith

-- one that manages its list only for the first give-back, and does something else with later ones
abbrev first_and : (Shape → Header → List ℕ → ℕ → ℕ → Outcome) → Program
first_and later s h l (Give offset size) = pick (eqb (length (free s h l)) 0) (performed s h l (Give offset size)) (later s h l offset size)
first_and later s h l c = performed s h l c

-- they stand in front, whatever their size
abbrev front : Header → List ℕ → ℕ → Option Segment → Outcome
front h l size Refused = leaves (given_back false) (losing h size) l
front h l size (Some q) = leaves (given_back true) (losing (with_first h q.offset) 8) (W.put_word l q.offset (W.node_word q.size (first_of h)))

abbrev pub first_only : Program
first_only = first_and (λ s h l offset size. front h l size (Ru.segment_of h.minimum_segment_size offset size))

pub first_only_out : Sounds first_only → ⊥
unfolding opened
first_only_out m =
    let twice = next (Give 32 16) (block 32 16 32 16, Memᴰ.tail (Memᴰ.head refl), refl, refl) (once_brought first_only refl) in
    false≢true ((sound_iff _ _ _).1 (m small _ twice))

-- or, below the top, they are answered true and counted as discarded, with no node: its own runs stay sound; the exact answers and headers of demand 2 shut it out
abbrev pub first_then_loses : Program
first_then_loses =
    first_and (λ s h l offset size. pick (eqb (offset + size) h.allocated) (performed s h l (Give offset size)) (leaves (given_back true) (losing h size) l))

first_then_loses_left : {s : Shape} {st : State} → Kept s st → (c : Call) → Allowed st c → Left s st c (first_then_loses s st.header st.bytes c)
first_then_loses_left {s} {st} k (Give offset size) a =
    let c = Give offset size in
    let lost = hold_counters (hold_only k.holding (elsewhere offset)) (losing st.header size) refl refl in
    pick_either (Left s st c) (eqb (length (free_in s st)) 0) _ _ (λ _. call_left k c a)
    (λ _. pick_either (Left s st c) (eqb (offset + size) st.header.allocated) _ _ (λ _. call_left k c a) (λ _. left_quiet k c (given_back true) _ (keeps k.writable lost)))
first_then_loses_left k c a = call_left k c a

first_then_loses_kept : (s : Shape) {st : State} → Brought first_then_loses s st → Kept s st
first_then_loses_kept s (begun settings h l e w) = fresh_keeps s settings h l e w
first_then_loses_kept s (next c a b) = (first_then_loses_left (first_then_loses_kept s b) c a).kept

pub first_then_loses_sounds : Sounds first_then_loses
first_then_loses_sounds s st b = (kept_promise (first_then_loses_kept s b)).is_sound

pub first_then_loses_out : Meets first_then_loses → ⊥
unfolding opened
first_then_loses_out m =
    let once = once_by performed in
    let z : ◌≡◌ {A = ℕ} 24 16 = ap (λ (o : Outcome). o.header.discarded) (m small once.header once.bytes (Give 32 16)) in
    omega arith

-- one that refuses everything past the top
abbrev pub refuses_past : Program
refuses_past s h l (Take r) = pick (ltb s.cap (want h.allocated (plain r))) (refuses 9 [] h l) (performed s h l (Take r))
refuses_past s h l c = performed s h l c

-- one that refuses 10 bytes past the top where some segment has room for them is out
refusing_out : (p : Program) (st : State) (n : ℕ) (carried : List ℕ) → (p small st.header st.bytes (Take (Bytes 10))).says ≡ refused n carried
    → PastTop small st (Bytes 10) → Fits small st (Bytes 10) → GrantsIn p small st → ⊥
refusing_out p st n carried answer past fits m =
    let ordered : ◌≡◌ {A = Policy} (Ordered Optimistic) None → ⊥ = λ e. false≢true cc in
    let b = (m (Bytes 10) past ordered).1 fits in
    false≢true (cc (answer, b.1))

-- the state after the first give-back is one where it does: the segment at 8 has room
once_past : PastTop small (once_by performed) (Bytes 10)
unfolding opened
once_past = record { formed = refl; some = refl; past = omega arith }

once_fits : Fits small (once_by performed) (Bytes 10)
unfolding opened
once_fits = (record { offset = 8; size = 16 }, Memᴰ.head refl, omega arith)

pub refuses_past_out : GrantsExactly refuses_past → ⊥
unfolding opened
refuses_past_out m = refusing_out refuses_past _ 9 [] refl once_past once_fits (m small _ (once_brought refuses_past refl))

-- so is one that refuses everything, at the state that the contracts lead to by the same calls
pub refuses_all_grants_out : GrantsWhereReached refuses_all → ⊥
unfolding opened
refuses_all_grants_out m = refusing_out refuses_all _ 1 [] refl once_past once_fits (m small _ (brought_reached small (once_brought performed refl)))

-- an invented discard sum
abbrev invented : Said → Said
invented (sum n) = sum (n + 1)
invented x = x

abbrev pub invents_sum : Program
invents_sum s h l c = leaves (invented (performed s h l c).says) (performed s h l c).header (performed s h l c).bytes

pub invents_sum_out : Meets invents_sum → ⊥
unfolding opened
invents_sum_out m = let z : ◌≡◌ {A = ℕ} 1 0 = ap (λ (o : Outcome). sum_of o.says) (m small begin.header begin.bytes Discard) in omega arith

-- an invented count of discarded bytes
abbrev pub invents_count : Program
invents_count s h l c = leaves (performed s h l c).says (losing (performed s h l c).header 1) (performed s h l c).bytes

pub invents_count_out : Meets invents_count → ⊥
unfolding opened
invents_count_out m = let z : ◌≡◌ {A = ℕ} 1 0 = ap (λ (o : Outcome). o.header.discarded) (m small begin.header begin.bytes Discard) in omega arith
