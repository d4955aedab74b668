-- A give-back of a held block is never refused, and keeps the invariant. The block's bytes are in range and meet no segment; whatever becomes of them,
-- the top lowered, a segment put in or bytes only counted, stays inside the block's hull, which no other block and no segment has a byte of.
-- Assumes nothing.
use Prim.Native.Nat.{ℕ, ◌+◌, ◌≤◌}
use Rattle.std.specs.List.{AllByRecursion as Each}
use Rattle.std.specs.Prelude.{Option, Some, None as Refused}
use mathlib.Core.Path.{◌≡◌, refl}
use mathlib.Core.Logic.{◌⊎◌, ⊎_elim}
use mathlib.Core.Bool.{Bool, true, false}
use mathlib.Core.List.{List, Memᴰ}
use native.Mathlib.Omega.{arith}
use borrow.Author.Tests.{le-ltb, eqb-true}
use lib.Dec.{eqb}
use Rattle.std.proofs.lemmas.Bool.Decides.{nat_tests}
use Rattle.words.proofs.Ranges.{Parted, parted_flip, parted_parts, parted_below}
use Rattle.words.specs.Pick.{pick}
use Rattle.records.specs.Answer.{Outcome, leaves, given_back}
use Rattle.records.specs.Rule.{segment_of}
use Rattle.records.specs.Change.{with_top, with_first, losing}
use Rattle.records.specs.declared.Order.{Order}
use Rattle.records.specs.declared.Policy.{Policy}
use Rattle.records.specs.declared.Policy.TheVariants.{None, Ordered}
use Rattle.records.specs.declared.Shape.{Shape}
use Rattle.records.specs.declared.Header.{Header}
use Rattle.records.specs.declared.Block.{Block}
use Rattle.records.specs.declared.Segment.{Segment}
use Rattle.records.proofs.Facts.{pick_either}
use Rattle.records.proofs.Rules.{Cut, cut_of}
use Rattle.freelist.specs.Segs.{InRange, EndsBy, Apart, leads, end_of}
use Rattle.freelist.specs.Place.{place, insert_at}
use Rattle.freelist.specs.Link.{insert_bytes, insert_head}
use Rattle.freelist.specs.Sound.{first_of}
use Rattle.freelist.proofs.Listing.{all_map, all_both}
use Rattle.freelist.proofs.Places.{pairs_with}
use Rattle.freelist.proofs.Meets.{off_meets}
use Rattle.arena.specs.Give.{put_in, below_top, giving_back}
use Rattle.calls.specs.declared.Call.TheVariants.{Give}
use Rattle.promise.specs.Runs.{State, free_in, only, elsewhere}
use Rattle.promise.proofs.Members.{only_all, only-passes}
use Rattle.promise.proofs.Blocks.{hull_end, Placed, Asunder, Clear}
use Rattle.promise.proofs.Holding.{Holding, Onward, Kept, keeps, hold_head, hold_ranged, held_placed, held_clear, hold_only, hold_top, hold_counters, hold_insert}
use Rattle.promise.proofs.Cases.{Left, left_onward, left_quiet}

-- a block that starts elsewhere is another one
elsewhere_other : (b c : Block) → elsewhere b.memory_offset c ≡ true → c ≡ b → ⊥
elsewhere_other b c f same = grind (arith, nat_tests)

module _ {s : Shape} {h : Header} {l : List ℕ} {segs : List Segment} {held : List Block} (k : Holding s h l segs held) (b : Block) (mem : Memᴰ b held) where
  abbrev others : List Block
  others = only (elsewhere b.memory_offset) held

  placed : Placed s.data_offset h.allocated b
  placed = held_placed k b mem

  apart : Each (Asunder b) others
  apart =
      let f = elsewhere b.memory_offset in
      all_both (λ c. (c ≡ b) ⊎ Asunder b c) (λ c. f c ≡ true) (Asunder b) (λ c o e. ⊎_elim (λ q. absurd (elsewhere_other b c e q)) (λ r. r) o) others
      (only_all f (λ c. (c ≡ b) ⊎ Asunder b c) held (pairs_with Asunder (λ x y. parted_flip _ _ _ _) b held mem k.apart)) (only-passes f held)

  rest : Holding s h l segs others
  rest = hold_only k (elsewhere b.memory_offset)

  -- at the top: all else ends at or below the block
  lowered : b.memory_offset + b.memory_size ≡ h.allocated → Holding s (with_top h b.memory_offset) l segs others
  lowered e =
      let a = b.memory_offset in
      let top = h.allocated in
      let p = placed in
      hold_top rest (with_top h a) refl p.above (omega (arith, p.below, (hold_head k).below))
      (all_both (InRange s.data_offset top) (Clear b) (EndsBy a)
      (λ g r c. parted_below _ _ g.offset (end_of g) top r.below (omega arith) (omega (arith, p.some)) (omega arith) c) segs (hold_ranged k) (held_clear k b mem))
      (all_both (Placed s.data_offset top) (Asunder b) (λ c. hull_end c ≤ a)
      (λ c r d. parted_below _ _ c.memory_offset (hull_end c) top r.below (omega arith) (omega (arith, p.some)) (omega (arith, r.some)) d) others rest.placed apart)

  -- below it: a segment inside the block's memory
  module _ (o : Order) (policy : s.policy ≡ Ordered o) (q : Segment) (c : Cut b.memory_offset b.memory_size q) where
    inside : (x y : ℕ) → Parted b.memory_offset (hull_end b) x y → Parted x y q.offset (end_of q)
    inside x y e = parted_parts x y q.offset (end_of q) (omega arith) (omega arith) c.low (omega (arith, c.ends)) (parted_flip b.memory_offset (hull_end b) x y e)

    returned : Onward s l others (losing (with_first h (insert_head (first_of h) segs (place (leads o q) segs) q)) 8) (insert_bytes l segs (place (leads o q) segs) q) (insert_at (place (leads o q) segs) q segs) others
    returned =
        hold_insert rest _ refl o policy q
        (record { aligned = c.aligned; above = omega (arith, placed.above, c.low); holds = c.holds; below = omega (arith, placed.below, c.ends) })
        (all_map (Clear b) (λ t. Apart t q) (λ t. inside t.offset (end_of t)) segs (held_clear k b mem))
        (all_map (Asunder b) (λ x. Clear x q) (λ x. inside x.memory_offset (hull_end x)) others apart) refl

-- a range was taken back, with this answer
pub record Taken (o : Outcome) : Type 0 where
  pub answer : Bool
  pub is : o.says ≡ given_back answer

module _ {s : Shape} {st : State} (k : Kept s st) (b : Block) (mem : Memᴰ b st.held) where
  -- no test of a give-back refuses it
  gives_held : giving_back s st.header st.bytes b.memory_offset b.memory_size
      ≡ pick (eqb (b.memory_offset + b.memory_size) st.header.allocated) (leaves (given_back true) (with_top st.header b.memory_offset) st.bytes)
      (below_top s.policy s st.header st.bytes b.memory_offset b.memory_size)
  unfolding giving_back
  gives_held =
      let a = b.memory_offset in
      let e = b.memory_offset + b.memory_size in
      let p = held_placed k.holding b mem in
      simp (
        k.writable,
        k.holding.sounds,
        le-ltb a s.data_offset p.above,
        le-ltb st.header.allocated e (omega (arith, p.below)),
        off_meets _ _ a e (free_in s st) (omega arith) (omega arith) (held_clear k.holding b mem),
      )

  -- what holds of each way of taking it back holds of the give-back
  gives_one : (P : Outcome → Type 0)
      → (b.memory_offset + b.memory_size ≡ st.header.allocated → P (leaves (given_back true) (with_top st.header b.memory_offset) st.bytes))
      → ((x : Bool) → P (leaves (given_back x) (losing st.header b.memory_size) st.bytes))
      → ((o : Order) → s.policy ≡ Ordered o → (q : Segment) → segment_of st.header.minimum_segment_size b.memory_offset b.memory_size ≡ Some q
      → P (put_in st.header st.bytes (free_in s st) o b.memory_size (Some q)))
      → P (giving_back s st.header st.bytes b.memory_offset b.memory_size)
  unfolding below_top put_in
  gives_one P top lost new =
      rw gives_held (pick_either P (eqb (b.memory_offset + b.memory_size) st.header.allocated) _ _ (λ e. top (eqb-true _ _ e)) (λ _. below s.policy refl))
    where
      put : (o : Order) → s.policy ≡ Ordered o → (x : Option Segment) → segment_of st.header.minimum_segment_size b.memory_offset b.memory_size ≡ x
          → P (put_in st.header st.bytes (free_in s st) o b.memory_size x)
      put o policy Refused e = lost false
      put o policy (Some q) e = new o policy q e

      below : (f : Policy) → s.policy ≡ f → P (below_top f s st.header st.bytes b.memory_offset b.memory_size)
      below None policy = lost true
      below (Ordered o) policy = put o policy (segment_of st.header.minimum_segment_size b.memory_offset b.memory_size) refl

  pub give_taken : Taken (giving_back s st.header st.bytes b.memory_offset b.memory_size)
  unfolding put_in
  give_taken =
      gives_one Taken (λ _. record { answer = true; is = refl }) (λ x. record { answer = x; is = refl }) (λ o policy q e. record { answer = true; is = refl })

  pub give_left : Left s st (Give b.memory_offset b.memory_size) (giving_back s st.header st.bytes b.memory_offset b.memory_size)
  unfolding put_in
  give_left =
      let c = Give b.memory_offset b.memory_size in
      gives_one (Left s st c)
      (λ e. left_quiet k c (given_back true) _ (keeps k.writable (lowered k.holding b mem e)))
      (λ x. left_quiet k c (given_back x) _ (keeps k.writable (hold_counters (rest k.holding b mem) _ refl refl)))
      (λ o policy q e. left_onward k c (given_back true) (λ x held stays. stays) (returned k.holding b mem o policy q (cut_of _ _ _ q e)))
