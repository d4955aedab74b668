-- The answers of `taking`, `end_at_top`, `from_top`, `past_top` and `look`, in the order of their tests.
-- Assumes nothing.
use Prim.Native.Nat.{ℕ, ◌-◌, ◌≤◌, ◌<◌}
use mathlib.Core.Path.{◌≡◌, refl, sym, ◌∙◌}
use mathlib.Core.Bool.{true, false, not, ◌&&◌}
use mathlib.Core.List.{List, [], ◌∷◌}
use native.Mathlib.Omega.{arith}
use borrow.Author.Tests.{not-true, leb-true, le-leb, lt-leb, le-ltb, lt-ltb}
use lib.Dec.{leb}
use lib.ListN.{length}
use Rattle.std.specs.Prelude.{Some, None, Ok}
use Rattle.words.specs.Word.{end_mark, zeroed}
use Rattle.records.specs.Answer.{leaves, refuses, granted, nothing}
use Rattle.records.specs.Setup.{limit}
use Rattle.records.specs.Head.{head_sound}
use Rattle.records.proofs.Facts.{both, head_facts}
use Rattle.records.specs.Change.{with_top}
use Rattle.records.specs.declared.Order.{Order}
use Rattle.records.specs.declared.Order.TheVariants.{Optimistic, Pessimistic}
use Rattle.records.specs.declared.Policy.TheVariants.{Ordered}
use Rattle.records.specs.declared.Policy.TheVariants as Policies
use Rattle.records.specs.declared.Shape.{Shape}
use Rattle.records.specs.declared.Header.{Header}
use Rattle.records.specs.declared.Request.{Request}
use Rattle.requests.specs.Request.{well_formed, plain, for_nothing, want, top_end, need, asked, block, Planned}
use Rattle.requests.proofs.Plans.{picked_some, top_met, top_past}
use Rattle.records.specs.declared.Segment.{Segment}
use Rattle.freelist.specs.Place.{Spotted}
use Rattle.freelist.specs.Sound.{sound, free}
use Rattle.freelist.specs.declared.place.Spot.{Spot}
use Rattle.freelist.proofs.Places.{place-passes}
use Rattle.arena.specs.Take.{taking, from_top, past_top, from_list, look, head_fit, first_fit, serve, found, missed, nowhere}
use Rattle.arena.specs.Look.{end_at_top, Looked}

-- where a request that the top meets ends, past the tests of the arena
pub ends_open : (s : Shape) (h : Header) (n : ℕ) (r : Request) → s.read_only ≡ false → head_sound s h n ≡ true → top_end s.cap h.allocated r ≡ end_at_top s h n r
unfolding end_at_top
ends_open s h n r writable e = simp (writable, e)

-- a request past the tests of the first refusals, simplified as p
pub record Admitted (s : Shape) (h : Header) (n : ℕ) (r p : Request) : Type 0 where
  pub writable : s.read_only ≡ false
  pub formed : well_formed r ≡ true
  pub head : head_sound s h n ≡ true
  pub simple : p ≡ plain r

-- one that the top meets, which ends at `end`
pub record Met (s : Shape) (h : Header) (n : ℕ) (r p : Request) (end : ℕ) : Type 0 where
  pub admitted : Admitted s h n r p
  pub some : for_nothing p ≡ false
  pub is : end ≡ want h.allocated p
  pub within : end ≤ s.cap

pub met : (s : Shape) (h : Header) (n : ℕ) (r p : Request) (end : ℕ) → p ≡ plain r → end_at_top s h n r ≡ Some end → Met s h n r p end
unfolding end_at_top
met s h n r p end simple e =
    let a = picked_some (not s.read_only && head_sound s h n) (top_end s.cap h.allocated r) end (sym e) in
    let b = both _ _ a.0 in
    let m = top_met s.cap h.allocated r end a.1 in
    record {
      admitted = record { writable = not-true _ b.0; formed = m.0; head = b.1; simple = simple };
      some = rw simple m.1;
      is = rw simple m.2;
      within = m.3;
    }

-- the same with the room that it takes there
pub record Roomy (s : Shape) (h : Header) (n : ℕ) (r p : Request) (end at from : ℕ) : Type 0 where
  pub is_met : Met s h n r p end
  pub planned : Planned h.allocated p end at from
  pub whole : end ≤ n
  pub limited : n ≤ limit

pub roomy : (s : Shape) (h : Header) (n : ℕ) (r p : Request) (end wanted at from : ℕ) → p ≡ plain r → end_at_top s h n r ≡ Some end → Planned h.allocated p wanted at from → Roomy s h n r p end at from
roomy s h n r p end wanted at from simple e room =
    let m = met s h n r p end simple e in
    let head = head_facts s h n m.admitted.head in
    record { is_met = m; planned = rw (m.is ∙ sym room.is) room; whole = omega (arith, m.within, head); limited = omega (arith, head) }

module _ (s : Shape) (h : Header) (l : List ℕ) (r : Request) where
  pub takes_read_only : s.read_only ≡ true → refuses 1 [] h l ≡ taking s h l r
  unfolding taking
  takes_read_only e = simp e

  module _ (writable : s.read_only ≡ false) where
    pub takes_bad_layout : well_formed r ≡ false → refuses 5 [] h l ≡ taking s h l r
    unfolding taking
    takes_bad_layout e = simp (writable, e)

    pub takes_damaged : well_formed r ≡ true → head_sound s h (length l) ≡ false → refuses 4 [] h l ≡ taking s h l r
    unfolding taking
    takes_damaged formed e = simp (writable, formed, e)

  module _ (p : Request) (k : Admitted s h (length l) r p) where
    pub takes_nothing : for_nothing p ≡ true → leaves nothing h l ≡ taking s h l r
    unfolding taking
    takes_nothing e = simp (k.writable, k.formed, k.head, ← k.simple, e)

    -- the top does not meet a request for something
    module _ (some : for_nothing p ≡ false) (past : end_at_top s h (length l) r ≡ None) where
      passes_cap : leb (want h.allocated p) s.cap ≡ false
      passes_cap =
          rw k.simple (top_past s.cap h.allocated r k.formed (rw k.simple at some) (ends_open s h (length l) r k.writable k.head ∙ past))

      pub takes_unsound : sound s h l ≡ false → refuses 4 [] h l ≡ taking s h l r
      unfolding taking
      takes_unsound e = simp (k.writable, k.formed, k.head, ← k.simple, some, passes_cap, e)

      pub takes_past : sound s h l ≡ true → past_top s.policy s h l p ≡ taking s h l r
      unfolding taking
      takes_past e = simp (k.writable, k.formed, k.head, ← k.simple, some, passes_cap, e)

-- from the top: the block is made of the room's three numbers
pub takes_room : (s : Shape) (h h₁ : Header) (l l₁ : List ℕ) (r p : Request) (end at from : ℕ) → Roomy s h (length l) r p end at from
    → h₁ ≡ with_top h end → l₁ ≡ zeroed l from end
    → leaves (granted (block h.allocated (end - h.allocated) at (end - at))) h₁ l₁ ≡ taking s h l r
unfolding taking from_top
takes_room s h h₁ l l₁ r p end at from there f g =
    let m = there.is_met in
    let room = there.planned in
    let k = m.admitted in
    simp (f, g, k.writable, k.formed, k.head, ← k.simple, m.some, ← room.is, le-leb _ _ m.within, ← room.recorded, ← room.zeroed)

-- past the top, by the policy and by what the search of the list finds
module _ (s : Shape) (h : Header) (l : List ℕ) (r : Request) where
  pub past_none : s.policy ≡ Policies.None → (requested available : ℕ) → requested ≡ asked h.allocated r → available ≡ s.cap - h.allocated
      → refuses 9 (requested ∷ available ∷ []) h l ≡ past_top s.policy s h l r
  unfolding past_top
  past_none e requested available a b = rw (e, a, b) refl

  module _ (o : Order) (policy : s.policy ≡ Ordered o) (n : ℕ) (is : n ≡ need r) where
    pub past_missed : (room : ℕ) → look o n (s.cap - h.allocated) (free s h l) ≡ missed room → refuses 9 (n ∷ room ∷ []) h l ≡ past_top s.policy s h l r
    unfolding past_top from_list
    past_missed room e = simp (policy, ← is, e)

    pub past_found : (k : ℕ) → look o n (s.cap - h.allocated) (free s h l) ≡ found k → serve h l (free s h l) o r k ≡ past_top s.policy s h l r
    unfolding past_top from_list
    past_found k e = simp (policy, ← is, e)

-- an optimistic search looks at the list's first node
module _ (o : Order) (n room : ℕ) (order : o ≡ Optimistic) (segs : List Segment) where
  pub looks_empty : segs ≡ [] → look o n room segs ≡ missed room
  unfolding look head_fit
  looks_empty e = rw (order, e) refl

  module _ (s : Segment) (ss : List Segment) (is : segs ≡ s ∷ ss) where
    pub looks_small : s.size < n → look o n room segs ≡ missed s.size
    unfolding look head_fit
    looks_small h = rw (order, is, lt-leb n s.size h) refl

    pub looks_first : n ≤ s.size → Looked o n room segs (Ok (record { prev = end_mark; next = s.offset; index = 0 }))
    unfolding look head_fit
    looks_first h =
        rw (order, is, le-leb n s.size h)
        (refl, record { inside = omega arith; stands = record { behind = refl; ahead = refl }; room = h })

-- a pessimistic search looks for the first node with room
module _ (o : Order) (n room : ℕ) (order : o ≡ Pessimistic) (segs : List Segment) (spot : Spot) (first : Spotted segs (λ s. leb n s.size) spot.prev spot.next spot.index) where
  pub looks_none : length segs ≤ spot.index → look o n room segs ≡ missed room
  unfolding look first_fit
  looks_none h = rw (order, ← first.at, le-ltb spot.index (length segs) h) refl

  pub looks_fit : spot.index < length segs → Looked o n room segs (Ok spot)
  unfolding look first_fit
  looks_fit h =
      rw (order, ← first.at, lt-ltb spot.index (length segs) h) (
        refl,
        record {
          inside = h;
          stands = first.stands;
          room = rw first.at (leb-true n _ (place-passes (λ (s : Segment). leb n s.size) segs nowhere (rw first.at at h)));
        },
      )
