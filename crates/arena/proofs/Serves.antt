-- A node leaves the list and serves a request: what holds of the list then, and the two answers of `serve`, by the segment rule.
-- Assumes nothing.
use Prim.Native.Nat.{ℕ, ◌+◌, ◌-◌, ◌≤◌}
use mathlib.Core.Path.{◌≡◌, refl, sym, ◌∙◌}
use mathlib.Core.List.{List}
use native.Mathlib.Omega.{arith}
use lib.ListN.{length, get_or}
use Rattle.words.specs.Word.{word_at, size_half, end_mark, zeroed}
use Rattle.records.specs.Setup.{limit}
use Rattle.records.specs.Answer.{leaves, granted}
use Rattle.records.specs.Change.{with_first, losing}
use Rattle.records.specs.declared.Order.{Order}
use Rattle.records.specs.declared.Policy.TheVariants.{Ordered}
use Rattle.records.specs.declared.Block.{Block}
use Rattle.records.specs.declared.Shape.{Shape}
use Rattle.records.specs.declared.Header.{Header}
use Rattle.records.specs.declared.Request.{Request}
use Rattle.records.specs.declared.Segment.{Segment}
use Rattle.std.specs.Prelude.{Some, None}
use Rattle.records.proofs.Rules.{cut_of}
use Rattle.requests.specs.Request.{need, list_block}
use Rattle.freelist.specs.Segs.{InRange, end_of, Listed, passed}
use Rattle.freelist.specs.Place.{remove_at}
use Rattle.freelist.specs.Link.{remove_bytes, remove_head, Inserted, Removed}
use Rattle.freelist.specs.Sound.{first_of, free}
use Rattle.freelist.specs.declared.place.Spot.{Spot}
use Rattle.freelist.proofs.Places.{all_at, length_removed}
use Rattle.freelist.proofs.Links.{run_small}
use Rattle.freelist.proofs.Seeks.{run_node}
use Rattle.freelist.proofs.Checks.{listed_ends}
use Rattle.freelist.proofs.Sounds.{listed_remove}
use Rattle.freelist.proofs.Arenas.{sound_listed}
use Rattle.arena.specs.Take.{nowhere, rest_of, serve, serve_from}
use Rattle.arena.specs.Look.{Counted, Serves, handed_out}
use Rattle.arena.proofs.Lists.{Held, run_held, free_held}

-- a block handed out, from what the callees leave
pub hands_out : (h : Header) (l l₁ : List ℕ) (p m n : ℕ) (r : Request) (b : Block) → n ≡ need r → l₁ ≡ zeroed l (p + 8) (p + 8 + n) → b ≡ list_block p m r → leaves (granted b) h l₁ ≡ handed_out h l p m r
hands_out h l l₁ p m n r b is e f = rw (e, f, is) refl

-- what the segment rule accepts of a node ends where the node does, or before
pub rest_inside : (h : Header) (r : Request) (g : Segment) (n m : ℕ) (q : Segment) → n ≡ need r → need r ≤ g.size → end_of g ≤ m → rest_of h g n ≡ Some q → end_of q ≤ m
rest_inside h r g n m q is room inside e = omega (arith, (cut_of _ _ _ _ e).ends)

-- the two answers of `serve_from`, by the segment rule
module _ (h : Header) (l : List ℕ) (segs : List Segment) (first n : ℕ) (o : Order) (r : Request) (g : Segment) (is : n ≡ need r) where
  -- 01: else memory is (p, s) and discarded stays
  pub serves_from_whole : rest_of h g n ≡ None → (next : Header) → next ≡ with_first h first → handed_out next l g.offset g.size r ≡ serve_from h l first segs o r g (rest_of h g (need r))
  unfolding serve_from
  serves_from_whole e next a = simp (← is, e, a)

  -- 01: inserted, discarded grows by 8, memory is (p, need)
  pub serves_from_split : (q : Segment) → rest_of h g n ≡ Some q → (l₁ : List ℕ) (head : ℕ) → Inserted l segs first o q l₁ head → (linked next : Header) → linked ≡ with_first h head → next ≡ losing linked 8
      → handed_out next l₁ g.offset n r ≡ serve_from h l first segs o r g (rest_of h g (need r))
  unfolding serve_from
  serves_from_split q e l₁ head i linked next a b = simp (← is, e, ← i.bytes, ← i.starts, b, a)

-- the k-th node, which stands at p, left the list: the bytes and the first node then, and the list that they hold
pub record NodeOut (h : Header) (l : List ℕ) (segs : List Segment) (r : Request) (count k : ℕ) (g : Segment) (l₁ : List ℕ) (first : ℕ) : Type 0 where
  pub node : get_or segs k nowhere ≡ g
  pub room : need r ≤ g.size
  pub bytes : l₁ ≡ remove_bytes l segs k
  pub starts : first ≡ remove_head (first_of h) segs k
  pub held : Held l₁ first (count - 1) (remove_at k segs)
  pub small : first ≤ end_mark
  pub inside : end_of g ≤ length l₁
  pub limited : length l₁ ≤ limit

pub node_out : (s : Shape) (h : Header) (l l₁ : List ℕ) (o : Order) (r : Request) (spot : Spot) (first count size first₁ : ℕ) → Counted s h l count → s.policy ≡ Ordered o
    → first ≡ first_of h → Serves (free s h l) (need r) spot → size ≡ size_half (word_at l spot.next) → Removed l (passed (word_at l) count first) first spot.index l₁ first₁
    → NodeOut h l (free s h l) r count spot.index (record { offset = spot.next; size = size }) l₁ first₁
node_out s h l l₁ o r spot first count size first₁ found policy starts v is gone =
    let segs = free s h l in
    let k = spot.index in
    let list = sound_listed s h l found.good o policy in
    let gone₁ : Removed l segs (first_of h) k l₁ first₁ = rw ((free_held s h l first count found starts).are, starts) at gone in
    let node : get_or segs k nowhere ≡ record { offset = spot.next; size = size } = rw (run_node (word_at l) (first_of h) end_mark k segs nowhere list.run v.inside, ← v.stands.ahead, is) refl in
    let range = all_at (InRange s.data_offset h.allocated) k segs nowhere v.inside list.good.ranged in
    let room : InRange s.data_offset h.allocated (record { offset = spot.next; size = size }) = rw node at range in
    let rest : Listed l₁ first₁ s.data_offset h.allocated o (remove_at k segs) = rw (gone₁.bytes, gone₁.starts) (listed_remove _ _ _ _ _ _ list k v.inside) in
    let ends = listed_ends _ _ _ _ _ _ rest in
    record {
      node = node;
      room = rw node at v.room;
      bytes = gone₁.bytes;
      starts = gone₁.starts;
      held =
          run_held l₁ first₁ (count - 1) (remove_at k segs) rest.run ends
          (rw found.counts (sym (length_removed k segs v.inside)));
      small = omega (arith, run_small (word_at l₁) (length l₁) first₁ (remove_at k segs) (omega (arith, rest.limited)) ends rest.run);
      inside = omega (arith, room.below, rest.inside);
      limited = rest.limited;
    }

-- the node's service is that of the list's place
pub serves_out : (h : Header) (l l₁ : List ℕ) (segs : List Segment) (o : Order) (r : Request) (count k first : ℕ) (g : Segment) → NodeOut h l segs r count k g l₁ first
    → serve_from h l₁ first (passed (word_at l₁) (count - 1) first) o r g (rest_of h g (need r)) ≡ serve h l segs o r k
unfolding serve
serves_out h l l₁ segs o r count k first g out = simp (out.node, out.held.are, ← out.bytes, ← out.starts)

-- the two answers of `serve`
module _ {h : Header} {l l₁ : List ℕ} {segs : List Segment} {r : Request} {count k first : ℕ} {g : Segment} (out : NodeOut h l segs r count k g l₁ first) (n : ℕ) (o : Order) (is : n ≡ need r) where
  pub serves_whole : rest_of h g n ≡ None → (next : Header) → next ≡ with_first h first → handed_out next l₁ g.offset g.size r ≡ serve h l segs o r k
  serves_whole e next a = serves_from_whole h l₁ (passed (word_at l₁) (count - 1) first) first n o r g is e next a ∙ serves_out h l l₁ segs o r count k first g out

  pub serves_split : (q : Segment) → rest_of h g n ≡ Some q → (l₂ : List ℕ) (head : ℕ) → Inserted l₁ (passed (word_at l₁) (count - 1) first) first o q l₂ head
      → (linked next : Header) → linked ≡ with_first h head → next ≡ losing linked 8 → handed_out next l₂ g.offset n r ≡ serve h l segs o r k
  serves_split q e l₂ head i linked next a b = serves_from_split h l₁ (passed (word_at l₁) (count - 1) first) first n o r g is q e l₂ head i linked next a b ∙ serves_out h l l₁ segs o r count k first g out
