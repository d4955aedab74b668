-- A request keeps the invariant. From the top, the new block lies between the old top and the new one, where nothing is. From the list, a segment
-- leaves it and the new block lies inside that segment, before the rest that may go back; so it is apart from all that was apart from the segment.
-- Assumes nothing.
use Prim.Native.Nat.{ℕ, ◌+◌, ◌-◌, ◌≤◌, ◌<◌}
use Rattle.std.specs.List.{AllByRecursion as Each}
use Rattle.std.specs.Prelude.{Option, Some, None as Refused}
use mathlib.Core.Path.{◌≡◌, refl, sym, ap}
use mathlib.Core.Logic.{inl, inr}
use mathlib.Core.Bool.{true, not}
use mathlib.Core.List.{List, ◌∷◌}
use native.Mathlib.Omega.{arith}
use borrow.Author.Tests.{leb-true, not-false}
use lib.Dec.{leb}
use lib.ListN.{length, get_or}
use Rattle.words.specs.Word.{node_word, zeroed, end_mark}
use Rattle.words.proofs.Ranges.{parted_flip}
use Rattle.words.proofs.Digits.{word_next}
use Rattle.records.specs.Answer.{Outcome, granted, nothing}
use Rattle.records.specs.Head.{head_sound}
use Rattle.records.specs.Rule.{segment_of}
use Rattle.records.specs.Change.{with_top, with_first, losing}
use Rattle.records.specs.declared.Order.{Order}
use Rattle.records.specs.declared.Policy.TheVariants.{Ordered}
use Rattle.records.specs.declared.Shape.{Shape}
use Rattle.records.specs.declared.Header.{Header}
use Rattle.records.specs.declared.Block.{Block}
use Rattle.records.specs.declared.Request.{Request}
use Rattle.records.specs.declared.Segment.{Segment}
use Rattle.records.proofs.Facts.{pick_either}
use Rattle.records.proofs.Rules.{Cut, cut_of}
use Rattle.requests.specs.Request.{well_formed, plain, for_nothing, want, need, top_block, zeroed_from, list_block}
use Rattle.requests.proofs.Plans.{block_in_top, block_in_list, zeroed_from_top, zeroed_to_want, plain_formed, need_some, want_above}
use Rattle.freelist.specs.Segs.{InRange, EndsBy, Apart, leads, end_of}
use Rattle.freelist.specs.Place.{place, insert_at, remove_at}
use Rattle.freelist.specs.Link.{insert_bytes, insert_head, remove_bytes, remove_head}
use Rattle.freelist.specs.Sound.{first_of, sound}
use Rattle.freelist.proofs.Listing.{all_map}
use Rattle.freelist.proofs.Places.{all_at, all_insert, pairs_without}
use Rattle.freelist.proofs.Meets.{OffSeg, apart_sym}
use Rattle.freelist.proofs.Links.{remove_small}
use Rattle.freelist.proofs.Sounds.{rest_apart}
use Rattle.arena.specs.Take.{from_top, serve_from, nowhere, serve, taking}
use Rattle.calls.specs.declared.Call.TheVariants.{Take}
use Rattle.promise.specs.Runs.{State, free_in}
use Rattle.promise.proofs.Blocks.{hull_end, OffBlock, Placed, Clear, segs_off, blocks_off}
use Rattle.promise.proofs.Holding.{Holding, Onward, Kept, onward_then, hold_head, hold_ranged, hold_parted, hold_below, hold_good, hold_top, hold_granted, hold_insert, hold_remove}
use Rattle.promise.proofs.Looks.{past_each}
use Rattle.promise.proofs.Cases.{Left, left_onward, left_quiet, left_refused}

-- the blocks of requests lie in the ranges that serve them
top_placed : (top : ℕ) (r : Request) → well_formed r ≡ true → top < want top r → Placed top (want top r) (top_block top r)
top_placed top r formed more = let b = block_in_top top r formed in omega arith

list_placed : (p m : ℕ) (r : Request) → well_formed r ≡ true → 1 ≤ need r → need r ≤ m → Placed p (p + 8 + m) (list_block p m r)
list_placed p m r formed some fits = let b = block_in_list p m r formed fits in omega arith

module _ {s : Shape} {h : Header} {l : List ℕ} {segs : List Segment} {held : List Block} (k : Holding s h l segs held) (r : Request) (formed : well_formed r ≡ true) where
  -- the top serves the request
  topped : h.allocated < want h.allocated r → want h.allocated r ≤ s.cap
      → Onward s l held (with_top h (want h.allocated r)) (zeroed l (zeroed_from h.allocated r) (want h.allocated r)) segs (top_block h.allocated r ∷ held)
  topped more room =
      let top = h.allocated in
      let end = want top r in
      let raised =
      hold_top k (with_top h end) refl (omega (arith, (hold_head k).above)) room (all_map (EndsBy top) (EndsBy end) (λ g e. omega arith) segs (hold_below k))
      (all_map (Placed s.data_offset top) (λ b. hull_end b ≤ end) (λ b p. omega (arith, p.below)) held k.placed) in
      hold_granted raised top end (zeroed_from top r) end (top_block top r) (top_placed top r formed more) (hold_head k).above (omega arith) (zeroed_from_top top r formed)
      (zeroed_to_want top r formed) (omega arith) (all_map (EndsBy top) (OffSeg top end) (λ g. inr) segs (hold_below k))
      (all_map (Placed s.data_offset top) (OffBlock top end) (λ b p. inr p.below) held k.placed)

  -- the i-th segment leaves the list and serves the request, as a whole or up to a rest that goes back
  module _ (o : Order) (policy : s.policy ≡ Ordered o) (some : 1 ≤ need r) (i : ℕ) (there : i < length segs) (fits : need r ≤ (get_or segs i nowhere).size) where
    abbrev g : Segment
    g = get_or segs i nowhere

    abbrev left : List Segment
    left = remove_at i segs

    range : InRange s.data_offset h.allocated g
    range = all_at (InRange s.data_offset h.allocated) i segs nowhere there (hold_ranged k)

    -- nothing else has a byte of it
    others : Each (OffSeg g.offset (end_of g)) left
    others =
        all_map (λ t. Apart t g) (Apart g) (λ t. apart_sym t g) left
        (pairs_without Apart apart_sym i segs nowhere there (hold_parted k))

    blocks : Each (OffBlock g.offset (end_of g)) held
    blocks =
        all_map (λ b. Each (Clear b) segs) (OffBlock g.offset (end_of g)) (λ b c. parted_flip b.memory_offset (hull_end b) g.offset (end_of g) (all_at (Clear b) i segs nowhere there c)) held
        k.clear

    abbrev out : Header
    out = with_first h (remove_head (first_of h) segs i)

    without : Onward s l held out (remove_bytes l segs i) left held
    without = hold_remove k out refl i there refl

    served_whole : Onward s l held out (zeroed (remove_bytes l segs i) (g.offset + 8) (g.offset + 8 + need r)) left (list_block g.offset g.size r ∷ held)
    served_whole =
        onward_then without
        (hold_granted without.holding g.offset (end_of g) (g.offset + 8) (g.offset + 8 + need r) (list_block g.offset g.size r)
        (list_placed g.offset g.size r formed some fits) range.above range.below (omega arith) (omega arith) (omega arith) others blocks)

    -- the list without the segment starts where the sentinel says
    first_out : first_of out ≡ remove_head (first_of h) segs i
    first_out =
        let n = hold_head k in
        word_next end_mark (remove_head (first_of h) segs i) (remove_small h.allocated (first_of h) segs i (omega (arith, n)) (hold_below k) (omega arith))

    module _ (q : Segment) (c : Cut (g.offset + 8 + need r) (g.size - need r) q) where
      abbrev at : ℕ
      at = place (leads o q) left

      abbrev back : Header
      back = losing (with_first h (insert_head (remove_head (first_of h) segs i) left at q)) 8

      with_rest : Onward s (remove_bytes l segs i) held back (insert_bytes (remove_bytes l segs i) left at q) (insert_at at q left) held
      with_rest =
          hold_insert without.holding back refl o policy q
          (record { aligned = c.aligned; above = omega (arith, range.above, c.low); holds = c.holds; below = omega (arith, range.below, c.ends) })
          (rest_apart i segs nowhere q there (hold_parted k) (omega (arith, c.low)) (omega (arith, c.ends)))
          (all_map (OffBlock q.offset (end_of q)) (λ b. Clear b q) (λ b. parted_flip q.offset (end_of q) b.memory_offset (hull_end b)) held
          (blocks_off g.offset (end_of g) q.offset (end_of q) (omega (arith, c.low)) (omega (arith, c.ends)) held blocks))
          (ap (λ (x : ℕ). node_word end_mark (insert_head x left at q)) (sym first_out))

      served_split : Onward s l held back (zeroed (insert_bytes (remove_bytes l segs i) left at q) (g.offset + 8) (g.offset + 8 + need r)) (insert_at at q left) (list_block g.offset (need r) r ∷ held)
      served_split =
          let a = g.offset in
          let e = g.offset + 8 + need r in
          onward_then without
          (onward_then with_rest
          (hold_granted with_rest.holding a e (a + 8) e (list_block a (need r) r) (list_placed a (need r) r formed some (omega arith)) range.above (omega (arith, range.below)) (omega arith)
          (omega arith) (omega arith) (all_insert (OffSeg a e) at q left (inl c.low) (segs_off a (end_of g) a e (omega arith) (omega arith) left others))
          (blocks_off a (end_of g) a e (omega arith) (omega arith) held blocks)))

module _ {s : Shape} {st : State} (k : Kept s st) (r : Request) where
  -- a request that the i-th segment serves
  list_left : (o : Order) → s.policy ≡ Ordered o → (p : Request) → well_formed p ≡ true → 1 ≤ need p
      → (i : ℕ) → i < length (free_in s st) → need p ≤ (get_or (free_in s st) i nowhere).size
      → Left s st (Take r) (serve st.header st.bytes (free_in s st) o p i)
  unfolding serve serve_from
  list_left o policy p formed some i there fits = go _ refl
    where
      go : (x : Option Segment) → segment_of st.header.minimum_segment_size ((get_or (free_in s st) i nowhere).offset + 8 + need p) ((get_or (free_in s st) i nowhere).size - need p) ≡ x
          → Left s st (Take r) (serve_from st.header (remove_bytes st.bytes (free_in s st) i) (remove_head (first_of st.header) (free_in s st) i) (remove_at i (free_in s st)) o p (get_or (free_in s st) i nowhere) x)
      go Refused e = left_onward k (Take r) (granted _) (λ b held stays. held) (served_whole k.holding p formed o policy some i there fits)
      go (Some q) e =
          left_onward k (Take r) (granted _) (λ b held stays. held)
          (served_split k.holding p formed o policy some i there fits q (cut_of _ _ _ q e))

  pub take_left : Left s st (Take r) (taking s st.header st.bytes r)
  unfolding taking from_top
  take_left =
      let P : Outcome → Type 0 = Left s st (Take r) in
      let top = st.header.allocated in
      pick_either P s.read_only _ _ (λ _. left_refused k (Take r) _ _)
      (λ _. pick_either P (not (well_formed r)) _ _ (λ _. left_refused k (Take r) _ _)
      (λ good. pick_either P (not (head_sound s st.header (length st.bytes))) _ _ (λ _. left_refused k (Take r) _ _)
      (λ _. pick_either P (for_nothing (plain r)) _ _ (λ _. left_quiet k (Take r) nothing st.header k)
      (λ some. let formed = plain_formed r (not-false _ good) in pick_either P (leb (want top (plain r)) s.cap) _ _
      (λ room. left_onward k (Take r) (granted _) (λ b held stays. held) (topped k.holding (plain r) formed (want_above top r (not-false _ good) some) (leb-true _ _ room)))
      (λ _. pick_either P (not (sound s st.header st.bytes)) _ _ (λ _. left_refused k (Take r) _ _)
      (λ _. past_each s st.header st.bytes (hold_good k.holding) (plain r) P (λ carried _. left_refused k (Take r) _ _) (λ carried _. left_refused k (Take r) _ _)
      (λ o policy i x. list_left o policy (plain r) formed (need_some r (not-false _ good) some) i x.0 x.1)))))))
