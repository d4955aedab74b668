-- The invariant of a day of calls: the arena is sound; each held block's hull lies between data offset and top; the hulls are apart from each other
-- and from every free segment. It is taken through the small changes that every call is made of: blocks let go, the top or a counter moved, bytes
-- changed that are no node's, the list emptied, a segment put in or taken out, a block granted in a range that is nobody's. Where one of these changes
-- bytes, none of a held block's is among them. Assumes nothing.
use Prim.Native.Nat.{ℕ, ◌+◌, ◌≤◌, ◌<◌}
use Rattle.std.specs.List.{AllByRecursion as Each}
use mathlib.Core.Path.{◌≡◌, refl, sym, subst, ◌∙◌}
use mathlib.Core.Bool.{Bool, true, false}
use mathlib.Core.List.{List, [], ◌∷◌, Memᴰ}
use native.Mathlib.Omega.{arith}
use lib.ListN.{length}
use Rattle.words.specs.Word.{zeroed, node_word, end_mark}
use Rattle.words.proofs.Ranges.{parted_flip, parted_parts}
use Rattle.words.proofs.Stills.{zeroed_still}
use Rattle.records.specs.Head.{Head}
use Rattle.records.specs.declared.Order.{Order}
use Rattle.records.specs.declared.Policy.TheVariants.{Ordered}
use Rattle.records.specs.declared.Shape.{Shape}
use Rattle.records.specs.declared.Header.{Header}
use Rattle.records.specs.declared.Block.{Block}
use Rattle.records.specs.declared.Segment.{Segment}
use Rattle.freelist.specs.Segs.{Pairwise, InRange, EndsBy, Apart, Good, leads, end_of}
use Rattle.freelist.specs.Place.{place, insert_at, remove_at}
use Rattle.freelist.specs.Link.{insert_bytes, insert_head, remove_bytes, remove_head}
use Rattle.freelist.specs.Sound.{first_of, sound, free}
use Rattle.freelist.proofs.Listing.{all_map, all_both}
use Rattle.freelist.proofs.Places.{all_insert, all_remove, all_mem}
use Rattle.freelist.proofs.Meets.{OffSeg}
use Rattle.freelist.proofs.Words.{Agree, Outside}
use Rattle.freelist.proofs.Stills.{insert_still, remove_still}
use Rattle.freelist.proofs.Arenas.{sound_head, sound_listed, sound_ranged, sound_apart, sound_below, sound_ends}
use Rattle.freelist.proofs.Moves.{sound_empty, sound_top, sound_agree, sound-zeroed, sound_insert, sound_remove}
use Rattle.promise.specs.Runs.{State, free_in, only}
use Rattle.promise.proofs.Members.{only_all, only_pairs}
use Rattle.promise.proofs.Blocks.{hull_end, OffBlock, Placed, Asunder, Clear, Untouched, placed_under, segs_off, blocks_off}

-- with this header and these bytes the arena is sound and has these free segments, and these blocks are held
pub record Holding (s : Shape) (h : Header) (l : List ℕ) (segs : List Segment) (held : List Block) : Type 0 where
  pub sounds : sound s h l ≡ true
  pub lists : free s h l ≡ segs
  pub placed : Each (Placed s.data_offset h.allocated) held
  pub apart : Pairwise Asunder held
  pub clear : Each (λ b. Each (Clear b) segs) held

-- the invariant of a state
pub record Kept (s : Shape) (st : State) : Type 0 where
  pub writable : s.read_only ≡ false
  pub holding : Holding s st.header st.bytes (free_in s st) st.held

pub keeps : {s : Shape} {h : Header} {l : List ℕ} {segs : List Segment} {held : List Block} → s.read_only ≡ false → Holding s h l segs held → Kept s (record { header = h; bytes = l; held = held })
keeps {s} {h} {l} {segs} {held} writable k =
    record { writable = writable; holding = subst (λ (gs : List Segment). Holding s h l gs held) (sym k.lists) k }

-- a change of the bytes l to l' that leads to this, and leaves the bytes of the blocks held before
pub record Onward (s : Shape) (l : List ℕ) (before : List Block) (h : Header) (l' : List ℕ) (segs : List Segment) (held : List Block) : Type 0 where
  pub holding : Holding s h l' segs held
  pub still : (b : Block) → Memᴰ b before → Untouched b l l'

-- one such change after another
pub onward_then : {s : Shape} {l l₁ l₂ : List ℕ} {before held : List Block} {h₁ h₂ : Header} {segs₁ segs₂ : List Segment}
    → Onward s l before h₁ l₁ segs₁ before → Onward s l₁ before h₂ l₂ segs₂ held → Onward s l before h₂ l₂ segs₂ held
onward_then a b = record { holding = b.holding; still = λ c m x low high. b.still c m x low high ∙ a.still c m x low high }

module _ {s : Shape} {h : Header} {l : List ℕ} {segs : List Segment} {held : List Block} (k : Holding s h l segs held) where
  pub hold_head : Head s h (length l)
  hold_head = sound_head s h l k.sounds

  pub hold_ranged : Each (InRange s.data_offset h.allocated) segs
  hold_ranged = rw k.lists at (sound_ranged s h l k.sounds)

  pub hold_parted : Pairwise Apart segs
  hold_parted = rw k.lists at (sound_apart s h l k.sounds)

  pub hold_below : Each (EndsBy h.allocated) segs
  hold_below = rw k.lists at (sound_below s h l k.sounds)

  hold_ends : Each (EndsBy (length l)) segs
  hold_ends = rw k.lists at (sound_ends s h l k.sounds)

  pub hold_good : (o : Order) → s.policy ≡ Ordered o → Good s.data_offset h.allocated o segs
  hold_good o policy = subst (λ (gs : List Segment). Good s.data_offset h.allocated o gs) k.lists (sound_listed s h l k.sounds o policy).good

  -- what is known of a held block
  module _ (b : Block) (mem : Memᴰ b held) where
    pub held_placed : Placed s.data_offset h.allocated b
    held_placed = all_mem (Placed s.data_offset h.allocated) b held mem k.placed

    pub held_clear : Each (Clear b) segs
    held_clear = all_mem (λ c. Each (Clear c) segs) b held mem k.clear

  -- some blocks are held no more
  pub hold_only : (f : Block → Bool) → Holding s h l segs (only f held)
  hold_only f =
      record {
        sounds = k.sounds;
        lists = k.lists;
        placed = only_all f (Placed s.data_offset h.allocated) held k.placed;
        apart = only_pairs f Asunder held k.apart;
        clear = only_all f (λ b. Each (Clear b) segs) held k.clear;
      }

  -- the top moves to where neither segment nor block passes it
  pub hold_top : (h' : Header) → h'.sentinel ≡ h.sentinel → s.data_offset ≤ h'.allocated → h'.allocated ≤ s.cap
      → Each (EndsBy h'.allocated) segs → Each (λ b. hull_end b ≤ h'.allocated) held → Holding s h' l segs held
  hold_top h' same low high ends hulls =
      let m = sound_top s h l k.sounds h' same low (omega (arith, hold_head.whole)) (rw k.lists ends) in
      record {
        sounds = m.0;
        lists = m.1 ∙ k.lists;
        placed =
            all_both (λ b. hull_end b ≤ h'.allocated) (Placed s.data_offset h.allocated) (Placed s.data_offset h'.allocated)
            (placed_under h'.allocated) held hulls k.placed;
        apart = k.apart;
        clear = k.clear;
      }

  -- a counter moves
  pub hold_counters : (h' : Header) → h'.sentinel ≡ h.sentinel → h'.allocated ≡ h.allocated → Holding s h' l segs held
  hold_counters h' same top =
      hold_top h' same (omega (arith, hold_head)) (omega (arith, hold_head)) (rw top hold_below)
      (all_map (Placed s.data_offset h.allocated) (λ b. hull_end b ≤ h'.allocated) (λ b p. omega (arith, p.below)) held k.placed)

  -- bytes change that are no node's
  pub hold_agree : (m : List ℕ) → length m ≡ length l → Each (Agree l m) segs → Holding s h m segs held
  hold_agree m long same =
      let n = sound_agree s h l k.sounds m long (rw k.lists same) in
      record { sounds = n.0; lists = n.1 ∙ k.lists; placed = k.placed; apart = k.apart; clear = k.clear }

  -- a block is granted in a range that is nobody's, and bytes of the range are zeroed
  pub hold_granted : (a e x y : ℕ) (b : Block) → Placed a e b → s.data_offset ≤ a → e ≤ h.allocated → a ≤ x → x ≤ y → y ≤ e → Each (OffSeg a e) segs → Each (OffBlock a e) held
      → Onward s l held h (zeroed l x y) segs (b ∷ held)
  hold_granted a e x y b p low high from order to off others =
      let fits : y ≤ length l = omega (arith, hold_head) in
      let n = sound-zeroed s h l k.sounds x y order fits (rw k.lists (all_map (OffSeg a e) (Outside x y) eight segs off)) in
      record {
        holding =
            record {
              sounds = n.0;
              lists = n.1 ∙ k.lists;
              placed = (record { some = p.some; above = omega (arith, p.above); usable = p.usable; below = omega (arith, p.below) }, k.placed);
              apart = (blocks_off a e _ _ p.above p.below held others, k.apart);
              clear = (segs_off a e _ _ p.above p.below segs off, k.clear);
            };
        still =
            λ c m. zeroed_still _ _ l x y order fits (parted_flip x y _ _ (all_mem (OffBlock x y) c held m (blocks_off a e x y from to held others)));
      }
    where
      eight : (g : Segment) → OffSeg a e g → Outside x y g
      eight g u = parted_parts g.offset (g.offset + 8) x y (omega arith) (omega arith) from to (parted_flip a e g.offset (end_of g) u)

  module _ (h' : Header) (top : h'.allocated ≡ h.allocated) where
    -- the list is emptied
    pub hold_emptied : h'.sentinel ≡ node_word end_mark end_mark → Holding s h' l [] held
    hold_emptied e =
        let m = hold_head in
        let n = sound_empty s h' l (record { whole = m.whole; within = m.within; start = m.start; above = rw top m.above; below = rw top m.below }) e in
        record {
          sounds = n.0;
          lists = n.1;
          placed = rw top k.placed;
          apart = k.apart;
          clear = all_map (λ b. Each (Clear b) segs) (λ b. Each (Clear b) []) (λ b a. tt) held k.clear;
        }

    -- a segment is put in that no block has a byte of
    pub hold_insert : (o : Order) → s.policy ≡ Ordered o → (q : Segment) → InRange s.data_offset h.allocated q → Each (λ t. Apart t q) segs → Each (λ b. Clear b q) held
        → h'.sentinel ≡ node_word end_mark (insert_head (first_of h) segs (place (leads o q) segs) q)
        → Onward s l held h' (insert_bytes l segs (place (leads o q) segs) q) (insert_at (place (leads o q) segs) q segs) held
    hold_insert o policy q range off c e =
        let i = place (leads o q) segs in
        let n = sound_insert s h l k.sounds h' (insert_bytes l segs i q) top o policy q range (rw k.lists off) (rw k.lists e) (rw k.lists refl) in
        record {
          holding =
              record {
                sounds = n.0;
                lists = rw k.lists at n.1;
                placed = rw top k.placed;
                apart = k.apart;
                clear = all_both (λ b. Clear b q) (λ b. Each (Clear b) segs) (λ b. Each (Clear b) (insert_at i q segs)) (λ b. all_insert (Clear b) i q segs) held c k.clear;
              };
          still =
              λ b m. insert_still _ _ l segs i hold_ends (held_clear b m) q (omega (arith, range.below, hold_head)) (all_mem (λ x. Clear x q) b held m c);
        }

    -- the i-th segment is taken out
    pub hold_remove : (i : ℕ) → i < length segs → h'.sentinel ≡ node_word end_mark (remove_head (first_of h) segs i) → Onward s l held h' (remove_bytes l segs i) (remove_at i segs) held
    hold_remove i there e =
        let n = sound_remove s h l k.sounds h' (remove_bytes l segs i) top i (rw k.lists there) (rw k.lists e) (rw k.lists refl) in
        record {
          holding =
              record {
                sounds = n.0;
                lists = rw k.lists at n.1;
                placed = rw top k.placed;
                apart = k.apart;
                clear = all_map (λ b. Each (Clear b) segs) (λ b. Each (Clear b) (remove_at i segs)) (λ b. all_remove (Clear b) i segs) held k.clear;
              };
          still = λ b m. remove_still _ _ l segs i hold_ends (held_clear b m);
        }
