-- What keeps a list sound, once over the order: a node put in or taken out, other bytes with the same nodes, another top. What the order promises of the head and of the first that fits.
-- Assumes nothing.
use mathlib.Core.Path.{◌≡◌, refl, sym}
use Rattle.std.specs.List.{AllByRecursion as Each}
use mathlib.Core.Bool.{Bool, true, false}
use mathlib.Core.List.{List, ◌∷◌, Memᴰ}
use Prim.Native.Nat.{ℕ, suc, ◌≤◌, ◌<◌}
use native.Mathlib.Omega.{arith}
use borrow.Author.Tests.{leb-true, leb-false, le-leb}
use lib.Dec.{leb}
use lib.ListN.{length, take, drop, get_or, take-append-drop}
use lib.Seq.{split_at}
use Rattle.words.specs.Word.{word_at, end_mark}
use Rattle.words.proofs.Ranges.{parted_parts}
use Rattle.records.specs.declared.Segment.{Segment}
use Rattle.freelist.specs.Segs.{Pairwise, Apart, InRange, EndsBy, Leads, leads, Good, Listed, end_of}
use Rattle.freelist.specs.Place.{place, insert_at, remove_at}
use Rattle.freelist.specs.Link.{insert_bytes, insert_head, remove_bytes, remove_head}
use Rattle.records.specs.declared.Order.{Order}
use Rattle.records.specs.declared.Order.TheVariants.{Optimistic, Pessimistic}
use Rattle.freelist.proofs.Listing.{all_map, all_both}
use Rattle.freelist.proofs.Places.{all_insert, all_remove, pairs_insert, pairs_remove, sorted_insert, first_leads, pairs_without, all_mem, mem_all}
use Rattle.freelist.proofs.Meets.{apart_sym}
use Rattle.freelist.proofs.Checks.{leads_trans, listed_ends}
use Rattle.freelist.proofs.Runs.{run_agree}
use Rattle.freelist.proofs.Words.{Same}
use Rattle.freelist.proofs.Links.{insert_run, remove_run, insert_length, remove_length}

leads_total : (o : Order) (s t : Segment) → leads o s t ≡ false → leads o t s ≡ true
leads_total Optimistic s t e = omega (arith, leb-false, le-leb)
leads_total Pessimistic s t e = omega (arith, leb-false, le-leb)

leads_same : (o : Order) (s : Segment) → leads o s s ≡ true
leads_same Optimistic s = omega (arith, le-leb)
leads_same Pessimistic s = omega (arith, le-leb)

module _ (start top : ℕ) (o : Order) where
  pub good_insert : (q : Segment) (segs : List Segment) → InRange start top q → Each (λ s. Apart s q) segs → Good start top o segs → Good start top o (insert_at (place (leads o q) segs) q segs)
  good_insert q segs h f g =
      record {
        ranged = all_insert (InRange start top) (place (leads o q) segs) q segs h g.ranged;
        apart = pairs_insert Apart (place (leads o q) segs) q segs f (all_map (λ s. Apart s q) (Apart q) (λ s. apart_sym s q) segs f) g.apart;
        sorted = sorted_insert (leads o) (leads_trans o) q segs (mem_all (λ s. leads o q s ≡ false → leads o s q ≡ true) segs (λ s _. leads_total o q s)) g.sorted;
      }

  pub good_remove : (k : ℕ) (segs : List Segment) → Good start top o segs → Good start top o (remove_at k segs)
  good_remove k segs g =
      record {
        ranged = all_remove (InRange start top) k segs g.ranged;
        apart = pairs_remove Apart k segs g.apart;
        sorted = pairs_remove (Leads o) k segs g.sorted;
      }

  module _ (l : List ℕ) (head : ℕ) (segs : List Segment) (s : Listed l head start top o segs) where
    -- other bytes with the same nodes' words, and another top that no segment passes
    pub listed_kept : (m : List ℕ) (top' : ℕ) → length m ≡ length l → Each (Same l m) segs → start ≤ top' → top' ≤ length l → Each (EndsBy top') segs → Listed m head start top' o segs
    listed_kept m top' e f a b g =
        record {
          limited = rw e s.limited;
          starts = s.starts;
          ordered = a;
          inside = rw e b;
          run = run_agree (word_at l) (word_at m) head end_mark segs f s.run;
          good =
              record {
                ranged = all_both (InRange start top) (EndsBy top') (InRange start top') (λ t r k. record { aligned = r.aligned; above = r.above; holds = r.holds; below = k }) segs s.good.ranged g;
                apart = s.good.apart;
                sorted = s.good.sorted;
              };
        }

    -- q put in where the order has it
    pub listed_insert : (q : Segment) → InRange start top q → Each (λ t. Apart t q) segs
        → Listed (insert_bytes l segs (place (leads o q) segs) q) (insert_head head segs (place (leads o q) segs) q) start top o (insert_at (place (leads o q) segs) q segs)
    unfolding insert_bytes insert_head
    listed_insert q h f =
        let k = place (leads o q) segs in
        let e = take-append-drop k segs in
        let ends = listed_ends l head start top o segs s in
        let fits : end_of q ≤ length l = omega (arith, s.inside) in
        let m = insert_length l segs ends k q fits in
        record {
          limited = rw m s.limited;
          starts = s.starts;
          ordered = s.ordered;
          inside = rw m s.inside;
          run =
              insert_run l (omega (arith, s.limited)) head q (take k segs) (drop k segs) fits (rw e f) (rw e ends) (rw e s.good.apart) (rw e s.run);
          good = good_insert q segs h f s.good;
        }

    -- the k-th taken out
    pub listed_remove : (k : ℕ) → k < length segs → Listed (remove_bytes l segs k) (remove_head head segs k) start top o (remove_at k segs)
    unfolding remove_bytes remove_head
    listed_remove k h =
        let d : Segment = record { offset = 0; size = 0 } in
        let e = sym (split_at segs k d h) in
        let ends = listed_ends l head start top o segs s in
        let m = remove_length l segs ends k in
        record {
          limited = rw m s.limited;
          starts = s.starts;
          ordered = s.ordered;
          inside = rw m s.inside;
          run =
              remove_run l (omega (arith, s.limited)) head (get_or segs k d) (take k segs) (drop (suc k) segs) (rw e ends) (rw e s.good.apart)
              (rw e s.run);
          good = good_remove k segs s.good;
        }

  -- the first node that passes a test stands, by the order, before every other that passes it
  pub first_best : (f : Segment → Bool) (segs : List Segment) (t : Segment) (rest : List Segment) → Good start top o segs → drop (place f segs) segs ≡ t ∷ rest → Each (λ u. f u ≡ true → Leads o t u) segs
  first_best f segs t rest g e = first_leads (leads o) (leads_trans o) (leads_same o) f segs t rest g.sorted e

-- so the head of a falling list is a largest segment, and the first with room in a rising list a smallest with room
module _ (start top : ℕ) where
  pub head_largest : (t : Segment) (rest : List Segment) → Good start top Optimistic (t ∷ rest) → (u : Segment) → Memᴰ u (t ∷ rest) → u.size ≤ t.size
  head_largest t rest g u m =
      leb-true _ _ (all_mem (λ v. true ≡ true → Leads Optimistic t v) u (t ∷ rest) m (first_best start top Optimistic (λ v. true) (t ∷ rest) t rest g refl) refl)

  pub first_smallest : (n : ℕ) (segs : List Segment) (t : Segment) (rest : List Segment) → Good start top Pessimistic segs → drop (place (λ v. leb n v.size) segs) segs ≡ t ∷ rest
      → (u : Segment) → Memᴰ u segs → n ≤ u.size → t.size ≤ u.size
  first_smallest n segs t rest g e u m h =
      leb-true _ _ (all_mem (λ v. leb n v.size ≡ true → Leads Pessimistic t v) u segs m (first_best start top Pessimistic (λ v. leb n v.size) segs t rest g e) (le-leb _ _ h))

-- a segment inside one that left the list is apart from what is left
apart_inside : (t q s : Segment) → t.offset ≤ q.offset → end_of q ≤ end_of t → Apart s t → Apart s q
apart_inside t q s a b = parted_parts s.offset (end_of s) q.offset (end_of q) (omega arith) (omega arith) a b

pub rest_apart : (k : ℕ) (segs : List Segment) (d q : Segment) → k < length segs → Pairwise Apart segs → (get_or segs k d).offset ≤ q.offset → end_of q ≤ end_of (get_or segs k d) → Each (λ s. Apart s q) (remove_at k segs)
rest_apart k segs d q h p a b =
    all_map (λ s. Apart s (get_or segs k d)) (λ s. Apart s q) (λ s. apart_inside (get_or segs k d) q s a b) (remove_at k segs)
    (pairs_without Apart apart_sym k segs d h p)
