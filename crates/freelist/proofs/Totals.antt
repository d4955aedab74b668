-- Segments that share no byte have no more bytes together than the room they lie in, and so there are not many.
-- The segments are sorted by address, by `sorted_insert`; in a sorted list the sum is a plain induction.
-- Assumes nothing.
use mathlib.Core.Path.{◌≡◌, refl}
use Rattle.std.specs.List.{AllByRecursion as Each}
use mathlib.Core.Logic.{inl, inr}
use mathlib.Core.Bool.{Bool, true, false}
use mathlib.Core.List.{List, [], ◌∷◌}
use Prim.Native.Nat.{ℕ, zero, suc, ◌+◌, ◌*◌, ◌/◌, ◌≤◌}
use native.Mathlib.Omega.{arith}
use borrow.Author.Tests.{leb-true, leb-false, le-leb}
use lib.Dec.{leb}
use lib.ListN.{length}
use Rattle.std.proofs.lemmas.List.Sums.{sum_by-cons}
use Rattle.words.proofs.Ranges.{Parted}
use Rattle.records.specs.declared.Segment.{Segment}
use Rattle.freelist.specs.Segs.{Pairwise, Apart, InRange, end_of, sizes}
use Rattle.freelist.specs.Place.{place, insert_at}
use Rattle.freelist.proofs.Listing.{all_map, all_both, pairs_map}
use Rattle.freelist.proofs.Places.{all_insert, sorted_insert, So}

-- `room` says how many bytes from its offset on a segment is taken to have
module _ (room : Segment → ℕ) where
  abbrev pub total : List Segment → ℕ
  total [] = 0
  total (s ∷ ss) = room s + total ss

  abbrev pub Clear : Segment → Segment → Type 0
  Clear s t = Parted s.offset (s.offset + room s) t.offset (t.offset + room t)

  abbrev pub Within : ℕ → ℕ → Segment → Type 0
  Within lo hi s = (lo ≤ s.offset) × (s.offset + room s ≤ hi)

  clear : Segment → Segment → Bool
  clear s t = leb (s.offset + room s) t.offset

  clear_trans : (s t u : Segment) → clear s t ≡ true → clear t u ≡ true → clear s u ≡ true
  unfolding clear
  clear_trans s t u h k = omega (arith, leb-true, le-leb)

  clear_other : (s t : Segment) → Clear s t → clear s t ≡ false → clear t s ≡ true
  unfolding clear
  clear_other s t (inl h) e = absurd (omega (arith, leb-false))
  clear_other s t (inr h) e = omega (arith, le-leb)

  -- by address
  sort : List Segment → List Segment
  sort [] = []
  sort (s ∷ ss) = insert_at (place (clear s) (sort ss)) s (sort ss)

  all_sort : (P : Segment → Type 0) (ss : List Segment) → Each P ss → Each P (sort ss)
  unfolding sort
  all_sort P [] a = tt
  all_sort P (s ∷ ss) a = all_insert P (place (clear s) (sort ss)) s (sort ss) a.0 (all_sort P ss a.1)

  sorted_sort : (ss : List Segment) → Pairwise Clear ss → Pairwise (So clear) (sort ss)
  unfolding sort
  sorted_sort [] h = tt
  sorted_sort (s ∷ ss) h =
      sorted_insert clear clear_trans s (sort ss)
      (all_map (Clear s) (λ t. clear s t ≡ false → clear t s ≡ true) (λ t. clear_other s t) (sort ss) (all_sort (Clear s) ss h.0))
      (sorted_sort ss h.1)

  pub total_insert : (k : ℕ) (q : Segment) (ss : List Segment) → total (insert_at k q ss) ≡ room q + total ss
  total_insert zero q ss = refl
  total_insert (suc k) q [] = refl
  total_insert (suc k) q (s ∷ ss) = omega (arith, total_insert k q ss)

  total_sort : (ss : List Segment) → total (sort ss) ≡ total ss
  unfolding sort
  total_sort [] = refl
  total_sort (s ∷ ss) = omega (arith, total_insert (place (clear s) (sort ss)) s (sort ss), total_sort ss)

  total_sorted : (lo hi : ℕ) (ss : List Segment) → lo ≤ hi → Pairwise (So clear) ss → Each (Within lo hi) ss → lo + total ss ≤ hi
  unfolding clear
  total_sorted lo hi [] h p a = omega arith
  total_sorted lo hi (s ∷ ss) h p a =
      let m = s.offset + room s in
      let later = all_both (So clear s) (Within lo hi) (Within m hi) (λ t c w. (omega (arith, leb-true), w.1)) ss p.0 a.1 in
      omega (arith, total_sorted m hi ss a.0.1 p.1 later)

  pub total_within : (lo hi : ℕ) (ss : List Segment) → lo ≤ hi → Pairwise Clear ss → Each (Within lo hi) ss → lo + total ss ≤ hi
  total_within lo hi ss h p a =
      omega (arith, total_sort ss, total_sorted lo hi (sort ss) h (sorted_sort ss p) (all_sort (Within lo hi) ss a))

  -- segments of an arena that are apart, where each has so many bytes before the next
  pub total_apart : (start top lo hi : ℕ) (ss : List Segment) → lo ≤ hi → ((s t : Segment) → InRange start top s → InRange start top t → end_of s ≤ t.offset → s.offset + room s ≤ t.offset)
      → ((s : Segment) → InRange start top s → Within lo hi s) → Each (InRange start top) ss → Pairwise Apart ss → lo + total ss ≤ hi
  total_apart start top lo hi ss h next in-room a p =
      total_within lo hi ss h (pairs_map Apart Clear (InRange start top) each ss a p) (all_map (InRange start top) (Within lo hi) in-room ss a)
    where
      each : (s t : Segment) → InRange start top s → InRange start top t → Apart s t → Clear s t
      each s t q r (inl k) = inl (next s t q r k)
      each s t q r (inr k) = inr (next t s r q k)

-- a node stands at a multiple of 8 and has 9 bytes at least, so 16 bytes from its offset on are its own
sixteen : Segment → ℕ
sixteen s = 16

sixteens : (ss : List Segment) → total sixteen ss ≡ length ss * 16
unfolding sixteen
sixteens [] = refl
sixteens (s ∷ ss) = omega (arith, sixteens ss)

-- an arena whose data starts past its first byte has at most top / 16 nodes
pub few : (start top : ℕ) (ss : List Segment) → 1 ≤ start → Each (InRange start top) ss → Pairwise Apart ss → length ss ≤ top / 16
unfolding sixteen
few start top [] h a p = omega arith
few start top (s ∷ ss) h a p =
    omega (arith, sixteens (s ∷ ss), total_apart sixteen start top 8 (top + 7) (s ∷ ss) (omega (arith, a.0)) (λ t u q r k. omega arith) (λ t r. (omega arith, omega arith)) a p)

-- the bytes of good segments together
whole : Segment → ℕ
whole s = 8 + s.size

sizes_whole : (ss : List Segment) → sizes ss ≤ total whole ss
unfolding whole
sizes_whole [] = omega arith
sizes_whole (s ∷ ss) = omega (arith, sum_by-cons (λ (t : Segment). t.size) s ss, sizes_whole ss)

pub sizes_within : (start top : ℕ) (ss : List Segment) → Each (InRange start top) ss → Pairwise Apart ss → sizes ss ≤ top
unfolding whole
sizes_within start top ss a p =
    omega (arith, sizes_whole ss, total_apart whole start top 0 top ss (omega arith) (λ t u q r k. omega arith) (λ t r. (omega arith, omega arith)) a p)
