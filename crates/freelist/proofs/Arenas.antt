-- Soundness of an arena. The test says yes exactly for document 01's sentence, and `free` is the list that the sentence speaks of.
-- What a caller needs of the free segments is said of `sound` and `free` for every policy at once: only the laws of `Frees` go by cases.
-- Assumes nothing.
use mathlib.Core.Path.{◌≡◌, refl, sym, subst}
use Rattle.std.specs.List.{AllByRecursion as Each}
use mathlib.Core.Logic.{◌↔◌}
use mathlib.Core.Bool.{true, ◌&&◌}
use mathlib.Core.List.{List, []}
use Prim.Native.Nat.{ℕ, ◌/◌, ◌≤◌}
use native.Mathlib.Omega.{arith}
use borrow.Author.Tests.{eqb-true, eq-eqb}
use lib.Dec.{eqb}
use lib.ListN.{length}
use Rattle.words.specs.Word.{word_at, size_half, end_mark}
use Rattle.records.specs.Setup.{limit}
use Rattle.records.specs.Head.{Head, head_sound}
use Rattle.records.specs.declared.Order.{Order}
use Rattle.records.specs.declared.Policy.{Policy}
use Rattle.records.specs.declared.Policy.TheVariants.{None, Ordered}
use Rattle.records.specs.declared.Shape.{Shape}
use Rattle.records.specs.declared.Header.{Header}
use Rattle.records.proofs.Facts.{both, head_facts, facts_head}
use Rattle.records.proofs.Rules.{data_past}
use Rattle.records.specs.declared.Segment.{Segment}
use Rattle.freelist.specs.Segs.{Run, Pairwise, Apart, InRange, EndsBy, Listed, sizes}
use Rattle.freelist.specs.Sound.{first_of, list_sound, sound, free_from, free, Disjoint, InOrder, Sound}
use Rattle.freelist.proofs.Listing.{all_map, pairs_map}
use Rattle.freelist.proofs.Meets.{apart_bytes, bytes_apart}
use Rattle.freelist.proofs.Totals.{few, sizes_within}
use Rattle.freelist.proofs.Checks.{checked_listed, listed_checked, listed_run}

-- by a policy, the list from head has exactly these segments
abbrev pub Frees : Policy → List ℕ → ℕ → ℕ → ℕ → List Segment → Type 0
Frees None l head start top segs = (head ≡ end_mark) × (segs ≡ [])
Frees (Ordered o) l head start top segs = Listed l head start top o segs

module _ (l : List ℕ) (head start top : ℕ) where
  list_frees : (f : Policy) → length l ≤ limit → 1 ≤ start → start ≤ top → top ≤ length l → list_sound f start top l head ≡ true → Frees f l head start top (free_from f start top l head)
  list_frees None a b c d e = (eqb-true _ _ e, refl)
  list_frees (Ordered o) a b c d e = checked_listed l head start top o a b c d e

  module _ (segs : List Segment) where
    frees_list : (f : Policy) → Frees f l head start top segs → (list_sound f start top l head ≡ true) × (free_from f start top l head ≡ segs)
    frees_list None k = (eq-eqb _ _ k.0, sym k.1)
    frees_list (Ordered o) k = (listed_checked l head start top o segs k, listed_run l head start top o segs k)

    pub frees_run : (f : Policy) → Frees f l head start top segs → Run (word_at l) head segs end_mark
    frees_run None k = rw k.1 k.0
    frees_run (Ordered o) k = k.run

    pub frees_ranged : (f : Policy) → Frees f l head start top segs → Each (InRange start top) segs
    frees_ranged None k = rw k.1 tt
    frees_ranged (Ordered o) k = k.good.ranged

    frees_apart : (f : Policy) → Frees f l head start top segs → Pairwise Apart segs
    frees_apart None k = rw k.1 tt
    frees_apart (Ordered o) k = k.good.apart

    frees_ordered : (f : Policy) → Frees f l head start top segs → InOrder f segs
    frees_ordered None k = k.1
    frees_ordered (Ordered o) k = k.good.sorted

    pub make_frees : (f : Policy) → length l ≤ limit → 1 ≤ start → start ≤ top → top ≤ length l → Run (word_at l) head segs end_mark → Each (InRange start top) segs → Pairwise Apart segs → InOrder f segs → Frees f l head start top segs
    make_frees None a b c d r g p i = (rw i at r, i)
    make_frees (Ordered o) a b c d r g p i =
        record { limited = a; starts = b; ordered = c; inside = d; run = r; good = record { ranged = g; apart = p; sorted = i } }

module _ (s : Shape) (h : Header) (l : List ℕ) where
  pub head_numbers : Head s h (length l) → (length l ≤ limit) × (1 ≤ s.data_offset) × (s.data_offset ≤ h.allocated) × (h.allocated ≤ length l)
  head_numbers k =
      (omega (arith, k.whole, k.within), rw k.start (data_past s.reserved s.unify), k.above, omega (arith, k.whole, k.below))

  pub frees_sound : Head s h (length l) → size_half h.sentinel ≡ end_mark → (segs : List Segment) → Frees s.policy l (first_of h) s.data_offset h.allocated segs
      → (sound s h l ≡ true) × (free s h l ≡ segs)
  unfolding sound free
  frees_sound k m segs f =
      let r = frees_list l (first_of h) s.data_offset h.allocated segs s.policy f in
      (rw (facts_head s h (length l) k, eq-eqb (size_half h.sentinel) end_mark m) r.0, r.1)

  module _ (yes : sound s h l ≡ true) where
    tests : (head_sound s h (length l) ≡ true) × (eqb (size_half h.sentinel) end_mark ≡ true) × (list_sound s.policy s.data_offset h.allocated l (first_of h) ≡ true)
    unfolding sound
    tests =
        let a = both (head_sound s h (length l) && eqb (size_half h.sentinel) end_mark) (list_sound s.policy s.data_offset h.allocated l (first_of h)) yes in
        let b = both (head_sound s h (length l)) (eqb (size_half h.sentinel) end_mark) a.0 in
        (b.0, b.1, a.1)

    pub sound_head : Head s h (length l)
    sound_head = head_facts s h (length l) tests.0

    pub sound_marked : size_half h.sentinel ≡ end_mark
    sound_marked = eqb-true _ _ tests.1

    pub sound_frees : Frees s.policy l (first_of h) s.data_offset h.allocated (free s h l)
    unfolding free
    sound_frees =
        let n = head_numbers sound_head in
        list_frees l (first_of h) s.data_offset h.allocated s.policy n.0 n.1 n.2 n.3 tests.2

    -- under an ordered policy: a list of the order
    pub sound_listed : (o : Order) → s.policy ≡ Ordered o → Listed l (first_of h) s.data_offset h.allocated o (free s h l)
    sound_listed o e = subst (λ (f : Policy). Frees f l (first_of h) s.data_offset h.allocated (free s h l)) e sound_frees

    -- for every policy: the walk and the segments
    pub sound_run : Run (word_at l) (first_of h) (free s h l) end_mark
    sound_run = frees_run l (first_of h) s.data_offset h.allocated (free s h l) s.policy sound_frees

    pub sound_ranged : Each (InRange s.data_offset h.allocated) (free s h l)
    sound_ranged = frees_ranged l (first_of h) s.data_offset h.allocated (free s h l) s.policy sound_frees

    pub sound_apart : Pairwise Apart (free s h l)
    sound_apart = frees_apart l (first_of h) s.data_offset h.allocated (free s h l) s.policy sound_frees

    pub sound_below : Each (EndsBy h.allocated) (free s h l)
    sound_below = all_map (InRange s.data_offset h.allocated) (EndsBy h.allocated) (λ t r. r.below) (free s h l) sound_ranged

    pub sound_ends : Each (EndsBy (length l)) (free s h l)
    sound_ends =
        let n = head_numbers sound_head in
        all_map (EndsBy h.allocated) (EndsBy (length l)) (λ t k. omega (arith, n.3)) (free s h l) sound_below

    pub sound-sizes : sizes (free s h l) ≤ length l
    sound-sizes =
        let n = head_numbers sound_head in
        omega (arith, n.3, sizes_within s.data_offset h.allocated (free s h l) sound_ranged sound_apart)

    -- 01: so there are at most cap / 16 nodes
    pub sound_few : length (free s h l) ≤ length l / 16
    sound_few =
        let n = head_numbers sound_head in
        omega (arith, n.3, few s.data_offset h.allocated (free s h l) n.1 sound_ranged sound_apart)

-- 01's sentence
module _ (s : Shape) (h : Header) (l : List ℕ) where
  sentence_free : (k : Sound s h l) → (sound s h l ≡ true) × (free s h l ≡ k.segs)
  sentence_free k =
      let n = head_numbers s h l k.head in
      frees_sound s h l k.head k.marked k.segs
      (make_frees l (first_of h) s.data_offset h.allocated k.segs s.policy n.0 n.1 n.2 n.3 k.reaches k.each
      (pairs_map Disjoint Apart (InRange s.data_offset h.allocated) (λ a b p q. bytes_apart a b) k.segs k.each k.apart) k.ordered)

  sound_sentence : sound s h l ≡ true → Sound s h l
  sound_sentence e =
      record {
        head = sound_head s h l e;
        marked = sound_marked s h l e;
        segs = free s h l;
        reaches = sound_run s h l e;
        each = sound_ranged s h l e;
        apart = pairs_map Apart Disjoint (InRange s.data_offset h.allocated) (λ a b p q. apart_bytes a b) (free s h l) (sound_ranged s h l e) (sound_apart s h l e);
        ordered = frees_ordered l (first_of h) s.data_offset h.allocated (free s h l) s.policy (sound_frees s h l e);
      }

  -- the test says yes exactly for it
  pub sound_iff : (sound s h l ≡ true) ↔ Sound s h l
  sound_iff = (sound_sentence, λ k. (sentence_free k).0)

  -- and the segments that it speaks of are the free ones
  pub sound_segs : (k : Sound s h l) → k.segs ≡ free s h l
  sound_segs k = sym (sentence_free k).1
