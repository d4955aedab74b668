-- What keeps an arena sound, said of `sound` and `free`: writes outside the nodes' eight bytes, another top, a node put in or taken out, an empty list.
-- The header afterwards is any that has the sentinel and the top that are named. Assumes nothing.
use mathlib.Core.Path.{◌≡◌, refl, sym, ap, ◌∙◌, subst}
use Rattle.std.specs.List.{AllByRecursion as Each}
use mathlib.Core.Bool.{true}
use mathlib.Core.List.{List, []}
use Prim.Native.Nat.{ℕ, ◌≤◌, ◌<◌}
use native.Mathlib.Omega.{arith}
use lib.ListN.{length}
use Rattle.words.specs.Word.{word_at, zeroed, node_word, size_half, end_mark}
use Rattle.words.proofs.Digits.{word_size, word_next, zeroed-length}
use Rattle.records.specs.Head.{Head}
use Rattle.records.specs.declared.Order.{Order}
use Rattle.records.specs.declared.Policy.{Policy}
use Rattle.records.specs.declared.Policy.TheVariants.{None, Ordered}
use Rattle.records.specs.declared.Shape.{Shape}
use Rattle.records.specs.declared.Header.{Header}
use Rattle.records.specs.declared.Segment.{Segment}
use Rattle.freelist.specs.Segs.{Apart, InRange, EndsBy, leads}
use Rattle.freelist.specs.Place.{place, insert_at, remove_at}
use Rattle.freelist.specs.Link.{insert_bytes, insert_head, remove_bytes, remove_head}
use Rattle.freelist.specs.Sound.{first_of, sound, free, InOrder}
use Rattle.freelist.proofs.Listing.{all_map}
use Rattle.freelist.proofs.Places.{mem_all}
use Rattle.freelist.proofs.Words.{Same, Agree, Outside, agree_words, zeroed_words}
use Rattle.freelist.proofs.Links.{run_small, insert_length, remove_length}
use Rattle.freelist.proofs.Sounds.{listed_kept, listed_insert, listed_remove}
use Rattle.freelist.proofs.Arenas.{Frees, make_frees, frees_run, frees_ranged, frees_sound, head_numbers, sound_head, sound_marked, sound_frees, sound_listed, sound_ends, sound_below}

-- an arena with this header and these bytes is sound, and these are its free segments
abbrev pub SoundWith : Shape → Header → List ℕ → List Segment → Type 0
SoundWith s h l segs = (sound s h l ≡ true) × (free s h l ≡ segs)

module _ (l : List ℕ) (head start top : ℕ) (segs : List Segment) where
  frees_kept : (f : Policy) → Frees f l head start top segs → (m : List ℕ) (top' : ℕ) → length m ≡ length l → Each (Same l m) segs → start ≤ top' → top' ≤ length l → Each (EndsBy top') segs → Frees f m head start top' segs
  frees_kept None k m top' e g a b h = k
  frees_kept (Ordered o) k m top' e g a b h = listed_kept start top o l head segs k m top' e g a b h

  frees_remove : (f : Policy) → Frees f l head start top segs → (k : ℕ) → k < length segs → Frees f (remove_bytes l segs k) (remove_head head segs k) start top (remove_at k segs)
  frees_remove None g k h = let e : length segs ≡ 0 = ap length g.1 in absurd (omega arith)
  frees_remove (Ordered o) g k h = listed_remove start top o l head segs g k h

-- a header whose sentinel names x first
module _ (s : Shape) (h : Header) (l : List ℕ) (x : ℕ) (e : h.sentinel ≡ node_word end_mark x) (k : Head s h (length l)) where
  frees_sound_with : (segs : List Segment) → Frees s.policy l x s.data_offset h.allocated segs → SoundWith s h l segs
  frees_sound_with segs f =
      let n = head_numbers s h l k in
      let r = frees_run l x s.data_offset h.allocated segs s.policy f in
      let ends = all_map (InRange s.data_offset h.allocated) (EndsBy (length l)) (λ t g. omega (arith, n.3)) segs (frees_ranged l x s.data_offset h.allocated segs s.policy f) in
      let small = run_small (word_at l) (length l) x segs (omega (arith, n.0)) ends r in
      let size : size_half h.sentinel ≡ end_mark = rw e (word_size end_mark x small) in
      let first : first_of h ≡ x = rw e (word_next end_mark x small) in
      frees_sound s h l k size segs (rw first f)

none_ordered : (f : Policy) → InOrder f []
none_ordered None = refl
none_ordered (Ordered o) = tt

-- 01: an empty list's sentinel has the end mark in both halves
pub sound_empty : (s : Shape) (h : Header) (l : List ℕ) → Head s h (length l) → h.sentinel ≡ node_word end_mark end_mark → SoundWith s h l []
sound_empty s h l k e =
    let n = head_numbers s h l k in
    frees_sound_with s h l end_mark e k []
    (make_frees l end_mark s.data_offset h.allocated [] s.policy n.0 n.1 n.2 n.3 refl tt tt (none_ordered s.policy))

module _ (s : Shape) (h : Header) (l : List ℕ) (yes : sound s h l ≡ true) where
  head_moved : (h' : Header) (m : List ℕ) → length m ≡ length l → s.data_offset ≤ h'.allocated → h'.allocated ≤ length l → Head s h' (length m)
  head_moved h' m e a b =
      let k = sound_head s h l yes in
      record { whole = k.whole ∙ sym e; within = k.within; start = k.start; above = a; below = omega (arith, k.whole) }

  -- the same sentinel, a top that no free segment passes, and bytes with the same nodes' words
  sound-kept : (h' : Header) (m : List ℕ) → h'.sentinel ≡ h.sentinel → s.data_offset ≤ h'.allocated → h'.allocated ≤ length l → Each (EndsBy h'.allocated) (free s h l)
      → length m ≡ length l → Each (Same l m) (free s h l) → SoundWith s h' m (free s h l)
  sound-kept h' m e a b g n f =
      frees_sound s h' m (head_moved h' m n a b) (rw e (sound_marked s h l yes)) (free s h l)
      (rw e (frees_kept l (first_of h) s.data_offset h.allocated (free s h l) s.policy (sound_frees s h l yes) m h'.allocated n f a b g))

  -- another top that no free segment passes, and any counters
  pub sound_top : (h' : Header) → h'.sentinel ≡ h.sentinel → s.data_offset ≤ h'.allocated → h'.allocated ≤ length l → Each (EndsBy h'.allocated) (free s h l) → SoundWith s h' l (free s h l)
  sound_top h' e a b g = sound-kept h' l e a b g refl (mem_all (Same l l) (free s h l) (λ t _. refl))

  sound_words : (m : List ℕ) → length m ≡ length l → Each (Same l m) (free s h l) → SoundWith s h m (free s h l)
  sound_words m =
      let n = head_numbers s h l (sound_head s h l yes) in
      sound-kept h m refl n.2 n.3 (sound_below s h l yes)

  -- bytes that agree on every node's eight; a range zeroed outside them
  pub sound_agree : (m : List ℕ) → length m ≡ length l → Each (Agree l m) (free s h l) → SoundWith s h m (free s h l)
  sound_agree m e f = sound_words m e (agree_words l m e (free s h l) (sound_ends s h l yes) f)

  pub sound-zeroed : (a b : ℕ) → a ≤ b → b ≤ length l → Each (Outside a b) (free s h l) → SoundWith s h (zeroed l a b) (free s h l)
  sound-zeroed a b i k f = sound_words (zeroed l a b) (zeroed-length l a b i k) (zeroed_words l a b i k (free s h l) f)

  module _ (h' : Header) (m : List ℕ) (top : h'.allocated ≡ h.allocated) where
    moved : (x : ℕ) → h'.sentinel ≡ node_word end_mark x → length m ≡ length l → (segs : List Segment) → Frees s.policy m x s.data_offset h.allocated segs → SoundWith s h' m segs
    moved x e n segs f =
        let k = head_numbers s h l (sound_head s h l yes) in
        frees_sound_with s h' m x e (head_moved h' m n (rw top k.2) (rw top k.3)) segs (rw top f)

    -- q put in where the order has it
    pub sound_insert : (o : Order) → s.policy ≡ Ordered o → (q : Segment) → InRange s.data_offset h.allocated q → Each (λ t. Apart t q) (free s h l)
        → h'.sentinel ≡ node_word end_mark (insert_head (first_of h) (free s h l) (place (leads o q) (free s h l)) q)
        → m ≡ insert_bytes l (free s h l) (place (leads o q) (free s h l)) q → SoundWith s h' m (insert_at (place (leads o q) (free s h l)) q (free s h l))
    sound_insert o p q r a e b =
        let segs = free s h l in
        let k = place (leads o q) segs in
        let n = head_numbers s h l (sound_head s h l yes) in
        let size = insert_length l segs (sound_ends s h l yes) k q (omega (arith, n.3)) in
        moved (insert_head (first_of h) segs k q) e (ap length b ∙ size) (insert_at k q segs)
        (subst (λ (f : Policy). Frees f m (insert_head (first_of h) segs k q) s.data_offset h.allocated (insert_at k q segs)) (sym p)
        (rw b (listed_insert s.data_offset h.allocated o l (first_of h) segs (sound_listed s h l yes o p) q r a)))

    -- the k-th taken out
    pub sound_remove : (k : ℕ) → k < length (free s h l) → h'.sentinel ≡ node_word end_mark (remove_head (first_of h) (free s h l) k) → m ≡ remove_bytes l (free s h l) k
        → SoundWith s h' m (remove_at k (free s h l))
    sound_remove k i e b =
        moved (remove_head (first_of h) (free s h l) k) e (ap length b ∙ remove_length l (free s h l) (sound_ends s h l yes) k) (remove_at k (free s h l))
        (rw b (frees_remove l (first_of h) s.data_offset h.allocated (free s h l) s.policy (sound_frees s h l yes) k i))
