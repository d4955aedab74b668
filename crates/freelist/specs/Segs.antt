-- Segments, the walk along their nodes, what a sound list asks of them, and the sum of their sizes.
-- Document 01, 'Words, nodes and a sound arena' and 'Giving back, discarding, rewinding'.
-- `w` gives the word at an offset: it is `word_at l` for the bytes l.
use Rattle.std.specs.Prelude.{◌≡◌, ◌⊎◌, ◌≢◌, Bool, true, List, [], ◌∷◌, ℕ, zero, suc, ◌+◌, ◌%◌, min, max, ◌≤◌, ◌<◌, leb, ltb, length}
use Rattle.std.specs.List.{AllByRecursion as Each, sum_by}
use Rattle.words.specs.Word.{word_at, size_half, next_half, end_mark}
use Rattle.records.specs.Setup.{limit}
use Rattle.records.specs.declared.Order.{Order}
use Rattle.records.specs.declared.Segment.{Segment}
use Rattle.records.specs.declared.Order.TheVariants.{Optimistic, Pessimistic}

-- 01: a node at p with size s covers bytes p to p + 8 + s, the last not included
abbrev pub end_of : Segment → ℕ
end_of s = s.offset + 8 + s.size

abbrev pub Covers : Segment → ℕ → Type 0
Covers s x = (s.offset ≤ x) × (x < end_of s)

-- 01: a node word is size x 2^32 + next. The segment whose node stands at p, and the node after it
abbrev pub seg_at : (ℕ → ℕ) → ℕ → Segment
seg_at w p = record { offset = p; size = size_half (w p) }

abbrev pub next_at : (ℕ → ℕ) → ℕ → ℕ
next_at w p = next_half (w p)

-- following next n times from p: where the walk stands then, and the segments that it passed
abbrev pub followed : (ℕ → ℕ) → ℕ → ℕ → ℕ
followed w zero p = p
followed w (suc n) p = followed w n (next_at w p)

abbrev pub passed : (ℕ → ℕ) → ℕ → ℕ → List Segment
passed w zero p = []
passed w (suc n) p = seg_at w p ∷ passed w n (next_at w p)

-- following next from p passes exactly these segments and stands at q then; 01's 'following next reaches the end mark' has the end mark for q
abbrev pub Run : (ℕ → ℕ) → ℕ → List Segment → ℕ → Type 0
Run w p [] q = p ≡ q
Run w p (s ∷ ss) q = (p ≢ end_mark) × (s ≡ seg_at w p) × Run w (next_at w p) ss q

-- R of each element and each later one
abbrev pub Pairwise : {A : Type 0} → (A → A → Type 0) → List A → Type 0
Pairwise R [] = Unit {0}
Pairwise R (x ∷ xs) = Each (R x) xs × Pairwise R xs

-- 01: each node is a multiple of 8, at least the data offset, has s >= 1 and ends at or below allocated
pub record InRange (start top : ℕ) (s : Segment) : Type 0 where
  pub aligned : s.offset % 8 ≡ 0
  pub above : start ≤ s.offset
  pub holds : 1 ≤ s.size
  pub below : end_of s ≤ top

-- a segment that ends at or below n
abbrev pub EndsBy : ℕ → Segment → Type 0
EndsBy n s = end_of s ≤ n

-- 01: no two segments share a byte: one ends at or before the other's start
abbrev pub Apart : Segment → Segment → Type 0
Apart s t = (end_of s ≤ t.offset) ⊎ (end_of t ≤ s.offset)

-- the bytes from a up to b and those from c up to d have one in common
abbrev pub shares : ℕ → ℕ → ℕ → ℕ → Bool
shares a b c d = ltb (max a c) (min b d)

-- 01: sizes never fall along a pessimistic list and never rise along an optimistic one: s may stand before t
abbrev pub leads : Order → Segment → Segment → Bool
leads Optimistic s t = leb t.size s.size
leads Pessimistic s t = leb s.size t.size

abbrev pub Leads : Order → Segment → Segment → Type 0
Leads o s t = leads o s t ≡ true

-- 01: the sum of data sizes
abbrev pub sizes : List Segment → ℕ
sizes segs = sum_by (λ (s : Segment). s.size) segs

-- these segments may be the whole list of an arena whose data starts at start and ends at top
pub record Good (start top : ℕ) (o : Order) (segs : List Segment) : Type 0 where
  pub ranged : Each (InRange start top) segs
  pub apart : Pairwise Apart segs
  pub sorted : Pairwise (Leads o) segs

-- the list that these bytes hold from head on is sound, and has exactly these segments
pub record Listed (l : List ℕ) (head start top : ℕ) (o : Order) (segs : List Segment) : Type 0 where
  pub limited : length l ≤ limit
  pub starts : 1 ≤ start
  pub ordered : start ≤ top
  pub inside : top ≤ length l
  pub run : Run (word_at l) head segs end_mark
  pub good : Good start top o segs
