-- A sound arena. Document 01, 'Words, nodes and a sound arena', its second paragraph: as a test, and sentence by sentence.
use Rattle.std.specs.Prelude.{◌≡◌, Bool, ◌&&◌, List, [], ℕ, eqb, length, Option, Some, None as unsound}
use Rattle.std.specs.List.{AllByRecursion as Each}
use Rattle.words.specs.Word.{word_at, size_half, next_half, end_mark}
use Rattle.words.specs.Pick.{pick}
use Rattle.records.specs.Head.{Head, head_sound}
use Rattle.records.specs.declared.Policy.{Policy}
use Rattle.records.specs.declared.Policy.TheVariants.{None, Ordered}
use Rattle.records.specs.declared.Shape.{Shape}
use Rattle.records.specs.declared.Header.{Header}
use Rattle.records.specs.declared.Segment.{Segment}
use Rattle.freelist.specs.Segs.{Covers, Run, Pairwise, InRange, Leads}
use Rattle.freelist.specs.Check.{good_run, soundb}

-- the list's first node, the next half of the sentinel
abbrev pub first_of : Header → ℕ
first_of h = next_half h.sentinel

-- 01: policy None has an empty list
abbrev pub list_sound : Policy → ℕ → ℕ → List ℕ → ℕ → Bool
list_sound None start top l head = eqb head end_mark
list_sound (Ordered o) start top l head = soundb l head start top o

-- 01: arena sound: head sound; sentinel size half is the end mark; and the list
unfoldable pub sound : Shape → Header → List ℕ → Bool
sound s h l =
    head_sound s h (length l) && eqb (size_half h.sentinel) end_mark && list_sound s.policy s.data_offset h.allocated l (first_of h)

-- the free segments that a walk from head finds
abbrev pub free_from : Policy → ℕ → ℕ → List ℕ → ℕ → List Segment
free_from None start top l head = []
free_from (Ordered o) start top l head = good_run l head start top o

-- the free segments of a sound arena, in the list's order
unfoldable pub free : Shape → Header → List ℕ → List Segment
free s h l = free_from s.policy s.data_offset h.allocated l (first_of h)

-- what the soundness check says: the number of the free segments of a sound arena, and nothing of any other
unfoldable pub surveyed : Shape → Header → List ℕ → Option ℕ
surveyed s h l = pick (sound s h l) (Some (length (free s h l))) unsound

-- 01: no two segments share a byte
abbrev pub Disjoint : Segment → Segment → Type 0
Disjoint a b = (x : ℕ) → Covers a x → Covers b x → ⊥

-- 01: policy None has an empty list; sizes never fall along a pessimistic list and never rise along an optimistic one
abbrev pub InOrder : Policy → List Segment → Type 0
InOrder None segs = segs ≡ []
InOrder (Ordered o) segs = Pairwise (Leads o) segs

-- 01: arena sound: head sound; sentinel size half is the end mark; policy None has an empty list; following next reaches the end mark;
-- each node is a multiple of 8, at least the data offset, has s >= 1 and ends at or below allocated; no two segments share a byte;
-- sizes never fall along a pessimistic list and never rise along an optimistic one
pub record Sound (s : Shape) (h : Header) (l : List ℕ) : Type 0 where
  pub head : Head s h (length l)
  pub marked : size_half h.sentinel ≡ end_mark
  pub segs : List Segment
  pub reaches : Run (word_at l) (first_of h) segs end_mark
  pub each : Each (InRange s.data_offset h.allocated) segs
  pub apart : Pairwise Disjoint segs
  pub ordered : InOrder s.policy segs
