-- The test for shared bytes by marks: a bit for each cell of eight bytes, 64 of them in a word, a window of words at a time, set where a segment that was
-- seen has a byte. Nodes are multiples of 8, so two segments share a byte exactly where they share a cell.
use Rattle.std.specs.Prelude.{◌≡◌, Bool, true, false, List, ℕ, ◌*◌, ◌/◌, ◌%◌, ◌^◌, ◌≤◌, ◌<◌, get_or}
use Rattle.records.specs.declared.Segment.{Segment}
use Rattle.freelist.specs.Segs.{end_of}

-- cell c has a byte of s
abbrev pub Touches : Segment → ℕ → Type 0
Touches s c = (s.offset / 8 ≤ c) × (c * 8 < end_of s)

-- no cell from lo up to hi has a byte of both
abbrev pub Free : ℕ → ℕ → Segment → Segment → Type 0
Free lo hi s t = (c : ℕ) → lo ≤ c → c < hi → Touches s c → Touches t c → ⊥

-- the mark at i: 1 where it is set
unfoldable pub mark_at : List ℕ → ℕ → ℕ
mark_at marks i = get_or marks (i / 64) 0 / 2 ^ (i % 64) % 2

-- the marks from a up to b are not set
abbrev pub Unset : List ℕ → ℕ → ℕ → Type 0
Unset marks a b = (i : ℕ) → a ≤ i → i < b → mark_at marks i ≡ 0

-- of the marks that were, those from a up to b are set now, and the others are as they were
pub record Marked (were : List ℕ) (a b : ℕ) (are : List ℕ) : Type 0 where
  pub own : (i : ℕ) → a ≤ i → i < b → mark_at are i ≡ 1
  pub others : (i : ℕ) → (a ≤ i → i < b → ⊥) → mark_at are i ≡ mark_at were i

-- a yes says that it holds, a no that it does not
abbrev pub Tells : Bool → Type 0 → Type 0
Tells true p = p
Tells false p = p → ⊥
