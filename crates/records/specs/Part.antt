-- The parts of the buffer that are handed out. Document 01, 'Taking room', its last paragraph.
use Rattle.std.specs.Prelude.{ℕ, ◌+◌, ◌≤◌, ◌≡◌, List, [], leb, length, take, drop}
use Rattle.std.specs.declared.ops.Range.{Range}
use Rattle.words.specs.Pick.{pick}
use Rattle.records.specs.declared.Shape.{Shape}
use Rattle.records.specs.declared.Block.{Block}

-- the range of n bytes from at, and of none, at the start, where they leave a buffer of len bytes
abbrev pub range_within : ℕ → ℕ → ℕ → Range ℕ
range_within len at n = pick (leb (at + n) len) (record { start = at; end = at + n }) (record { start = 0; end = 0 })

-- what the code says of that range: the value, and the bounds that follow from it
pub record Within (len at n : ℕ) (r : Range ℕ) : Type 0 where
  pub is : r ≡ range_within len at n
  pub ordered : r.start ≤ r.end
  pub inside : r.end ≤ len

-- n bytes from at; 01: a record whose range leaves the buffer gives an empty part
unfoldable pub part_of : List ℕ → ℕ → ℕ → List ℕ
part_of l at n = pick (leb (at + n) (length l)) (take n (drop at l)) []

-- where the part lies, if the buffer starts here: at bytes on, and an empty part of a range that leaves the buffer at the start
unfoldable pub place_of : List ℕ → ℕ × ℕ → ℕ → ℕ → ℕ × ℕ
place_of l start at n = pick (leb (at + n) (length l)) (start.0, at + start.1) start

-- 01: the part of the buffer that starts at its usable offset
abbrev pub usable_part : List ℕ → Block → List ℕ
usable_part l b = part_of l b.usable_offset b.usable_size

abbrev pub usable_place : List ℕ → ℕ × ℕ → Block → ℕ × ℕ
usable_place l start b = place_of l start b.usable_offset b.usable_size

-- 01: the reserved bytes are the buffer's first `reserved`, empty if it is shorter
abbrev pub reserved_part : List ℕ → Shape → List ℕ
reserved_part l s = part_of l 0 s.reserved
