-- The segment rule. Document 01, 'Giving back, discarding, rewinding'.
use Rattle.std.specs.Prelude.{ℕ, ◌+◌, ◌-◌, ◌||◌, leb, ltb, eqb, Option, None, Some}
use Rattle.words.specs.Round.{round_up}
use Rattle.words.specs.Pick.{pick}
use Rattle.records.specs.declared.Segment.{Segment}

-- 01: padding is align8(offset) - offset
abbrev pub padding : ℕ → ℕ
padding offset = round_up 8 offset - offset

-- 01: refused if either is 0, or padding + 8 >= size, or size - padding - 8 < minimum. The node stands at align8(offset)
unfoldable pub segment_of : ℕ → ℕ → ℕ → Option Segment
segment_of least offset size =
    pick (eqb offset 0 || eqb size 0 || leb size (padding offset + 8) || ltb (size - padding offset - 8) least) None
    (Some (record { offset = round_up 8 offset; size = size - padding offset - 8 }))
