-- The three requests, on numbers alone: what is well-formed, wanted, needed and recorded. Document 01, 'Numbers that bound it' and 'Taking room'.
use Rattle.std.specs.Prelude.{ℕ, ◌+◌, ◌-◌, ◌%◌, ◌≤◌, ◌≡◌, Bool, false, not, ◌&&◌, leb, eqb, Option, Some, None}
use Rattle.words.specs.Round.{round_up}
use Rattle.words.specs.Align.{good_align}
use Rattle.words.specs.Pick.{pick}
use Rattle.records.specs.Setup.{limit}
use Rattle.records.specs.declared.Block.{Block}
use Rattle.records.specs.declared.Request.{Request}
use Rattle.records.specs.declared.Request.TheVariants.{Bytes, Typed, Aligned}
use Rattle.requests.specs.declared.Layout.{Layout}

-- 01: sizes at most 1,073,741,824; alignment a power of two from 1 to 4,096; every size given with one is a multiple of it
unfoldable pub good_layout : ℕ → ℕ → Bool
good_layout size align = leb size limit && good_align align && eqb (size % align) 0

-- 01: sizes and extras at most 1,073,741,824 each
unfoldable pub well_formed : Request → Bool
well_formed (Bytes n) = leb n limit
well_formed (Typed size align) = good_layout size align
well_formed (Aligned size align extra) = leb extra limit && good_layout size align

-- a request in three numbers: bytes have the alignment 1, and only aligned bytes have extra ones
unfoldable pub layout_of : Request → Layout
layout_of (Bytes n) = record { size = n; align = 1; extra = 0 }
layout_of (Typed size align) = record { size = size; align = align; extra = 0 }
layout_of (Aligned size align extra) = record { size = size; align = align; extra = extra }

-- 01: aligned bytes: size 0 is a bytes request of extra, alignment dropped
unfoldable pub plain : Request → Request
plain (Bytes n) = Bytes n
plain (Typed size align) = Typed size align
plain (Aligned size align extra) = pick (eqb size 0) (Bytes extra) (Aligned size align extra)

-- 01: bytes: zero answers Nothing; typed: size 0 answers Nothing
unfoldable pub for_nothing : Request → Bool
for_nothing (Bytes n) = eqb n 0
for_nothing (Typed size align) = eqb size 0
for_nothing (Aligned size align extra) = false

-- 01: top + n; want = a(top) + size; want = a(top) + size + extra
unfoldable pub want : ℕ → Request → ℕ
want top (Bytes n) = top + n
want top (Typed size align) = round_up align top + size
want top (Aligned size align extra) = round_up align top + size + extra

-- 01: the top meets a well-formed request for something that does not pass cap: where it ends then, and None for any other
unfoldable pub top_end : ℕ → ℕ → Request → Option ℕ
top_end cap top r =
    pick (well_formed r && not (for_nothing (plain r)) && leb (want top (plain r)) cap) (Some (want top (plain r))) None

-- 01: the need is n, size + align - 1, or that + extra
unfoldable pub need : Request → ℕ
need (Bytes n) = n
need (Typed size align) = size + align - 1
need (Aligned size align extra) = size + align - 1 + extra

-- 01: policy None refuses 9: requested n, want, or size + extra in that order of requests
unfoldable pub asked : ℕ → Request → ℕ
asked top (Bytes n) = n
asked top (Typed size align) = round_up align top + size
asked top (Aligned size align extra) = size + extra

abbrev pub block : ℕ → ℕ → ℕ → ℕ → Block
block offset size at usable =
    record { memory_offset = offset; memory_size = size; usable_offset = at; usable_size = usable }

-- 01: memory and usable are (top, n); memory (top, want - top), usable (a(top), size); usable from a(top) to want
unfoldable pub top_block : ℕ → Request → Block
top_block top (Bytes n) = block top n top n
top_block top (Typed size align) = block top (round_up align top + size - top) (round_up align top) size
top_block top (Aligned size align extra) =
    block top (round_up align top + size + extra - top) (round_up align top) (size + extra)

-- 01: of a block from the top the bytes, or the typed usable part, are zeroed, and aligned bytes not: where zeroing starts, which ends at want
unfoldable pub zeroed_from : ℕ → Request → ℕ
zeroed_from top (Bytes n) = top
zeroed_from top (Typed size align) = round_up align top
zeroed_from top (Aligned size align extra) = round_up align top + size + extra

-- 01: usable: bytes (p + 8, need); typed (a(p), size); aligned from a(p) to the end of memory
unfoldable pub list_block : ℕ → ℕ → Request → Block
list_block p m (Bytes n) = block p m (p + 8) n
list_block p m (Typed size align) = block p m (round_up align p) size
list_block p m (Aligned size align extra) = block p m (round_up align p) (p + m - round_up align p)

-- what the code says of a request at the top: the three numbers, and the order that follows
pub record Planned (top : ℕ) (r : Request) (wanted at from : ℕ) : Type 0 where
  pub is : wanted ≡ want top r
  pub usable : at ≡ (top_block top r).usable_offset
  pub zeroed : from ≡ zeroed_from top r
  pub recorded : block top (wanted - top) at (wanted - at) ≡ top_block top r
  pub low : top ≤ at
  pub mid : at ≤ from
  pub high : from ≤ wanted
  pub small : wanted ≤ top + 2147487744

-- what the code says of a need: the number, and its bound
pub record Needed (r : Request) (n : ℕ) : Type 0 where
  pub is : n ≡ need r
  pub small : n ≤ 2147487744
