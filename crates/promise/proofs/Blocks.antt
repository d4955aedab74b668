-- A held block's bytes lie in one range, its hull: from its memory offset up to the end of its memory or of its usable part, whichever is later.
-- That two hulls, or a hull and a segment, are apart is said by their ends, so that it is arithmetic; here it is turned into bytes. Assumes nothing.
use Prim.Native.Nat.{ℕ, ◌+◌, ◌≤◌, ◌<◌, max}
use Rattle.std.specs.List.{AllByRecursion as Each}
use mathlib.Core.Logic.{inl, inr}
use mathlib.Core.List.{List}
use native.Mathlib.Omega.{arith}
use Rattle.words.proofs.Ranges.{Parted, parted_parts, parted_none}
use Rattle.words.proofs.Stills.{Still}
use Rattle.records.specs.declared.Block.{Block}
use Rattle.records.specs.declared.Segment.{Segment}
use Rattle.freelist.specs.Segs.{Covers, end_of}
use Rattle.freelist.proofs.Listing.{all_map}
use Rattle.freelist.proofs.Meets.{OffSeg}
use Rattle.promise.specs.Runs.{Holds}

-- the end of a block's hull, not included
abbrev pub hull_end : Block → ℕ
hull_end b = max (b.memory_offset + b.memory_size) (b.usable_offset + b.usable_size)

-- a block has none of the bytes from a up to e
abbrev pub OffBlock : ℕ → ℕ → Block → Type 0
OffBlock a e b = Parted a e b.memory_offset (hull_end b)

-- a block and a segment, and two blocks, whose bytes are apart
abbrev pub Clear : Block → Segment → Type 0
Clear b g = OffSeg b.memory_offset (hull_end b) g

abbrev pub Asunder : Block → Block → Type 0
Asunder b c = OffBlock b.memory_offset (hull_end b) c

-- a block's bytes are in m what they are in l
abbrev pub Untouched : Block → List ℕ → List ℕ → Type 0
Untouched b l m = Still b.memory_offset (hull_end b) l m

-- a block whose hull lies between start and top
pub record Placed (start top : ℕ) (b : Block) : Type 0 where
  pub some : 1 ≤ b.memory_size
  pub above : start ≤ b.memory_offset
  pub usable : b.memory_offset ≤ b.usable_offset
  pub below : hull_end b ≤ top

-- what has none of some bytes has none of a part of them
module _ (a e a' e' : ℕ) (h : a ≤ a') (k : e' ≤ e) where
  pub segs_off : (segs : List Segment) → Each (OffSeg a e) segs → Each (OffSeg a' e') segs
  segs_off = all_map (OffSeg a e) (OffSeg a' e') (λ g. parted_parts a' e' g.offset (end_of g) h k (omega arith) (omega arith))

  pub blocks_off : (bs : List Block) → Each (OffBlock a e) bs → Each (OffBlock a' e') bs
  blocks_off = all_map (OffBlock a e) (OffBlock a' e') (λ b. parted_parts a' e' b.memory_offset (hull_end b) h k (omega arith) (omega arith))

module _ {start top : ℕ} where
  -- a block's bytes lie in its hull
  pub holds_within : {b : Block} → Placed start top b → (x : ℕ) → Holds b x → (b.memory_offset ≤ x) × (x < hull_end b)
  holds_within p x (inl h) = omega arith
  holds_within p x (inr h) = omega arith

  pub asunder_bytes : {b c : Block} → Placed start top b → Placed start top c → Asunder b c → (x : ℕ) → Holds b x → Holds c x → ⊥
  asunder_bytes p q h x m n = parted_none _ _ _ _ x h (holds_within p x m) (holds_within q x n)

  pub clear_bytes : {b : Block} → Placed start top b → (g : Segment) → Clear b g → (x : ℕ) → Holds b x → Covers g x → ⊥
  clear_bytes p g h x m n = parted_none _ _ _ _ x h (holds_within p x m) n

  -- it is as well placed under another top that it does not pass
  pub placed_under : (t : ℕ) (b : Block) → hull_end b ≤ t → Placed start top b → Placed start t b
  placed_under t b h p = record { some = p.some; above = p.above; usable = p.usable; below = h }
