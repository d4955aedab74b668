-- Segments that share no byte: said by their ends (`Apart`), by their bytes (`Disjoint`) and by the test (`meets`), and the ways between the three.
-- Assumes nothing.
use mathlib.Core.Path.{◌≡◌}
use Rattle.std.specs.List.{AllByRecursion as Each}
use mathlib.Core.Logic.{inl, inr}
use mathlib.Core.Bool.{false}
use mathlib.Core.List.{List}
use Prim.Native.Nat.{ℕ, ◌≤◌}
use native.Mathlib.Decide.{dec_le}
use native.Mathlib.Omega.{arith}
use borrow.Author.Tests.{ltb-false, le-ltb}
use lib.Dec.{ltb}
use Rattle.words.proofs.Ranges.{Parted, parted_flip, parted_none}
use Rattle.records.specs.declared.Segment.{Segment}
use Rattle.freelist.specs.Segs.{Apart, EndsBy, end_of, shares}
use Rattle.freelist.specs.Place.{meets, any_above}
use Rattle.freelist.specs.Sound.{Disjoint}
use Rattle.freelist.proofs.Listing.{all_map}
use Rattle.freelist.proofs.Places.{any_none, none_any}

-- a segment has none of the bytes from a up to e
abbrev pub OffSeg : ℕ → ℕ → Segment → Type 0
OffSeg a e g = Parted a e g.offset (end_of g)

-- either may be named first
pub apart_sym : (s t : Segment) → Apart s t → Apart t s
apart_sym s t = parted_flip s.offset (end_of s) t.offset (end_of t)

-- two segments are apart exactly where no byte is in both
pub apart_bytes : (s t : Segment) → Apart s t → Disjoint s t
apart_bytes s t h x = parted_none s.offset (end_of s) t.offset (end_of t) x h

pub bytes_apart : (s t : Segment) → Disjoint s t → Apart s t
bytes_apart s t f = go (dec_le (end_of s) t.offset) (dec_le (end_of t) s.offset) (dec_le s.offset t.offset)
  where
    go : Dec (end_of s ≤ t.offset) → Dec (end_of t ≤ s.offset) → Dec (s.offset ≤ t.offset) → Apart s t
    go (yes h) g e = inl h
    go (no h) (yes g) e = inr g
    go (no h) (no g) (yes e) = absurd (f t.offset (omega arith, omega arith) (omega arith, omega arith))
    go (no h) (no g) (no e) = absurd (f s.offset (omega arith, omega arith) (omega arith, omega arith))

-- where no segment meets a range, each is apart from any segment inside the range
pub clear_inside : (ss : List Segment) (from to : ℕ) (q : Segment) → meets ss from to ≡ false → from ≤ q.offset → end_of q ≤ to → Each (λ s. Apart s q) ss
clear_inside ss from to q e a b =
    all_map (λ s. shares s.offset (end_of s) from to ≡ false) (λ s. Apart s q) each ss (any_none (λ s. shares s.offset (end_of s) from to) ss e)
  where
    each : (s : Segment) → shares s.offset (end_of s) from to ≡ false → Apart s q
    each s h = go (dec_le (end_of s) q.offset)
      where
        go : Dec (end_of s ≤ q.offset) → Apart s q
        go (yes k) = inl k
        go (no k) = inr (omega (arith, ltb-false))

-- the test of the check, for the next segment t
pub apart_all : (ss : List Segment) (t : Segment) → meets ss t.offset (end_of t) ≡ false → Each (λ s. Apart s t) ss
apart_all ss t e = clear_inside ss t.offset (end_of t) t e (omega arith) (omega arith)

-- a part of a range that no segment has a byte of meets none
pub off_meets : (a e from to : ℕ) (ss : List Segment) → a ≤ from → to ≤ e → Each (OffSeg a e) ss → meets ss from to ≡ false
off_meets a e from to ss low high off =
    none_any (λ s. shares s.offset (end_of s) from to) ss (all_map (OffSeg a e) (λ s. shares s.offset (end_of s) from to ≡ false) each ss off)
  where
    each : (s : Segment) → OffSeg a e s → shares s.offset (end_of s) from to ≡ false
    each s (inl h) = omega (arith, le-ltb)
    each s (inr h) = omega (arith, le-ltb)

pub meets_none : (ss : List Segment) (t : Segment) → Each (λ s. Apart s t) ss → meets ss t.offset (end_of t) ≡ false
meets_none ss t a =
    off_meets t.offset (end_of t) _ _ ss (omega arith) (omega arith) (all_map (λ s. Apart s t) (Apart t) (λ s. apart_sym s t) ss a)

-- where no segment ends above an offset, each ends at or below it
pub above_none : (top : ℕ) (ss : List Segment) → any_above top ss ≡ false → Each (EndsBy top) ss
above_none top ss e = all_map (λ s. ltb top (end_of s) ≡ false) (EndsBy top) (λ s h. ltb-false _ _ h) ss (any_none (λ s. ltb top (end_of s)) ss e)
