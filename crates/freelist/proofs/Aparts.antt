-- The test of a whole list for segments that share a byte: it says yes exactly where each two are apart.
-- Assumes nothing.
use mathlib.Core.Path.{◌≡◌, refl}
use Rattle.std.specs.List.{AllByRecursion as Each}
use mathlib.Core.Bool.{true, false, not}
use mathlib.Core.List.{List, [], ◌∷◌}
use Prim.Native.Nat.{ℕ, ◌≤◌}
use native.Mathlib.Omega.{arith}
use borrow.Author.Tests.{not-true}
use Rattle.records.proofs.Facts.{both}
use Rattle.records.specs.declared.Segment.{Segment}
use Rattle.freelist.specs.Segs.{Pairwise, Apart, InRange, EndsBy, end_of}
use Rattle.freelist.specs.Place.{meets}
use Rattle.freelist.specs.Split.{apartb}
use Rattle.freelist.proofs.Listing.{all_map}
use Rattle.freelist.proofs.Meets.{apart_sym, apart_all, meets_none}

pub tested_apart : (ss : List Segment) → apartb ss ≡ true → Pairwise Apart ss
tested_apart [] e = tt
tested_apart (s ∷ ss) e =
    let b = both (not (meets ss s.offset (end_of s))) (apartb ss) e in
    (all_map (λ t. Apart t s) (Apart s) (λ t. apart_sym t s) ss (apart_all ss s (not-true _ b.0)), tested_apart ss b.1)

pub apart_tested : (ss : List Segment) → Pairwise Apart ss → apartb ss ≡ true
apart_tested [] h = refl
apart_tested (s ∷ ss) h =
    rw (meets_none ss s (all_map (Apart s) (λ t. Apart t s) (λ t. apart_sym s t) ss h.0), apart_tested ss h.1) refl

-- nodes in range end inside a buffer that the top lies in
pub ranged_ends : (top n : ℕ) (ss : List Segment) → top ≤ n → Each (InRange 0 top) ss → Each (EndsBy n) ss
ranged_ends top n ss h a = all_map (InRange 0 top) (EndsBy n) (λ t r. omega arith) ss a

-- a list with a node of which a later one has a byte is not apart
pub apart_hit : (all ss : List Segment) (s : Segment) → all ≡ s ∷ ss → meets ss s.offset (end_of s) ≡ true → apartb all ≡ false
apart_hit all ss s e h = rw (e, h) refl

-- and one with a node of which no later one has a byte is apart where the rest is
pub apart_miss : (all ss : List Segment) (s : Segment) → all ≡ s ∷ ss → meets ss s.offset (end_of s) ≡ false → apartb all ≡ apartb ss
apart_miss all ss s e h = rw (e, h) refl
