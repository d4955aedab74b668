-- The soundness check of a list as a computation, node by node: the longest run of nodes that is good by itself, and whether it stops at the end mark.
-- Document 01, 'Words, nodes and a sound arena'.
use Rattle.std.specs.Prelude.{Bool, true, ◌&&◌, not, List, [], ◌∷◌, ◌++◌, ℕ, zero, suc, ◌/◌, ◌%◌, leb, eqb, length}
use Rattle.words.specs.Word.{word_at, end_mark}
use Rattle.words.specs.Pick.{pick}
use Rattle.records.specs.declared.Order.{Order}
use Rattle.records.specs.declared.Segment.{Segment}
use Rattle.freelist.specs.Segs.{end_of, seg_at, next_at, followed, leads}
use Rattle.freelist.specs.Place.{meets}

-- 01: a multiple of 8, at least the data offset, has s >= 1 and ends at or below allocated
unfoldable pub in_range : ℕ → ℕ → Segment → Bool
in_range start top s = eqb (s.offset % 8) 0 && leb start s.offset && leb 1 s.size && leb (end_of s) top

-- the order lets s follow the last of these
abbrev pub follows : Order → List Segment → Segment → Bool
follows o [] s = true
follows o (t ∷ []) s = leads o t s
follows o (t ∷ u ∷ us) s = follows o (u ∷ us) s

-- s may be the next node after these
unfoldable pub may_follow : ℕ → ℕ → Order → List Segment → Segment → Bool
may_follow start top o seen s = in_range start top s && follows o seen s && not (meets seen s.offset (end_of s))

-- of the nodes from p, at most n, as many as pass the test ok, which is told the nodes before
unfoldable pub kept : ℕ → (ℕ → ℕ) → (List Segment → Segment → Bool) → List Segment → ℕ → List Segment
kept zero w ok seen p = []
kept (suc n) w ok seen p =
    let rest = seg_at w p ∷ kept n w ok (seen ++ seg_at w p ∷ []) (next_at w p) in
    pick (not (eqb p end_mark) && ok seen (seg_at w p)) rest []

-- the longest run of nodes from head that would be sound by itself; 01: at most cap / 16 nodes
unfoldable pub good_run : List ℕ → ℕ → ℕ → ℕ → Order → List Segment
good_run l head start top o = kept (length l / 16) (word_at l) (may_follow start top o) [] head

-- 01: following next reaches the end mark
unfoldable pub soundb : List ℕ → ℕ → ℕ → ℕ → Order → Bool
soundb l head start top o = eqb (followed (word_at l) (length (good_run l head start top o)) head) end_mark
