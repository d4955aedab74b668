-- Changing a list: the bytes and the first node after a node is put in or taken out at a place.
-- Document 01, 'Taking room' and 'Giving back, discarding, rewinding'.
use Rattle.std.specs.Prelude.{◌≡◌, List, ℕ, suc, eqb, take, drop}
use Rattle.words.specs.Word.{word_at, put_word, node_word, size_half, end_mark}
use Rattle.words.specs.Pick.{pick}
use Rattle.records.specs.declared.Order.{Order}
use Rattle.records.specs.declared.Segment.{Segment}
use Rattle.freelist.specs.Segs.{leads}
use Rattle.freelist.specs.Place.{place, start_of, last_of}

-- the link after prev set to x: the next half of the node there, or the list's first where prev is the end mark
unfoldable pub link_bytes : List ℕ → ℕ → ℕ → List ℕ
link_bytes l prev x = pick (eqb prev end_mark) l (put_word l prev (node_word (size_half (word_at l prev)) x))

unfoldable pub link_head : ℕ → ℕ → ℕ → ℕ
link_head head prev x = pick (eqb prev end_mark) x head

-- q put in before the k-th of these segments
unfoldable pub insert_bytes : List ℕ → List Segment → ℕ → Segment → List ℕ
insert_bytes l segs k q =
    link_bytes (put_word l q.offset (node_word q.size (start_of (drop k segs)))) (last_of (take k segs)) q.offset

unfoldable pub insert_head : ℕ → List Segment → ℕ → Segment → ℕ
insert_head head segs k q = link_head head (last_of (take k segs)) q.offset

-- 01: the node at p, size s, leaves the list: the k-th of these segments taken out
unfoldable pub remove_bytes : List ℕ → List Segment → ℕ → List ℕ
remove_bytes l segs k = link_bytes l (last_of (take k segs)) (start_of (drop (suc k) segs))

unfoldable pub remove_head : ℕ → List Segment → ℕ → ℕ
remove_head head segs k = link_head head (last_of (take k segs)) (start_of (drop (suc k) segs))

-- q put in where the order has it: the bytes and the first node afterwards
pub record Inserted (l : List ℕ) (segs : List Segment) (head : ℕ) (o : Order) (q : Segment) (l' : List ℕ) (head' : ℕ) : Type 0 where
  pub bytes : l' ≡ insert_bytes l segs (place (leads o q) segs) q
  pub starts : head' ≡ insert_head head segs (place (leads o q) segs) q

-- the segment at a place taken out: the bytes and the first node afterwards
pub record Removed (l : List ℕ) (segs : List Segment) (head k : ℕ) (l' : List ℕ) (head' : ℕ) : Type 0 where
  pub bytes : l' ≡ remove_bytes l segs k
  pub starts : head' ≡ remove_head head segs k
