-- What the code is told of a request and of a node, and tells of a search and of a block, beside the definitions of `Take`.
use Rattle.std.specs.Prelude.{ℕ, ◌+◌, ◌≤◌, ◌<◌, ◌≡◌, true, not, ◌&&◌, List, length, get_or, Option, None, Result, Ok, Err}
use Rattle.words.specs.Word.{zeroed}
use Rattle.words.specs.Pick.{pick}
use Rattle.records.specs.Answer.{Outcome, leaves, granted}
use Rattle.records.specs.Head.{head_sound}
use Rattle.records.specs.declared.Order.{Order}
use Rattle.records.specs.declared.Shape.{Shape}
use Rattle.records.specs.declared.Header.{Header}
use Rattle.records.specs.declared.Request.{Request}
use Rattle.requests.specs.Request.{top_end, need, list_block}
use Rattle.records.specs.declared.Segment.{Segment}
use Rattle.freelist.specs.Sound.{sound, free}
use Rattle.freelist.specs.Place.{Stands}
use Rattle.freelist.specs.declared.place.Spot.{Spot}
use Rattle.arena.specs.Take.{look, found, missed, nowhere}

-- 01: requests 1, 5, head 4, zero size, top: where a request that comes to the top and is met there ends
unfoldable pub end_at_top : Shape → Header → ℕ → Request → Option ℕ
end_at_top s h n r = pick (not s.read_only && head_sound s h n) (top_end s.cap h.allocated r) None

-- the arena is sound, and has so many free segments; a fact and no type, since the calls go on to write the bytes that it speaks of
pub record Counted (s : Shape) (h : Header) (l : List ℕ) (count : ℕ) : Type 0 where
  pub good : sound s h l ≡ true
  pub counts : count ≡ length (free s h l)

-- the node at this place of the list has room for n bytes
pub record Serves (segs : List Segment) (n : ℕ) (spot : Spot) : Type 0 where
  pub inside : spot.index < length segs
  pub stands : Stands segs spot.index spot.prev spot.next
  pub room : n ≤ (get_or segs spot.index nowhere).size

-- what `look` finds, as the code says it: the place with the nodes on both sides of it, or the room that a refusal reports
abbrev pub Looked : Order → ℕ → ℕ → List Segment → Result Spot ℕ → Type 0
Looked o n room segs (Ok spot) = (look o n room segs ≡ found spot.index) × Serves segs n spot
Looked o n room segs (Err available) = look o n room segs ≡ missed available

-- 01: bytes from p + 8 up to e, e not included, are zeroed: the block of m bytes of memory from p on
abbrev pub handed_out : Header → List ℕ → ℕ → ℕ → Request → Outcome
handed_out h l p m r = leaves (granted (list_block p m r)) h (zeroed l (p + 8) (p + 8 + need r))
