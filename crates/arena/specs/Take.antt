-- Taking room. Document 01, 'Taking room'.
use Rattle.std.specs.Prelude.{ℕ, ◌+◌, ◌-◌, not, List, [], ◌∷◌, leb, ltb, length, get_or, Option, Some, None as Refused}
use Rattle.words.specs.Word.{zeroed, next_half}
use Rattle.words.specs.Pick.{pick}
use Rattle.records.specs.Answer.{Outcome, leaves, refuses, granted, nothing}
use Rattle.records.specs.Head.{head_sound}
use Rattle.records.specs.Rule.{segment_of}
use Rattle.records.specs.Change.{with_top, with_first, losing}
use Rattle.records.specs.declared.Order.{Order}
use Rattle.records.specs.declared.Order.TheVariants.{Optimistic, Pessimistic}
use Rattle.records.specs.declared.Policy.{Policy}
use Rattle.records.specs.declared.Policy.TheVariants.{None, Ordered}
use Rattle.records.specs.declared.Shape.{Shape}
use Rattle.records.specs.declared.Header.{Header}
use Rattle.records.specs.declared.Request.{Request}
use Rattle.records.specs.declared.Segment.{Segment}
use Rattle.requests.specs.Request.{well_formed, plain, for_nothing, want, need, asked, top_block, zeroed_from, list_block}
use Rattle.freelist.specs.Segs.{leads}
use Rattle.freelist.specs.Place.{place, remove_at}
use Rattle.freelist.specs.Link.{insert_bytes, insert_head, remove_bytes, remove_head}
use Rattle.freelist.specs.Sound.{sound, free}

-- 01: memory and usable as the request's block has them; the top becomes want; what is zeroed ends at want
unfoldable pub from_top : Header → List ℕ → Request → Outcome
from_top h l r =
    leaves (granted (top_block h.allocated r)) (with_top h (want h.allocated r))
    (zeroed l (zeroed_from h.allocated r) (want h.allocated r))

-- what a search of the list finds: the place of a node, or the room that a refusal reports
pub data Found : Type 0 where
  found : ℕ → Found
  missed : ℕ → Found

-- 01: pessimistic: first node with need <= size; none: 9 (need, cap - allocated)
unfoldable pub first_fit : ℕ → ℕ → List Segment → Found
first_fit n room segs =
    let k = place (λ (s : Segment). leb n s.size) segs in
    pick (ltb k (length segs)) (found k) (missed room)

-- 01: optimistic: the head; empty list: 9 (need, cap - allocated); need > head size: 9 (need, head size)
unfoldable pub head_fit : ℕ → ℕ → List Segment → Found
head_fit n room [] = missed room
head_fit n room (s ∷ ss) = pick (leb n s.size) (found 0) (missed s.size)

unfoldable pub look : Order → ℕ → ℕ → List Segment → Found
look Optimistic n room segs = head_fit n room segs
look Pessimistic n room segs = first_fit n room segs

-- the node at p of size s, out of the list by now, serves the request; what is left of it is inserted where the segment rule accepts it.
-- 01: inserted, discarded grows by 8, memory is (p, need); else memory is (p, s) and discarded stays. Bytes from p + 8 up to e are zeroed
unfoldable pub serve_from : Header → List ℕ → ℕ → List Segment → Order → Request → Segment → Option Segment → Outcome
serve_from h l first segs o r g Refused =
    leaves (granted (list_block g.offset g.size r)) (with_first h first)
    (zeroed l (g.offset + 8) (g.offset + 8 + need r))
serve_from h l first segs o r g (Some q) =
    let k = place (leads o q) segs in
    leaves (granted (list_block g.offset (need r) r)) (losing (with_first h (insert_head first segs k q)) 8)
    (zeroed (insert_bytes l segs k q) (g.offset + 8) (g.offset + 8 + need r))

abbrev pub nowhere : Segment
nowhere = record { offset = 0; size = 0 }

-- 01: rest r = s - need starts at e = p + 8 + need: what the segment rule makes of it
abbrev pub rest_of : Header → Segment → ℕ → Option Segment
rest_of h g n = segment_of h.minimum_segment_size (g.offset + 8 + n) (g.size - n)

-- 01: the node at p, size s, leaves the list
unfoldable pub serve : Header → List ℕ → List Segment → Order → Request → ℕ → Outcome
serve h l segs o r k =
    let g = get_or segs k nowhere in
    serve_from h (remove_bytes l segs k) (remove_head (next_half h.sentinel) segs k) (remove_at k segs) o r g (rest_of h g (need r))

unfoldable pub from_list : Header → List ℕ → List Segment → Order → Request → Found → Outcome
from_list h l segs o r (missed room) = refuses 9 (need r ∷ room ∷ []) h l
from_list h l segs o r (found k) = serve h l segs o r k

-- 01: past cap, policy None refuses 9 (requested, cap - allocated); otherwise the list is searched
unfoldable pub past_top : Policy → Shape → Header → List ℕ → Request → Outcome
past_top None s h l r = refuses 9 (asked h.allocated r ∷ (s.cap - h.allocated) ∷ []) h l
past_top (Ordered o) s h l r =
    from_list h l (free s h l) o r (look o (need r) (s.cap - h.allocated) (free s h l))

-- 01: requests 1, 5, head 4, zero size, top, list 4, 9
unfoldable pub taking : Shape → Header → List ℕ → Request → Outcome
taking s h l r =
    pick s.read_only (refuses 1 [] h l)
    (pick (not (well_formed r)) (refuses 5 [] h l)
    (pick (not (head_sound s h (length l))) (refuses 4 [] h l)
    (pick (for_nothing (plain r)) (leaves nothing h l)
    (pick (leb (want h.allocated (plain r)) s.cap) (from_top h l (plain r))
    (pick (not (sound s h l)) (refuses 4 [] h l)
    (past_top s.policy s h l (plain r)))))))
