-- Giving back. Document 01, 'Giving back, discarding, rewinding'.
use Rattle.std.specs.Prelude.{ℕ, ◌+◌, true, false, ◌||◌, not, List, [], ◌∷◌, ltb, eqb, Option, Some, None as Refused}
use Rattle.words.specs.Word.{next_half}
use Rattle.words.specs.Pick.{pick}
use Rattle.records.specs.Answer.{Outcome, leaves, refuses, given_back}
use Rattle.records.specs.Rule.{segment_of}
use Rattle.records.specs.Change.{with_top, with_first, losing}
use Rattle.records.specs.declared.Order.{Order}
use Rattle.records.specs.declared.Policy.{Policy}
use Rattle.records.specs.declared.Policy.TheVariants.{None, Ordered}
use Rattle.records.specs.declared.Shape.{Shape}
use Rattle.records.specs.declared.Header.{Header}
use Rattle.records.specs.declared.Segment.{Segment}
use Rattle.freelist.specs.Segs.{leads}
use Rattle.freelist.specs.Place.{place, meets}
use Rattle.freelist.specs.Link.{insert_bytes, insert_head}
use Rattle.freelist.specs.Sound.{sound, free}

-- 01: rule refused: discarded grows by size, answer false; else insert, discarded grows by 8 and not by the padding, true.
-- Insert before the first node whose size is >= the new (pessimistic) or <= the new (optimistic)
unfoldable pub put_in : Header → List ℕ → List Segment → Order → ℕ → Option Segment → Outcome
put_in h l segs o size Refused = leaves (given_back false) (losing h size) l
put_in h l segs o size (Some q) =
    let k = place (leads o q) segs in
    leaves (given_back true) (losing (with_first h (insert_head (next_half h.sentinel) segs k q)) 8) (insert_bytes l segs k q)

-- 01: else None: discarded grows by size, true
unfoldable pub below_top : Policy → Shape → Header → List ℕ → ℕ → ℕ → Outcome
below_top None s h l offset size = leaves (given_back true) (losing h size) l
below_top (Ordered o) s h l offset size =
    put_in h l (free s h l) o size (segment_of h.minimum_segment_size offset size)

-- 01: give-back 1, 4, 6, 7; then if offset + size = allocated, allocated becomes offset, answer true
unfoldable pub giving_back : Shape → Header → List ℕ → ℕ → ℕ → Outcome
giving_back s h l offset size =
    pick s.read_only (refuses 1 [] h l)
    (pick (not (sound s h l)) (refuses 4 [] h l)
    (pick (ltb offset s.data_offset || ltb h.allocated (offset + size)) (refuses 6 (offset ∷ h.allocated ∷ []) h l)
    (pick (meets (free s h l) offset (offset + size)) (refuses 7 [] h l)
    (pick (eqb (offset + size) h.allocated) (leaves (given_back true) (with_top h offset) l)
    (below_top s.policy s h l offset size)))))
