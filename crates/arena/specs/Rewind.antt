-- Discarding, rewinding and the setters. Document 01, 'Giving back, discarding, rewinding' and 'What each call says no with'.
use Rattle.std.specs.Prelude.{ℕ, not, List, [], length}
use Rattle.words.specs.Word.{end_mark}
use Rattle.words.specs.Pick.{pick}
use Rattle.records.specs.Answer.{Outcome, leaves, refuses, sum, done}
use Rattle.records.specs.Head.{head_sound}
use Rattle.records.specs.Change.{with_top, with_first, with_minimum, losing}
use Rattle.records.specs.declared.Shape.{Shape}
use Rattle.records.specs.declared.Header.{Header}
use Rattle.records.specs.declared.Position.{Position}
use Rattle.positions.specs.NewTop.{new_top}
use Rattle.freelist.specs.Segs.{sizes}
use Rattle.freelist.specs.Place.{any_above}
use Rattle.freelist.specs.Sound.{sound, free}

-- 01: discard 1, 4; empties the list, adds the sum of data sizes to discarded and returns the sum; None returns 0. No buffer byte changes
unfoldable pub discarding : Shape → Header → List ℕ → Outcome
discarding s h l =
    pick s.read_only (refuses 1 [] h l)
    (pick (not (sound s h l)) (refuses 4 [] h l)
    (leaves (sum (sizes (free s h l))) (losing (with_first h end_mark) (sizes (free s h l))) l))

-- where a rewind leads in this arena
abbrev pub rewound : Shape → Header → Position → ℕ
rewound s h p = new_top s.data_offset s.cap h.allocated p

-- 01: rewind 1, 4, 8: refusal 8 is given for a new top below the end of a free segment
unfoldable pub rewinding : Shape → Header → List ℕ → Position → Outcome
rewinding s h l p =
    pick s.read_only (refuses 1 [] h l)
    (pick (not (sound s h l)) (refuses 4 [] h l)
    (pick (any_above (rewound s h p) (free s h l)) (refuses 8 [] h l)
    (leaves done (with_top h (rewound s h p)) l)))

-- 01: setters 1, head 4. The setters are two: set the minimum, and add a number to discarded
unfoldable pub setting : Shape → Header → List ℕ → Header → Outcome
setting s h l next =
    pick s.read_only (refuses 1 [] h l)
    (pick (not (head_sound s h (length l))) (refuses 4 [] h l)
    (leaves done next l))

abbrev pub setting_minimum : Shape → Header → List ℕ → ℕ → Outcome
setting_minimum s h l least = setting s h l (with_minimum h least)

abbrev pub adding_discarded : Shape → Header → List ℕ → ℕ → Outcome
adding_discarded s h l n = setting s h l (losing h n)
