-- The check of a list in two parts: a walk that looks at each node and at the order of two neighbours, and whether the segments that it passed are apart.
use Rattle.std.specs.Prelude.{◌≡◌, ◌≢◌, Option, Bool, true, ◌&&◌, not, List, [], ◌∷◌, ℕ, ◌/◌, length}
use Rattle.std.specs.Option.{MatchOption}
use Rattle.words.specs.Word.{word_at, end_mark}
use Rattle.records.specs.declared.Order.{Order}
use Rattle.records.specs.declared.Policy.{Policy}
use Rattle.records.specs.declared.Policy.TheVariants.{None, Ordered}
use Rattle.records.specs.declared.Segment.{Segment}
use Rattle.freelist.specs.Segs.{end_of, followed}
use Rattle.freelist.specs.Place.{meets}
use Rattle.freelist.specs.Check.{in_range, follows, kept}

-- what a walk from head tells: it passed these segments, so many, and stands at stop
pub record Walked (l : List ℕ) (head : ℕ) (segs : List Segment) (count stop : ℕ) : Type 0 where
  pub counted : count ≡ length segs
  pub stops : stop ≡ followed (word_at l) count head

-- and what it answers: how many, where it stands at the end mark
abbrev pub Told : List ℕ → ℕ → List Segment → Option ℕ → Type 0
Told l head segs r = MatchOption r ((count : ℕ) × (stop : ℕ) × Walked l head segs count stop × (stop ≢ end_mark)) (λ count. Walked l head segs count end_mark)

-- s may be the next node after these, as far as its place and the order go
unfoldable pub may_come : ℕ → ℕ → Order → List Segment → Segment → Bool
may_come start top o seen s = in_range start top s && follows o seen s

-- the longest run of such nodes from head
unfoldable pub ranged_run : List ℕ → ℕ → ℕ → ℕ → Order → List Segment
ranged_run l head start top o = kept (length l / 16) (word_at l) (may_come start top o) [] head

-- by a policy, the segments that a walk from head passes
abbrev pub walk_from : Policy → ℕ → ℕ → List ℕ → ℕ → List Segment
walk_from None start top l head = []
walk_from (Ordered o) start top l head = ranged_run l head start top o

-- no two of these segments share a byte
abbrev pub apartb : List Segment → Bool
apartb [] = true
apartb (s ∷ ss) = not (meets ss s.offset (end_of s)) && apartb ss
