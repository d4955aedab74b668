-- `freelist::place::find_place` meets its contract. The invariant is `Seeking`, for what the test says; those seen and those left are all.
-- Assumes nothing.
use Rattle.std.proofs.Common.{◌≡◌, Bool, ◌+◌, length}
use Rattle.std.specs.Iterator.Adapters.{enumerate_source, enumerate_count}
use Rattle.records.specs.declared.Segment.{Segment}
use Rattle.freelist.specs.Nodes.{rest}
use Rattle.freelist.proofs.Seeks.{Seeking}
use Rattle.freelist.proofs.place.find_place.Given as goal

abbrev pub invariant-loop-index : goal.invariant-loop-index
invariant-loop-index g l =
    (goal.iterator-loop-index g).can_next l.index-iterator
    × (goal.iterator-loop-index g).is_finite l.index-iterator
    × (enumerate_count l.index-iterator + length (rest (enumerate_source l.index-iterator)) ≡ length (rest l.fn.nodes))
    × ((f : Segment → Bool) → ((s : Segment) (r : Bool) → goal.F-post g l.fn.test s r → r ≡ f s) → Seeking f (rest l.fn.nodes) (rest (enumerate_source l.index-iterator)) l.prev (enumerate_count l.index-iterator))
