-- `freelist::marks::claim_run` meets its contract. The invariant: no two of all nodes share a cell exactly where those left can claim the marks as they are.
-- Assumes nothing.
use Rattle.std.proofs.Common.{◌≡◌, ◌↔◌, ◌+◌, ◌*◌, length}
use Rattle.freelist.specs.Segs.{Pairwise}
use Rattle.freelist.specs.Nodes.{rest}
use Rattle.freelist.specs.Marks.{Free}
use Rattle.freelist.proofs.Claims.{Claimable}
use Rattle.freelist.proofs.marks.claim_run.Given as goal

abbrev pub invariant-loop-node : goal.invariant-loop-node
invariant-loop-node l =
    (goal.iterator-loop-node).can_next l.node-iterator
    × (goal.iterator-loop-node).is_finite l.node-iterator
    × (length l.marks ≡ length l.initial.marks)
    × (Pairwise (Free l.base (l.base + length l.initial.marks * 64)) (rest l.fn.nodes) ↔ Claimable l.base l.marks (rest l.node-iterator))
