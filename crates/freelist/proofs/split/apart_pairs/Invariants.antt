-- `freelist::split::apart_pairs` meets its contract. The invariant: what is asked of all nodes is asked of those left. The measure is their number.
-- Assumes nothing.
use Rattle.std.proofs.Common.{◌≡◌, length}
use Rattle.freelist.specs.Nodes.{rest}
use Rattle.freelist.specs.Split.{apartb}
use Rattle.freelist.proofs.split.apart_pairs.Given as goal

abbrev pub invariant-loop-s : goal.invariant-loop-s
invariant-loop-s l = apartb (rest l.fn.nodes) ≡ apartb (rest l.nodes)

abbrev pub decreases-loop-s : goal.decreases-loop-s
decreases-loop-s l = length (rest l.nodes)
