-- `freelist::marks::windows_apart` meets its contract. The invariant: no two nodes share a cell of the windows that were looked at.
-- Assumes nothing.
use Rattle.std.proofs.Common.{◌*◌}
use Rattle.freelist.specs.Segs.{Pairwise}
use Rattle.freelist.specs.Nodes.{rest}
use Rattle.freelist.specs.Marks.{Free}
use Rattle.freelist.proofs.marks.windows_apart.Given as goal

abbrev pub invariant-loop-window : goal.invariant-loop-window
invariant-loop-window l = Pairwise (Free 0 (l.window * 65536)) (rest l.nodes)
