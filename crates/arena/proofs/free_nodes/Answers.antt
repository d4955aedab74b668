-- `arena::free_nodes` meets its contract: the first node and the number are those of the free list.
-- Assumes nothing.
use Rattle.std.proofs.Common.{◌∙◌}
use Rattle.arena.proofs.Lists.{free_held}
use Rattle.arena.proofs.free_nodes.Goals as goal

pub new-requires : goal.new-requires
new-requires c = (free_held _ _ _ _ _ c.requires c.first.ensures).ends

pub returns : goal.returns
returns c = c.new.ensures ∙ (free_held _ _ _ _ _ c.requires c.first.ensures).are
