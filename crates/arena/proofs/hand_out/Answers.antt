-- `arena::hand_out` meets its contract. The callees' results are the parts of `handed_out`.
-- Assumes nothing.
use Rattle.arena.proofs.Serves.{hands_out}
use Rattle.arena.proofs.hand_out.Goals as goal

pub returns : goal.returns
returns c = hands_out _ _ _ _ _ _ _ _ c.need_of.ensures.is c.clear_range.ensures c.list_block-block.ensures
