-- `arena::take_top` meets its contract. The room's three numbers make the block of `from_top`.
-- Assumes nothing.
use native.Mathlib.Omega.{arith}
use Rattle.requests.proofs.Plans.{plain_formed}
use Rattle.arena.proofs.Takes.{met, roomy, takes_room}
use Rattle.arena.proofs.take_top.Goals as goal

pub at_top-room-requires : goal.at_top-room-requires
at_top-room-requires c = rw c.simplify.ensures (plain_formed _ (met _ _ _ _ _ _ c.simplify.ensures c.requires).admitted.formed)

pub clear_range-requires : goal.clear_range-requires
clear_range-requires c =
    let k = roomy _ _ _ _ _ _ _ _ _ c.simplify.ensures c.requires c.at_top-room.ensures in
    (omega (arith, k.planned), k.whole)

pub overflow_cast-end : goal.overflow_cast-end
overflow_cast-end c = omega (arith, roomy _ _ _ _ _ _ _ _ _ c.simplify.ensures c.requires c.at_top-room.ensures)

pub overflow_cast-at : goal.overflow_cast-at
overflow_cast-at c = omega (arith, roomy _ _ _ _ _ _ _ _ _ c.simplify.ensures c.requires c.at_top-room.ensures)

pub overflow_sub-block : goal.overflow_sub-block
overflow_sub-block c = omega (arith, roomy _ _ _ _ _ _ _ _ _ c.simplify.ensures c.requires c.at_top-room.ensures)

pub overflow_sub-block-2 : goal.overflow_sub-block-2
overflow_sub-block-2 c = omega (arith, roomy _ _ _ _ _ _ _ _ _ c.simplify.ensures c.requires c.at_top-room.ensures)

pub returns : goal.returns
returns c =
    takes_room _ _ _ _ _ _ _ _ _ _ (roomy _ _ _ _ _ _ _ _ _ c.simplify.ensures c.requires c.at_top-room.ensures) c.with_top.ensures c.clear_range.ensures
