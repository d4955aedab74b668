-- `arena::discard_freelist` meets its contract. The answers of `discarding`, in the order of its tests.
-- Assumes nothing.
use native.Mathlib.Omega.{arith}
use Rattle.freelist.proofs.Arenas.{sound_head, sound-sizes}
use Rattle.freelist.proofs.Surveys.{found_unsound}
use Rattle.arena.proofs.Lists.{found_counted}
use Rattle.arena.proofs.Rewinds.{discards_read_only, discards_damaged, discards_sum}
use Rattle.arena.proofs.discard_freelist.Goals as goal

pub returns-then-shape : goal.returns-then-shape
returns-then-shape c = discards_read_only _ _ _ (search)

pub returns-in_default : goal.returns-in_default
returns-in_default c = discards_damaged _ _ _ (search) (found_unsound _ _ _ (cc))

pub free_nodes-nodes-requires : goal.free_nodes-nodes-requires
free_nodes-nodes-requires c = found_counted _ _ _ _ (cc)

pub sum_sizes-sum-requires : goal.sum_sizes-sum-requires
sum_sizes-sum-requires c =
    let k = found_counted c.args.shape c.args.header c.args.buf.now c.in-Some.count (cc) in
    rw c.free_nodes-nodes.ensures (omega (arith, sound-sizes _ _ _ k.good, sound_head _ _ _ k.good))

pub overflow_cast-sum : goal.overflow_cast-sum
overflow_cast-sum c =
    let k = found_counted c.args.shape c.args.header c.args.buf.now c.in-Some.count (cc) in
    omega (arith, rw c.free_nodes-nodes.ensures at c.sum_sizes-sum.ensures, sound-sizes _ _ _ k.good, sound_head _ _ _ k.good)

pub returns : goal.returns
returns c =
    let k = found_counted c.args.shape c.args.header c.args.buf.now c.in-Some.count (cc) in
    discards_sum _ _ _ (search) k.good _ (rw c.free_nodes-nodes.ensures at c.sum_sizes-sum.ensures) _ _ c.with_first.ensures c.lose.ensures
