-- `arena::give_below` meets its contract. The answers of `below_top`: by the policy, then by the segment rule.
-- Assumes nothing.
use Rattle.std.proofs.Common.{arith}
use Rattle.words.specs.Word.{end_mark}
use Rattle.freelist.proofs.Links.{inserted_small}
use Rattle.arena.proofs.Lists.{free_held}
use Rattle.arena.proofs.Gives.{below_none, below_refused, node_inside, below_inserted}
use Rattle.arena.proofs.give_below.Goals as goal

pub returns-in_default : goal.returns-in_default
returns-in_default c = below_none _ _ _ _ _ (cc) _ c.lose.ensures

pub returns-in_default-segment_of : goal.returns-in_default-segment_of
returns-in_default-segment_of c = below_refused _ _ _ _ _ c.in-Ordered.order (cc) (cc) _ c.lose-in_default-segment_of.ensures

pub insert-head-requires : goal.insert-head-requires
insert-head-requires c =
    record {
      ends = (free_held _ _ _ _ _ c.requires.found c.first-first.ensures).ends;
      room = node_inside _ _ _ _ _ c.in-Some.segment (cc) c.requires.found.good c.requires.ends_below;
    }

pub overflow_cast-head : goal.overflow_cast-head
overflow_cast-head c =
    let inside = node_inside _ _ _ _ _ c.in-Some.segment (cc) c.requires.found.good c.requires.ends_below in
    omega (arith, inserted_small end_mark c.insert-head.ensures (omega arith) (omega (arith, inside)))

pub returns : goal.returns
returns c =
    let k = free_held _ _ _ _ _ c.requires.found c.first-first.ensures in
    below_inserted _ _ _ _ _ c.in-Some.segment (cc) c.in-Ordered.order (cc) _ _ c.first-first.ensures k _ _ c.insert-head.ensures _ _ c.with_first.ensures c.lose-2.ensures
