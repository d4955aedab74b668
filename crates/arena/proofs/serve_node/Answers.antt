-- `arena::serve_node` meets its contract. The two answers of the segment rule are those of `serve_from`.
-- Assumes nothing.
use Rattle.std.proofs.Common.{◌∙◌, arith}
use Rattle.words.specs.Word.{end_mark}
use Rattle.freelist.proofs.Links.{inserted_small}
use Rattle.arena.proofs.Serves.{serves_from_whole, rest_inside, serves_from_split}
use Rattle.arena.proofs.serve_node.Goals as goal

pub returns-in_default : goal.returns-in_default
returns-in_default c = c.hand_out.ensures ∙ serves_from_whole _ _ _ _ _ _ _ _ c.need_of-need.ensures.is (cc) _ c.with_first-next.ensures

pub insert-head-requires : goal.insert-head-requires
insert-head-requires c =
    record {
      ends = c.requires.ends;
      room = (rest_inside c.args.header c.args.request c.args.node _ _ c.in-Some.segment c.need_of-need.ensures.is c.requires.formed.1 c.requires.room.0 (cc), omega (arith, c.requires.room));
    }

pub overflow_cast-head : goal.overflow_cast-head
overflow_cast-head c =
    let inside = rest_inside c.args.header c.args.request c.args.node _ _ c.in-Some.segment c.need_of-need.ensures.is c.requires.formed.1 c.requires.room.0 (cc) in
    omega (arith, inserted_small end_mark c.insert-head.ensures c.requires.small (omega (arith, c.requires.room, inside)))

pub returns : goal.returns
returns c =
    c.hand_out-2.ensures ∙ serves_from_split _ _ _ _ _ _ _ _ c.need_of-need.ensures.is c.in-Some.segment (cc) _ _ c.insert-head.ensures _ _ c.with_first.ensures c.lose-next.ensures
