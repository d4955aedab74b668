-- `arena::take_node` meets its contract. `NodeOut` says what holds once the node left the list.
-- Assumes nothing.
use Rattle.std.proofs.Common.{◌∙◌, arith}
use Rattle.freelist.proofs.Seeks.{next_in}
use Rattle.freelist.proofs.Arenas.{sound_ends}
use Rattle.arena.proofs.Lists.{free_held}
use Rattle.arena.proofs.Serves.{node_out, serves_out}
use Rattle.arena.proofs.take_node.Goals as goal

pub node_at-size-requires : goal.node_at-size-requires
node_at-size-requires c =
    next_in _ _ _ _ _ c.requires.serves.stands (sound_ends _ _ _ c.requires.found.good) c.requires.serves.inside

pub remove-first-requires : goal.remove-first-requires
remove-first-requires c =
    let k = free_held _ _ _ _ _ c.requires.found c.first.ensures in
    record {
      ends = k.ends;
      stands = rw k.are c.requires.serves.stands;
      run = rw k.are k.run;
      index_in = omega (arith, c.requires.serves.inside, c.requires.found.counts);
    }

pub overflow_sub-count : goal.overflow_sub-count
overflow_sub-count c = omega (arith, c.requires.serves.inside, c.requires.found.counts)

pub serve_node-requires : goal.serve_node-requires
serve_node-requires c =
    let g = node_out _ _ _ _ _ _ _ _ _ _ _ c.requires.found c.requires.listed.0 c.first.ensures c.requires.serves c.node_at-size.ensures.sized c.remove-first.ensures in
    record { ends = g.held.ends; small = g.small; room = (g.inside, g.limited); formed = (c.requires.listed.1, g.room) }

pub returns : goal.returns
returns c =
    let g = node_out _ _ _ _ _ _ _ _ _ _ _ c.requires.found c.requires.listed.0 c.first.ensures c.requires.serves c.node_at-size.ensures.sized c.remove-first.ensures in
    c.serve_node.ensures ∙ serves_out _ _ _ _ _ _ _ _ _ _ g
