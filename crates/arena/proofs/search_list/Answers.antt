-- `arena::search_list` meets its contract. The answers of `look`: by the order, and then by the room of the node that it looks at.
-- Assumes nothing.
use Rattle.std.proofs.Common.{arith, rules, tests, sym, ◌∙◌, leb}
use Rattle.freelist.proofs.Arenas.{sound_head, sound_ends}
use Rattle.arena.proofs.Takes.{looks_empty, looks_small, looks_first, looks_none, looks_fit}
use Rattle.arena.proofs.search_list.Goals as goal

pub returns-in_default : goal.returns-in_default
returns-in_default c =
    rw c.remaining-room.ensures (looks_empty _ _ _ (cc) _ (sym c.free_nodes-nodes.ensures ∙ c.in_default.ensures.steps.0))

pub overflow_cast-result : goal.overflow_cast-result
overflow_cast-result c =
    let ends = rw (sym c.free_nodes-nodes.ensures ∙ c.in-Some.ensures.steps) at (sound_ends _ _ _ c.requires.good) in
    omega (arith, ends.0, sound_head _ _ _ c.requires.good)

pub returns-then-head-need : goal.returns-then-head-need
returns-then-head-need c =
    looks_small _ _ _ (cc) _ c.in-Some.head _ (sym c.free_nodes-nodes.ensures ∙ c.in-Some.ensures.steps) c.if-head-need.true

pub returns-else-head-need : goal.returns-else-head-need
returns-else-head-need c =
    looks_first _ _ _ (cc) _ c.in-Some.head _ (sym c.free_nodes-nodes.ensures ∙ c.in-Some.ensures.steps) c.if-head-need.false

pub returns-then-spot-count : goal.returns-then-spot-count
returns-then-spot-count c =
    looks_fit _ _ _ (cc) _ _ (rw c.free_nodes-nodes.ensures at (c.find_place-spot.ensures (λ s. leb c.args.need s.size) (λ s r p. search (rules, tests)))) (omega (arith, c.requires.counts))

pub returns-else-spot-count : goal.returns-else-spot-count
returns-else-spot-count c =
    rw c.remaining-room.ensures
    (looks_none _ _ _ (cc) _ _ (rw c.free_nodes-nodes.ensures at (c.find_place-spot.ensures (λ s. leb c.args.need s.size) (λ s r p. search (rules, tests)))) (omega (arith, c.requires.counts)))
