-- `freelist::link::link` meets its contract. The list's first or a node's next half, by `link_head_lem` and `link_node`.
-- Assumes nothing.
use Rattle.freelist.proofs.Links.{link_head_lem, link_node}
use Rattle.freelist.proofs.link.link.Goals as goal

pub returns-then-prev-eq-END_MARK : goal.returns-then-prev-eq-END_MARK
returns-then-prev-eq-END_MARK c =
    let e = link_head_lem _ _ _ _ c.if-prev-eq-END_MARK.true in
    record { bytes = e.0; starts = e.1 }

pub returns : goal.returns
returns c =
    let e = link_node _ _ _ _ _ _ _ c.if-prev-eq-END_MARK.false c.node_at-node.ensures.sized c.from.ensures c.put_word.ensures in
    record { bytes = e.0; starts = e.1 }
