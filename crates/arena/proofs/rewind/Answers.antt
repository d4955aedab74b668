-- `arena::rewind` meets its contract. The answers of `rewinding`, in the order of its tests.
-- Assumes nothing.
use mathlib.Core.Path.{sym, ◌∙◌}
use Rattle.freelist.proofs.Surveys.{found_unsound}
use Rattle.arena.proofs.Lists.{found_counted}
use Rattle.arena.proofs.Rewinds.{rewinds_read_only, rewinds_damaged, rewinds_cuts, rewinds_done}
use Rattle.arena.proofs.rewind.Goals as goal

pub returns-then-shape : goal.returns-then-shape
returns-then-shape c = rewinds_read_only _ _ _ _ (search)

pub returns-in_default : goal.returns-in_default
returns-in_default c = rewinds_damaged _ _ _ _ (search) (found_unsound _ _ _ (cc))

pub free_nodes-nodes-requires : goal.free_nodes-nodes-requires
free_nodes-nodes-requires c = found_counted _ _ _ _ (cc)

pub returns-then-any_above : goal.returns-then-any_above
returns-then-any_above c =
    let k = found_counted c.args.shape c.args.header c.args.buf.now c.in-Some.count (cc) in
    rewinds_cuts _ _ _ _ (search) k.good _ c.new_top-top.ensures (rw c.free_nodes-nodes.ensures at (sym c.any_above.ensures ∙ c.if-any_above.true))

pub returns : goal.returns
returns c =
    let k = found_counted c.args.shape c.args.header c.args.buf.now c.in-Some.count (cc) in
    rewinds_done _ _ _ _ (search) k.good _ c.new_top-top.ensures (rw c.free_nodes-nodes.ensures at (sym c.any_above.ensures ∙ c.if-any_above.false)) _ c.with_top.ensures
