-- `arena::dealloc` meets its contract. The answers of `giving_back`, in the order of its tests.
-- Assumes nothing.
use mathlib.Core.Path.{sym, ◌∙◌}
use native.Mathlib.Omega.{arith}
use Rattle.freelist.proofs.Surveys.{found_unsound}
use Rattle.arena.proofs.Lists.{found_counted}
use Rattle.arena.proofs.Gives.{gives_read_only, gives_damaged, gives_low, gives_high, gives_overlap, gives_top, gives_below}
use Rattle.arena.proofs.dealloc.Goals.{then-offset-start-via-then-offset-start, then-offset-start-via-else-offset-start+then-allocated-end}
use Rattle.arena.proofs.dealloc.Goals as goal

pub returns-then-shape : goal.returns-then-shape
returns-then-shape c = gives_read_only _ _ _ _ _ (search)

pub returns-in_default : goal.returns-in_default
returns-in_default c = gives_damaged _ _ _ _ _ (search) (found_unsound _ _ _ (cc))

pub returns-then-offset-start : goal.returns-then-offset-start
returns-then-offset-start c =
    let good = (found_counted c.args.shape c.args.header c.args.buf.now c.in-Some.count (cc)).good in
    elim c.then-offset-start.branch [
      | then-offset-start-via-then-offset-start w ↦ gives_low _ _ _ _ _ (search) good (omega arith)
      | then-offset-start-via-else-offset-start+then-allocated-end w ↦ gives_high _ _ _ _ _ (search) good (omega arith) (omega arith)
    ]

pub free_nodes-nodes-requires : goal.free_nodes-nodes-requires
free_nodes-nodes-requires c = found_counted _ _ _ _ (cc)

pub returns-then-any_meets : goal.returns-then-any_meets
returns-then-any_meets c =
    let k = found_counted c.args.shape c.args.header c.args.buf.now c.in-Some.count (cc) in
    gives_overlap _ _ _ _ _ (search) k.good (omega arith) (omega arith) (rw c.free_nodes-nodes.ensures at (sym c.any_meets.ensures ∙ c.if-any_meets.true))

pub returns-then-end-allocated : goal.returns-then-end-allocated
returns-then-end-allocated c =
    let k = found_counted c.args.shape c.args.header c.args.buf.now c.in-Some.count (cc) in
    gives_top _ _ _ _ _ (search) k.good (omega arith) (omega arith) (rw c.free_nodes-nodes.ensures at (sym c.any_meets.ensures ∙ c.if-any_meets.false)) (omega arith) _ c.with_top.ensures

pub give_below-requires : goal.give_below-requires
give_below-requires c = record { found = found_counted _ _ _ _ (cc); ends_below = omega arith }

pub returns : goal.returns
returns c =
    let k = found_counted c.args.shape c.args.header c.args.buf.now c.in-Some.count (cc) in
    c.give_below.ensures
    ∙ gives_below _ _ _ _ _ (search) k.good (omega arith) (omega arith) (rw c.free_nodes-nodes.ensures at (sym c.any_meets.ensures ∙ c.if-any_meets.false)) (λ e. omega arith)
