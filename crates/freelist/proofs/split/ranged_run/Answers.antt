-- `freelist::split::ranged_run` meets its contract. Each way of a turn is one law of `Walks`.
-- Assumes nothing.
use mathlib.Core.Path.{refl, sym, ◌∙◌}
use native.Mathlib.Omega.{arith}
use Rattle.freelist.proofs.Checks.{in_range_lem}
use Rattle.freelist.proofs.Walks.{walk_begins, walk_end, walk_no_range, walk_no_order, walk_goes, walk_limit, walk_told}
use Rattle.freelist.proofs.split.ranged_run.Goals as goal

pub loop-count-init : goal.loop-count-init
loop-count-init c = walk_begins _ _ _ _ _

pub returns-then-p-eq-END_MARK : goal.returns-then-p-eq-END_MARK
returns-then-p-eq-END_MARK c =
    rw c.if-p-eq-END_MARK.true at (walk_end _ _ _ _ _ _ _ _ _ c.loop-count.invariant c.loop-count-test.true c.if-p-eq-END_MARK.true)

pub returns-then-not-node_ok : goal.returns-then-not-node_ok
returns-then-not-node_ok c =
    (_, _, walk_no_range _ _ _ _ _ _ _ _ _ c.loop-count.invariant c.loop-count-test.true c.if-p-eq-END_MARK.false (sym c.node_ok.ensures ∙ c.if-not-node_ok.true), c.if-p-eq-END_MARK.false)

pub node_at-node-requires : goal.node_at-node-requires
node_at-node-requires c = omega (arith, in_range_lem _ _ _ (sym c.node_ok.ensures ∙ c.if-not-node_ok.false), c.requires)

pub returns-then-not-follows_last : goal.returns-then-not-follows_last
returns-then-not-follows_last c =
    let f = c.follows_last in
    (_, _, walk_no_order _ _ _ _ _ _ _ _ _ c.loop-count.invariant _ (rw c.node_at-node.ensures.sized refl) _ f.ensures c.loop-count-test.true c.if-p-eq-END_MARK.false (sym c.node_ok.ensures ∙ c.if-not-node_ok.false) c.if-not-follows_last.true, c.if-p-eq-END_MARK.false)

pub loop-count-preserved : goal.loop-count-preserved
loop-count-preserved c =
    let f = c.follows_last in
    rw c.node_at-node.ensures.nexted
    (walk_goes _ _ _ _ _ _ _ _ _ c.loop-count.invariant _ (rw c.node_at-node.ensures.sized refl) _ f.ensures c.loop-count-test.true c.if-p-eq-END_MARK.false (sym c.node_ok.ensures ∙ c.if-not-node_ok.false) c.if-not-follows_last.false)

pub returns : goal.returns
returns c = walk_told _ _ _ _ _ _ (walk_limit _ _ _ _ _ _ _ _ _ c.loop-count.invariant c.loop-count-test.false) c.then_some.ensures
