-- `freelist::marks::claim_run` meets its contract. Each way of a turn is one law of `Claims`.
-- Assumes nothing.
use Rattle.std.proofs.Common.{◌≡◌, refl, ◌∙◌, true, arith}
use mathlib.Core.Logic.Iff
use Rattle.freelist.specs.Nodes.{rest}
use Rattle.freelist.proofs.Claims.{tells_yes, tells_no, claim_hit, claim_goes, new_claimable}
use Rattle.freelist.proofs.marks.claim_run.Goals as goal

pub loop-node-init : goal.loop-node-init
loop-node-init c =
    (tt, tt, refl, rw c.into_iter-node-iterator.ensures.into_iter_gives (new_claimable _ _ c.requires.0 (rest c.args.nodes)))

pub returns-then-not-claim : goal.returns-then-not-claim
returns-then-not-claim c h =
    let i = c.loop-node in
    claim_hit _ i.marks _ _ _ (omega arith) (omega arith) _ _ c.in-Some.ensures.steps (tells_no c.claim.result _ c.if-not-claim.true c.claim.ensures.tells) (i.invariant.3.0 h)

pub loop-node-preserved : goal.loop-node-preserved
loop-node-preserved c =
    let i = c.loop-node in
    let yes : c.claim.result ≡ true = c.if-not-claim.false in
    let unset = tells_yes c.claim.result _ yes c.claim.ensures.tells in
    (tt, tt, c.claim.auto.marks ∙ i.invariant.2, Iff.trans i.invariant.3 (claim_goes _ i.marks _ _ _ (omega arith) (omega arith) _ _ c.in-Some.ensures.steps _ c.claim.auto.marks (c.claim.ensures.marked yes) unset))
