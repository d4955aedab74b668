-- `freelist::split::apart_pairs` meets its contract: a list with a node of which a later one has a byte is not apart.
-- Assumes nothing.
use Rattle.std.proofs.Common.{sym, ◌∙◌}
use Rattle.freelist.proofs.Aparts.{apart_hit, apart_miss}
use Rattle.freelist.proofs.split.apart_pairs.Goals as goal

pub returns-then-any_meets : goal.returns-then-any_meets
returns-then-any_meets c =
    sym (c.loop-s.invariant ∙ apart_hit _ _ c.in-Some.s c.in-Some.ensures.steps (rw c.end.ensures at (sym c.any_meets.ensures ∙ c.if-any_meets.true)))

pub loop-s-preserved : goal.loop-s-preserved
loop-s-preserved c =
    c.loop-s.invariant ∙ apart_miss _ _ c.in-Some.s c.in-Some.ensures.steps (rw c.end.ensures at (sym c.any_meets.ensures ∙ c.if-any_meets.false))
