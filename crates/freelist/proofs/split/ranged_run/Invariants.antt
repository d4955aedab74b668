-- `freelist::split::ranged_run` meets its contract. The invariant is `Walking`; each way of a turn is one law of `Walks`.
-- Assumes nothing.
use Rattle.freelist.proofs.Walks.{Walking}
use Rattle.freelist.proofs.split.ranged_run.Given as goal

abbrev pub invariant-loop-count : goal.invariant-loop-count
invariant-loop-count l = Walking l.buf l.head l.start l.top l.order l.limit l.count l.last l.p
