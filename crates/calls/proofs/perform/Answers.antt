-- `calls::perform` meets its contract: the clause is that of the call it makes. Two cases are written out, so that a wrong one is refused for what it says.
-- Assumes nothing.
use Rattle.calls.proofs.perform.Goals as goal

pub returns-in-Give : goal.returns-in-Give
returns-in-Give c = rw c.in-Give.is c.dealloc.ensures

pub returns-in-SetMinimum : goal.returns-in-SetMinimum
returns-in-SetMinimum c = rw c.in-SetMinimum.is c.set_minimum_segment_size.ensures
