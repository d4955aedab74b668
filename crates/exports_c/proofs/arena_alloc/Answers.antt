-- `exports_c::arena_alloc` meets its contract: the clause is that of the function it calls. Written out, so that numbers that change places are refused for
-- what they say. Assumes nothing.
use Rattle.exports_c.proofs.arena_alloc.Goals as goal

pub returns : goal.returns
returns c = c.arena_alloc.ensures
