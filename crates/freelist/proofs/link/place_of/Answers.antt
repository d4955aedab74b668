-- `freelist::link::place_of` meets its contract: the test is `leads`.
-- Assumes nothing.
use Rattle.std.proofs.Common.{rules}
use Rattle.freelist.specs.Segs.{leads}
use Rattle.freelist.proofs.link.place_of.Goals as goal

pub returns : goal.returns
returns c = rw c.new.ensures at (c.find_place.ensures (leads c.args.order c.args.segment) (λ s r p. search rules))
