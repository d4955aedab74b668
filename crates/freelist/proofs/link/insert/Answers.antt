-- `freelist::link::insert` meets its contract. The place, the node and the link together are `Inserted`.
-- Assumes nothing.
use Rattle.std.proofs.Common.{arith}
use Rattle.freelist.proofs.Links.{inserted}
use Rattle.freelist.proofs.Seeks.{prev_in, next_small}
use Rattle.freelist.proofs.link.insert.Goals as goal

pub overflow_cast-node-2 : goal.overflow_cast-node-2
overflow_cast-node-2 c = omega (arith, next_small _ _ _ _ _ c.place_of-spot.ensures.stands c.requires.ends (omega arith))

pub link-requires : goal.link-requires
link-requires c =
    record { prev_in = λ h. omega (arith, prev_in _ _ _ _ _ c.place_of-spot.ensures.stands c.requires.ends h); to_fits = omega arith }

pub returns : goal.returns
returns c =
    inserted _ _ _ _ _ _ _ _ _ _ _ _ c.place_of-spot.ensures c.from.ensures c.put_word.ensures (c.link.ensures.bytes, c.link.ensures.starts)
