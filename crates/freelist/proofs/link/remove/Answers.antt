-- `freelist::link::remove` meets its contract. The link past the node is `Removed`.
-- Assumes nothing.
use Prim.Native.Nat.{◌<◌}
use native.Mathlib.Omega.{arith}
use lib.ListN.{length}
use Rattle.freelist.specs.Segs.{passed}
use Rattle.freelist.proofs.Runs.{length-passed}
use Rattle.freelist.proofs.Seeks.{prev_in, next_in, removed}
use Rattle.freelist.proofs.link.remove.Goals as goal
use Prim.Native.Nat.{ℕ}

placed : (w : ℕ → ℕ) (count head index : ℕ) → index < count → index < length (passed w count head)
placed w count head index h = rw length-passed h

pub node_at-next-requires : goal.node_at-next-requires
node_at-next-requires c =
    next_in _ _ _ _ _ c.requires.stands c.requires.ends (placed _ _ _ _ c.requires.index_in)

pub link-requires : goal.link-requires
link-requires c =
    record { prev_in = prev_in _ _ _ _ _ c.requires.stands c.requires.ends; to_fits = omega arith }

pub returns : goal.returns
returns c =
    removed _ _ _ _ _ _ _ _ _ c.requires.stands c.requires.run (placed _ _ _ _ c.requires.index_in) c.node_at-next.ensures.nexted (c.link.ensures.bytes, c.link.ensures.starts)
