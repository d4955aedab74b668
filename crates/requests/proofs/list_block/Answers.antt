-- `requests::list_block` meets its contract. A rounded offset stays within the memory, since the need counts the alignment. Assumes nothing.
use native.Mathlib.Omega.{arith}
use Rattle.requests.specs.Request.{list_block}
use Rattle.requests.proofs.Layouts.{typed_formed, aligned_formed}
use Rattle.requests.proofs.list_block.Goals as goal

pub align_offset-requires : goal.align_offset-requires
align_offset-requires c = let typed = typed_formed c.in-Typed.is c.requires.0 in (typed.good, omega (arith, typed))

pub align_offset-at-requires : goal.align_offset-at-requires
align_offset-at-requires c = let aligned = (aligned_formed c.in-Aligned.is c.requires.0).0 in (aligned.good, omega (arith, aligned))

pub returns-in-Bytes : goal.returns-in-Bytes
unfolding list_block
returns-in-Bytes c = rw c.in-Bytes.is
