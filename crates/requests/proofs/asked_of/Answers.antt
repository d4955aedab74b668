-- `requests::asked_of` meets its contract: each arm makes the number of `asked`, and a well-formed request bounds it. Assumes nothing.
use native.Mathlib.Omega.{arith}
use Rattle.requests.specs.Request.{asked}
use Rattle.requests.proofs.Layouts.{bytes_formed, typed_formed, aligned_formed}
use Rattle.requests.proofs.asked_of.Goals as goal

pub align_offset-requires : goal.align_offset-requires
align_offset-requires c = let typed = typed_formed c.in-Typed.is c.requires.0 in (typed.good, omega (arith, typed))

pub returns-in-Bytes : goal.returns-in-Bytes
unfolding asked
returns-in-Bytes c = (rw c.in-Bytes.is, omega (arith, bytes_formed c.in-Bytes.is c.requires.0))

pub returns-in-Typed : goal.returns-in-Typed
unfolding asked
returns-in-Typed c = (rw (c.in-Typed.is, c.align_offset.ensures.is), omega (arith, typed_formed c.in-Typed.is c.requires.0))

pub returns-in-Aligned : goal.returns-in-Aligned
unfolding asked
returns-in-Aligned c = (rw c.in-Aligned.is, omega (arith, aligned_formed c.in-Aligned.is c.requires.0))
