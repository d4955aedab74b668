-- `exports::named_by` meets its contract. Of two bytes that are truths, what the code names is written out, so that a byte that is none is refused for its
-- value. Assumes nothing.
use native.Mathlib.Omega.{arith}
use borrow.Author.Tests.{le-leb}
use Rattle.exports.specs.Crossing.{named_by}
use Rattle.exports.proofs.named_by.Goals as goal

pub returns : goal.returns
unfolding named_by
returns c = simp (le-leb c.args.shape.unify 1 (omega arith), le-leb c.args.shape.read_only 1 (omega arith)) c.try_from.ensures
