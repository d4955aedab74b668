-- `exports::arena_setup` meets its contract. What a setup of two bytes that are truths answers is written out, so that a byte that is none is refused for
-- its value. Assumes nothing.
use native.Mathlib.Omega.{arith}
use borrow.Author.Tests.{le-leb}
use Rattle.exports.specs.Crossing.{opening}
use Rattle.exports.proofs.arena_setup.Goals as goal

pub returns-in-Ok : goal.returns-in-Ok
unfolding opening
returns-in-Ok c = simp (le-leb c.args.unify 1 (omega arith), le-leb c.args.read_only 1 (omega arith), ← c.setup.ensures, c.in-Ok.is, c.store.ensures, c.from.ensures)
