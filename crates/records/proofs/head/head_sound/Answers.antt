-- `records::head::head_sound` meets its contract, by its tests.
-- Assumes nothing.
use Rattle.std.proofs.Common.{arith}
use Rattle.std.proofs.lemmas.Bool.Decides.{nat_tests}
use Rattle.records.specs.Head.{head_sound}
use Rattle.records.proofs.head.head_sound.Goals as goal

pub returns-then-shape-header : goal.returns-then-shape-header
unfolding head_sound
returns-then-shape-header c = grind (arith, nat_tests)

pub returns-else-shape-header : goal.returns-else-shape-header
unfolding head_sound
returns-else-shape-header c = grind (arith, nat_tests)
