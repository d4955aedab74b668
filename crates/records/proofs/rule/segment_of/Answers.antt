-- `records::rule::segment_of` meets its contract, by its tests.
-- Assumes nothing.
use Rattle.std.proofs.Common.{arith}
use Rattle.std.proofs.lemmas.Bool.Decides.{nat_tests}
use Rattle.records.specs.Rule.{segment_of}
use Rattle.records.proofs.rule.segment_of.Goals as goal

pub returns : goal.returns
unfolding segment_of
returns c = grind (arith, nat_tests)
