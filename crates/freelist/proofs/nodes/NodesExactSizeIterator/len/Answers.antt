-- `freelist::nodes::Nodes::len` meets its contract. Assumes nothing.
use Rattle.std.proofs.Common.{sym}
use Rattle.freelist.proofs.Iterating.{rest_left}
use Rattle.freelist.proofs.nodes.NodesExactSizeIterator.len.Goals as goal

pub returns-clause-value : goal.returns-clause-value
returns-clause-value c = sym (rest_left c.args.self.now)
