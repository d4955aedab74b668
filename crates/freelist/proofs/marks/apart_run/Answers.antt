-- `freelist::marks::apart_run` meets its contract: the three tests say the same.
-- Assumes nothing.
use Rattle.std.proofs.Common.{arith}
use Rattle.freelist.specs.Nodes.{rest}
use Rattle.freelist.proofs.Claims.{marks_apart}
use Rattle.freelist.proofs.marks.apart_run.Goals as goal

pub returns-then-top-le-SMALL_SPAN : goal.returns-then-top-le-SMALL_SPAN
returns-then-top-le-SMALL_SPAN c =
    marks_apart c.args.top 8192 (omega arith) (rest c.args.nodes) c.requires _ c.window_apart.ensures

pub returns : goal.returns
returns c = marks_apart c.args.top _ (omega arith) (rest c.args.nodes) c.requires _ c.windows_apart.ensures
