-- `requests::well_formed` meets its contract: the test of the layout. Assumes nothing.
use borrow.Author.Tests.{le-leb, lt-leb}
use Rattle.requests.proofs.Layouts.{formed_laid}
use Rattle.requests.proofs.well_formed.Goals as goal

pub returns-then-layout-le-LIMIT : goal.returns-then-layout-le-LIMIT
returns-then-layout-le-LIMIT c = simp (c.good_layout.ensures, formed_laid, ← c.from-layout.ensures, le-leb _ _ c.if-layout-le-LIMIT.true)

pub returns-else-layout-le-LIMIT : goal.returns-else-layout-le-LIMIT
returns-else-layout-le-LIMIT c = simp (formed_laid, ← c.from-layout.ensures, lt-leb _ _ c.if-layout-le-LIMIT.false)
