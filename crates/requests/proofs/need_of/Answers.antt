-- `requests::need_of` meets its contract: the number of `need`, by the layout. Assumes nothing.
use native.Mathlib.Omega.{arith}
use Rattle.requests.proofs.Layouts.{laid_formed}
use Rattle.requests.proofs.Plans.{need_laid, needed}
use Rattle.requests.proofs.need_of.Goals as goal

pub overflow_sub-result : goal.overflow_sub-result
overflow_sub-result c = rw c.from-layout.ensures (omega (arith, (laid_formed _ c.requires).0))

pub returns : goal.returns
returns c = rw (c.from-layout.ensures, need_laid) (needed _ c.requires)
