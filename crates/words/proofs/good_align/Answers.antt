-- `words::good_align` meets its contract: a number past 4096 is no good alignment, and up to there the powers of two are. Assumes nothing.
use mathlib.Core.Path.{sym, ◌∙◌}
use native.Mathlib.Omega.{arith}
use borrow.Author.Tests.{lt-leb}
use Rattle.words.proofs.Powers.{align_large, align_is}
use Rattle.words.proofs.good_align.Goals as goal

pub returns-then-a-le-MAX_ALIGN : goal.returns-then-a-le-MAX_ALIGN
returns-then-a-le-MAX_ALIGN c = c.is_power_of_two.ensures ∙ sym (align_is _ (omega arith))

pub returns-else-a-le-MAX_ALIGN : goal.returns-else-a-le-MAX_ALIGN
returns-else-a-le-MAX_ALIGN c = lt-leb _ _ (omega arith) ∙ sym (align_large _ (omega arith))
