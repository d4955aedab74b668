-- `requests::at_top` meets its contract: the numbers of the layout; the arms differ in where zeroing starts. Assumes nothing.
use mathlib.Core.Logic.{inl, inr}
use Rattle.requests.proofs.Plans.{plan_bytes, plan_typed, plan_aligned}
use Rattle.requests.proofs.at_top.Goals as goal

pub returns-in-Aligned : goal.returns-in-Aligned
returns-in-Aligned c = plan_aligned _ _ c.requires _ c.from-layout.ensures _ c.align_offset-at.ensures.is c.in-Aligned.is

pub returns-in-Bytes : goal.returns-in-Bytes
returns-in-Bytes c = elim c.in-Bytes.is [
  | inl bytes ↦ plan_bytes _ _ c.requires _ c.from-layout.ensures _ c.align_offset-at.ensures.is bytes.1
  | inr typed ↦ plan_typed _ _ c.requires _ c.from-layout.ensures _ c.align_offset-at.ensures.is typed.2
]
