-- `u8::from` of a policy meets its contract. The optimistic list's code is written out, so that codes that change places are refused for what they are.
-- Assumes nothing.
use mathlib.Core.Path.{refl}
use Rattle.records.proofs.set_up.U8FromPolicy.from.Goals as goal

pub returns-in-Ordered-Optimistic : goal.returns-in-Ordered-Optimistic
returns-in-Ordered-Optimistic c =
    let order = rw c.in-Ordered-Optimistic.is at c.in-Ordered-Optimistic.field-0-is in
    simp (c.in-Ordered-Optimistic.is, order) (refl {a = 1})
