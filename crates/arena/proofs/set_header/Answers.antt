-- `arena::set_header` meets its contract. The answers of `setting`, in the order of its tests.
-- Assumes nothing.
use mathlib.Core.Path.{sym, ◌∙◌}
use Rattle.arena.proofs.Rewinds.{sets_read_only, sets_damaged, sets_done}
use Rattle.arena.proofs.set_header.Goals as goal

pub returns-then-shape : goal.returns-then-shape
returns-then-shape c = sets_read_only _ _ _ _ (search)

pub returns-then-not-head_sound : goal.returns-then-not-head_sound
returns-then-not-head_sound c = sets_damaged _ _ _ _ (search) (sym c.head_sound.ensures ∙ c.if-not-head_sound.true)

pub returns : goal.returns
returns c = sets_done _ _ _ _ (search) (sym c.head_sound.ensures ∙ c.if-not-head_sound.false)
