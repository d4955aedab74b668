-- `freelist::sound::arena_sound` meets its contract: the check gives an answer of a sound arena, and of no other.
-- Assumes nothing.
use Rattle.std.proofs.Common.{◌∙◌}
use Rattle.freelist.proofs.Surveys.{answers_sound}
use Rattle.freelist.proofs.sound.arena_sound.Goals as goal

pub returns : goal.returns
returns c = c.is_some.ensures ∙ rw c.survey.ensures (answers_sound _ _ _)
