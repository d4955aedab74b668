-- `arena::end_at_top` meets its contract: past its tests it is where the request ends at the top.
-- Assumes nothing.
use Rattle.std.proofs.Common.{sym, ◌∙◌}
use Rattle.arena.proofs.Takes.{ends_open}
use Rattle.arena.proofs.end_at_top.Goals as goal

pub returns : goal.returns
returns c =
    c.top_end.ensures ∙ ends_open _ _ _ _ c.if-shape.false (sym c.head_sound.ensures ∙ c.if-not-head_sound.false)
