-- `arena::past_top` meets its contract. The answers of `past_top`: by the policy, and then by what the search of the list finds.
-- Assumes nothing.
use mathlib.Core.Path.{◌∙◌}
use native.Mathlib.Omega.{arith}
use Rattle.freelist.proofs.Arenas.{sound_head}
use Rattle.arena.proofs.Takes.{past_none, past_missed, past_found}
use Rattle.arena.proofs.past_top.Goals as goal

pub asked_of-requested-requires : goal.asked_of-requested-requires
asked_of-requested-requires c =
    (c.requires.formed, omega (arith, sound_head _ _ _ c.requires.found.good))

pub returns-in_default : goal.returns-in_default
returns-in_default c = past_none _ _ _ _ (cc) _ _ c.asked_of-requested.ensures.0 c.remaining-available.ensures

pub returns-in-Ok : goal.returns-in-Ok
returns-in-Ok c =
    let g = rw c.in-Ok.is at c.search_list.ensures in
    c.take_node.ensures ∙ past_found _ _ _ _ _ (cc) _ c.need_of-need.ensures.is _ g.0

pub returns-in-Err : goal.returns-in-Err
returns-in-Err c = past_missed _ _ _ _ _ (cc) _ c.need_of-need.ensures.is _ (rw c.in-Err.is at c.search_list.ensures)
