-- `positions::current_top` meets its contract: the answers of `exact_top`, for no sum in a u64 and then in the order of its tests. Assumes nothing.
use Rattle.std.proofs.Common.{pos, arith, sym, ◌∙◌}
use Rattle.std.proofs.lemmas.Int.{ints, by_lt_z}
use Rattle.positions.proofs.Sums.{sum_is, reach_under, reach_cap, reach_zero, reach_else}
use Rattle.positions.proofs.current_top.Goals as goal

pub returns-in-None : goal.returns-in-None
returns-in-None c =
    sym (by_lt_z _ (pos 0) (reach_under _ _ _ _) (λ h. absurd (c.in-None.ensures (omega (arith, ints, h), omega (arith, ints)))))

pub returns-in-Some : goal.returns-in-Some
returns-in-Some c =
    rw (sum_is c.ranges.d c.from.ensures c.in-Some.ensures) (sym (reach_cap _ _ _ _ (omega arith)))

pub returns-in-Some-eq0 : goal.returns-in-Some-eq0
returns-in-Some-eq0 c =
    rw (sum_is c.ranges.d c.from.ensures c.in-Some.ensures) (sym (reach_zero _ _ _ _ (omega arith) (omega arith)))

pub returns-in-Some-2 : goal.returns-in-Some-2
returns-in-Some-2 c =
    rw (sum_is c.ranges.d c.from.ensures c.in-Some.ensures) (c.max.ensures ∙ sym (reach_else _ _ _ _ (omega arith) (omega arith)))
