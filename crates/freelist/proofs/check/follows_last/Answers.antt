-- `freelist::check::follows_last` meets its contract: the order is asked of the last node and this one.
-- Assumes nothing.
use Rattle.std.proofs.Common.{◌≡◌, Bool, true, Option, Some, None, option_map, unwrap_or, rules}
use Rattle.std.specs.Option.{MatchOption}
use Rattle.records.specs.declared.Order.{Order}
use Rattle.records.specs.declared.Segment.{Segment}
use Rattle.freelist.specs.Segs.{leads}
use Rattle.freelist.proofs.check.follows_last.Goals as goal

told : (o : Order) (node : Segment) (last : Option Segment) (r : Bool) (F : Segment → Type 0) → MatchOption last (r ≡ true) F → ((s : Segment) → F s → r ≡ leads o s node) → r ≡ unwrap_or (option_map (λ s. leads o s node) last) true
told o node None r F h says = h
told o node (Some s) r F h says = says s h

pub returns : goal.returns
returns c = told c.args.order c.args.node c.args.last c.is_none_or.result _ c.is_none_or.ensures (λ s p. search rules)
