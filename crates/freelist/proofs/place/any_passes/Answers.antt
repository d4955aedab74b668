-- `freelist::place::any_passes` meets its contract. Each node ends inside the buffer, so the test may be called on it.
-- Assumes nothing.
use Rattle.std.proofs.Common.{refl, rules, of_calls}
use Rattle.std.proofs.lemmas.Iterator.Adapters.{serves_from_places}
use Rattle.std.proofs.lemmas.Iterator.Consumers.{YieldsList-from_first}
use Rattle.std.proofs.lemmas.Iterator.Search.{any_from_yields_List}
use Rattle.freelist.specs.Nodes.{rest}
use Rattle.freelist.proofs.Iterating.{nth_inside}
use Rattle.freelist.proofs.place.any_passes.Goals as goal

pub any-requires-clause-callable : goal.any-requires-clause-callable
any-requires-clause-callable g c =
    serves_from_places (YieldsList-from_first (λ x. x) rest (rest c.args.nodes) refl) (λ x q r. search (rules, of_calls)) (λ x k h e. search (rules, of_calls, c.requires, nth_inside c.args.nodes x k h e))

pub returns : goal.returns
returns g c f says =
    any_from_yields_List f c.any.new.self _ _ c.any.ensures.ran (YieldsList-from_first (λ x. x) rest (rest c.args.nodes) refl) (λ x b q k. search (rules, of_calls, says))
