-- `freelist::place::find_place` meets its contract. Each way of a turn is one law of `Seeks`.
-- Assumes nothing.
use Rattle.std.proofs.Common.{◌≡◌, sym, ap, ◌∙◌, length, arith, rules}
use mathlib.Core.Logic.{inl}
use Rattle.std.specs.Iterator.Adapters.{enumerate_source, enumerate_count}
use Rattle.freelist.proofs.Iterating.{next_inside, rest_left}
use Rattle.freelist.proofs.Seeks.{seek_begins, seek_hit, seek_miss, seek_none, one_more}
use Rattle.freelist.proofs.place.find_place.Goals as goal

pub loop-index-init : goal.loop-index-init
loop-index-init g c = search (rules, rest_left c.args.nodes, seek_begins)

pub test-requires : goal.test-requires
test-requires g c = c.requires _ (omega (arith, next_inside (enumerate_source c.loop-index.index-iterator) _ _ c.in-Some.ensures.steps.0))

pub returns-then-test : goal.returns-then-test
returns-then-test g c f says =
    rw c.in-Some.ensures.steps.1 (seek_hit f _ _ _ _ (c.loop-index.invariant.3 f says) _ _ c.in-Some.ensures.steps.0 (sym (says _ _ c.test.ensures) ∙ c.if-test.true))

pub loop-index-preserved : goal.loop-index-preserved
loop-index-preserved g c = (
  (tt, tt, inl (omega (arith, c.loop-index.invariant.2, c.in-Some.ensures.steps.2, one_more _ _ _ c.in-Some.ensures.steps.0, rest_left c.args.nodes, c.ranges.nodes))),
  tt,
  omega (arith, c.loop-index.invariant.2, c.in-Some.ensures.steps.2, one_more _ _ _ c.in-Some.ensures.steps.0),
  λ f says. rw c.in-Some.ensures.steps.2 (seek_miss f _ _ _ _ (c.loop-index.invariant.3 f says) _ _ c.in-Some.ensures.steps.0 (sym (says _ _ c.test.ensures) ∙ c.if-test.false)),
)

pub returns : goal.returns
returns g c f says =
    let e : c.len.result ≡ enumerate_count c.loop-index.index-iterator = omega (arith, c.loop-index.invariant.2, ap length c.in-None.ensures.steps.0.0, c.len.ensures.value) in
    rw e (seek_none f _ _ _ _ (c.loop-index.invariant.3 f says) c.in-None.ensures.steps.0.0)
