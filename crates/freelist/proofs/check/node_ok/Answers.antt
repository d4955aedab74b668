-- `freelist::check::node_ok` meets its contract. Each refusal contradicts `InRange`, and `omega` finds where.
-- Assumes nothing.
use mathlib.Core.Path.{sym, ◌∙◌}
use mathlib.Core.Bool.{false≢true}
use native.Mathlib.Omega.{arith}
use Rattle.freelist.proofs.Checks.{range_no, range_test}
use Rattle.freelist.proofs.check.node_ok.Goals as goal

pub returns-then-not-is_multiple_of : goal.returns-then-not-is_multiple_of
returns-then-not-is_multiple_of c = sym (range_no _ _ _ (λ h. false≢true (sym c.if-not-is_multiple_of.true ∙ c.is_multiple_of.ensures.1 h.aligned)))

pub returns-then-p-start : goal.returns-then-p-start
returns-then-p-start c = sym (range_no _ _ _ (λ h. omega arith))

pub returns-then-top-lt-NODE_SIZE : goal.returns-then-top-lt-NODE_SIZE
returns-then-top-lt-NODE_SIZE c = sym (range_no _ _ _ (λ h. omega arith))

pub returns-then-top-p : goal.returns-then-top-p
returns-then-top-p c = sym (range_no _ _ _ (λ h. omega arith))

pub returns-then-size-eq0 : goal.returns-then-size-eq0
returns-then-size-eq0 c = sym (range_no _ _ _ (λ h. omega arith))

pub returns-then-top-p-2 : goal.returns-then-top-p-2
returns-then-top-p-2 c = sym (range_no _ _ _ (λ h. omega arith))

pub returns : goal.returns
returns c = sym (range_test _ _ _ (omega (arith, c.is_multiple_of.ensures.0 c.if-not-is_multiple_of.false)))
