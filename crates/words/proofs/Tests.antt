-- The rules for `search` at a result whose definition picks its case by tests on numbers.
-- Assumes nothing.
use borrow.Author.Tests.{le-leb, lt-leb, le-ltb, lt-ltb, eq-eqb, ne_eqb}
use native.Mathlib.Omega.{arith}

pub ruleset tests = (le-leb, lt-leb, le-ltb, lt-ltb, eq-eqb, ne_eqb, arith)
