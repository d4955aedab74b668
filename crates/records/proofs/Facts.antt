-- A choice by a test; from the head's test to its facts, and back. The laws of tests that the crates above cite are the library's.
-- Assumes nothing.
use Prim.Native.Nat.{ℕ}
use native.Mathlib.Omega.{arith}
use mathlib.Core.Path.{◌≡◌}
use mathlib.Core.Bool.{Bool, true, false}
use Rattle.std.proofs.lemmas.Bool.Decides.{nat_tests}
use Rattle.words.specs.Pick.{pick}
use Rattle.records.specs.Head.{Head, head_sound}
use Rattle.records.specs.declared.Shape.{Shape}
use Rattle.records.specs.declared.Header.{Header}
pub use Rattle.std.proofs.lemmas.Bool.{and_parts as both, or_parts as neither, false_from_ne_true as fails}

-- what holds of both branches, each with what the test says there, holds of the choice
pub pick_either : {A : Type 0} (P : A → Type 0) (t : Bool) (a b : A) → (t ≡ true → P a) → (t ≡ false → P b) → P (pick t a b)
pick_either P t a b f g = grind arith

module _ (s : Shape) (h : Header) (n : ℕ) where
  pub head_facts : head_sound s h n ≡ true → Head s h n
  unfolding head_sound
  head_facts e = grind (arith, nat_tests)

  pub facts_head : Head s h n → head_sound s h n ≡ true
  unfolding head_sound
  facts_head k = grind (arith, nat_tests)

  -- where one fact fails, so does the test
  pub head_no : (Head s h n → ⊥) → head_sound s h n ≡ false
  unfolding head_sound
  head_no never = grind (arith, nat_tests)
