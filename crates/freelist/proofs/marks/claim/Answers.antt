-- `freelist::marks::claim` meets its contract. The invariant: the marks from a up to i were not set and are set now, the others are as they were, and i stays
-- at b or below it, or at a. The measure is the number of marks left.
-- Assumes nothing.
use borrow.Author.Rules.{rules}
use native.Mathlib.Omega.{arith}
use lib.ListN.{length-set}
use Rattle.freelist.proofs.Bits.{word_unset, unset_word, word_marked, unset_more, unset_rest, marked_more}
use Rattle.freelist.proofs.marks.claim.Goals as goal

pub returns-then-word-own-ne0 : goal.returns-then-word-own-ne0
returns-then-word-own-ne0 c =
    let i = c.loop-i.invariant in
    record {
      tells = λ f. c.if-word-own-ne0.true
          (unset_word _ _ _ _ (omega arith) (omega arith) c.bits-own.ensures
          (unset_rest _ _ _ _ _ i.0 i.4 (λ x l h. f x l (omega arith))));
      marked = λ z. search rules;
    }

pub loop-i-preserved : goal.loop-i-preserved
loop-i-preserved c =
    let i = c.loop-i.invariant in
    let r = c.bits-own.ensures in (
      omega arith,
      omega arith,
      simp length-set (search rules),
      unset_more _ _ _ _ _ i.0 i.4 i.3 (word_unset _ _ _ _ (omega arith) (omega arith) r c.if-word-own-ne0.false),
      marked_more _ _ _ _ _ i.0 i.4 (omega arith) _ (word_marked _ _ _ _ (omega arith) (omega arith) r (omega arith)),
    )
