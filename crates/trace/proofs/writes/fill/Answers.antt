-- `trace::writes::fill` meets its contract: a part that is lent comes back as a splice of equal bytes. Assumes nothing.
use Prim.Native.Nat.{ℕ, ◌+◌, ◌-◌, ◌≤◌}
use mathlib.Core.Path.{◌≡◌, ap, ◌∙◌}
use mathlib.Core.List.{List, ◌++◌}
use native.Mathlib.Omega.{arith}
use borrow.Author.Tests.{le-leb}
use lib.ListN.{length, take, drop, replicate, length-take, length-drop, length-replicate}
use Rattle.words.specs.Word.{splice}
use Rattle.words.proofs.Splice.{lent_back}
use Rattle.trace.specs.Fill.{filled}
use Rattle.trace.proofs.writes.fill.Goals as goal

-- bytes from `at` up to e, that were lent and came back as v's
lent_filled : (l m : List ℕ) (at n v e : ℕ) → e ≡ at + n → e ≤ length l → m ≡ replicate (length (take (e - at) (drop at l))) v
    → take at l ++ (m ++ drop (e - at) (drop at l)) ≡ filled l at n v
unfolding filled
lent_filled l m at n v e end h same =
    let size : length (take (e - at) (drop at l)) ≡ n = simp (length-take, length-drop) (omega arith) in
    let all : m ≡ replicate n v = same ∙ ap (λ (k : ℕ). replicate k v) size in
    lent_back l at e m (ap length all ∙ length-replicate n v ∙ omega arith) ∙ ap (splice l at) all ∙ rw (le-leb (at + n) (length l) (omega arith))

pub returns-then-end-buf : goal.returns-then-end-buf
returns-then-end-buf c = lent_filled _ _ _ _ _ _ (omega arith) (omega arith) (c.fill.ensures.after (λ y e. e))
