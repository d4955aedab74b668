-- The members that pass a test: what held of all, and of each two, holds of them, and they pass.
-- Assumes nothing.
use mathlib.Core.Path.{◌≡◌}
use Rattle.std.specs.List.{AllByRecursion as Each}
use mathlib.Core.Bool.{Bool, true}
use mathlib.Core.List.{List, [], ◌∷◌}
use Rattle.records.specs.declared.Block.{Block}
use native.Mathlib.Omega.{arith}
use Rattle.freelist.specs.Segs.{Pairwise}
use Rattle.promise.specs.Runs.{only}

module _ (f : Block → Bool) where
  pub only_all : (P : Block → Type 0) (bs : List Block) → Each P bs → Each P (only f bs)
  only_all P [] a = tt
  only_all P (b ∷ bs) a = grind (arith, only_all P bs a.1)

  pub only_pairs : (R : Block → Block → Type 0) (bs : List Block) → Pairwise R bs → Pairwise R (only f bs)
  only_pairs R [] p = tt
  only_pairs R (b ∷ bs) p = grind (arith, only_all (R b) bs p.0, only_pairs R bs p.1)

  pub only-passes : (bs : List Block) → Each (λ b. f b ≡ true) (only f bs)
  only-passes [] = tt
  only-passes (b ∷ bs) = grind (arith, only-passes bs)
