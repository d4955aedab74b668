-- `words::clear_range` meets its contract: the bytes that are lent come back as zeros. Assumes nothing.
use Prim.Native.Nat.{ℕ}
use mathlib.Core.Path.{◌≡◌, refl, ap, ◌∙◌}
use mathlib.Core.List.{List, [], ◌∷◌}
use lib.ListN.{length, replicate}
use native.Mathlib.Omega.{arith}
use Rattle.std.specs.List.{FoldsTo}
use Rattle.words.proofs.Digits.{zero_lent}
use Rattle.words.proofs.clear_range.Goals as goal

-- what a closure that gives 0 alone has filled
filled : {F : Type 0} {step : F → ℕ → F → Type 0} → ((p : F) (x : ℕ) (q : F) → step p x q → x ≡ 0) → (f : F) (xs : List ℕ) (last : F) → FoldsTo step f xs last → xs ≡ replicate (length xs) 0
filled zero_given f [] last h = refl
filled zero_given f (x ∷ xs) last h =
    let zero : x ≡ 0 = zero_given f x h.0 h.1 in
    let rest : xs ≡ replicate (length xs) 0 = filled zero_given h.0 xs last h.2 in
    cc

pub returns : goal.returns
returns c = zero_lent _ _ _ _ (filled (λ p x q s. omega arith) _ _ _ c.fill_with.ensures.ran.1 ∙ ap (λ (n : ℕ). replicate n 0) c.fill_with.ensures.len) (omega arith) (omega arith)
