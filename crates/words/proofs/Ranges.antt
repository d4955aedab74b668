-- Two ranges of bytes that share none, said by their ends: one ends at or before the other's start. What follows is arithmetic.
-- Assumes nothing.
use Prim.Native.Nat.{ℕ, ◌≤◌, ◌<◌}
use mathlib.Core.Logic.{◌⊎◌, inl, inr}
use native.Mathlib.Omega.{arith}

-- the bytes from a up to e and those from c up to d
abbrev pub Parted : ℕ → ℕ → ℕ → ℕ → Type 0
Parted a e c d = (e ≤ c) ⊎ (d ≤ a)

-- either may be named first
pub parted_flip : (a e c d : ℕ) → Parted a e c d → Parted c d a e
parted_flip a e c d (inl x) = inr x
parted_flip a e c d (inr x) = inl x

-- parts of them share none either
pub parted_parts : {a e c d : ℕ} (a' e' c' d' : ℕ) → a ≤ a' → e' ≤ e → c ≤ c' → d' ≤ d → Parted a e c d → Parted a' e' c' d'
parted_parts a' e' c' d' h k m n (inl x) = inl (omega arith)
parted_parts a' e' c' d' h k m n (inr x) = inr (omega arith)

-- no byte is in both
pub parted_none : (a e c d x : ℕ) → Parted a e c d → (a ≤ x) × (x < e) → (c ≤ x) × (x < d) → ⊥
parted_none a e c d x (inl h) m n = omega arith
parted_none a e c d x (inr h) m n = omega arith

-- where the first ends at the top, and the second does not pass it, the second ends at or below the first's start
pub parted_below : (a e c d top : ℕ) → d ≤ top → top ≤ e → a < e → c < d → Parted a e c d → d ≤ a
parted_below a e c d top h k m n (inl x) = absurd (omega arith)
parted_below a e c d top h k m n (inr x) = x
