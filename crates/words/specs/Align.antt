-- The alignments that a request may name. Document 01, 'Numbers that bound it'.
use Rattle.std.specs.Prelude.{ℕ, Bool, true, false, cond, List, [], ◌∷◌, eqb}

abbrev pub among : ℕ → List ℕ → Bool
among a [] = false
among a (x ∷ l) = cond (eqb a x) true (among a l)

abbrev pub powers : List ℕ
powers = 1 ∷ 2 ∷ 4 ∷ 8 ∷ 16 ∷ 32 ∷ 64 ∷ 128 ∷ 256 ∷ 512 ∷ 1024 ∷ 2048 ∷ 4096 ∷ []

-- 01: alignment a power of two from 1 to 4,096
unfoldable pub good_align : ℕ → Bool
good_align a = among a powers
