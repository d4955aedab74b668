-- The number that decimal digits say, the most significant first.
use Rattle.std.specs.Prelude.{ℕ, ◌+◌, ◌-◌, ◌*◌, ◌≡◌, if◌then◌else◌, ℤ, pos, neg_ℤ, List, [], ◌∷◌, drop, Option, Some, None, Result, Ok}
use Rattle.std.specs.Str.Parse.{starts_with_minus}

-- digits after a number n
unfoldable pub onto : ℕ → List ℕ → ℕ
onto n [] = n
onto n (d ∷ ds) = onto (n * 10 + (d - 48)) ds

abbrev pub numeral : List ℕ → ℕ
numeral ds = onto 0 ds

-- a number that was found is the one that the digits say
abbrev pub Says : List ℕ → Option ℕ → Type 0
Says ds (Some n) = n ≡ numeral ds
Says ds None = Unit

-- a number that was found is small enough for its type, which makes it by `gives`, and it is what the digits say
abbrev pub Counted : {T E : Type 0} → (ℕ → Result T E → Type 0) → List ℕ → Option T → Type 0
Counted gives ds (Some n) = gives (numeral ds) (Ok n)
Counted gives ds None = Unit

-- the number that digits say, below zero where a minus stands before them
abbrev pub signed_numeral : List ℕ → ℤ
signed_numeral ds = if starts_with_minus ds then neg_ℤ (pos (numeral (drop 1 ds))) else pos (numeral ds)
