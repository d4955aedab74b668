-- Rounding up to an alignment. Document 01, 'Taking room': a(x) is x rounded up to the alignment.
use Rattle.std.specs.Prelude.{ℕ, ◌+◌, ◌-◌, ◌*◌, ◌/◌, ◌≤◌, ◌<◌, ◌≡◌}

-- x rounded up to a multiple of a
unfoldable pub round_up : ℕ → ℕ → ℕ
round_up a x = (x + (a - 1)) / a * a

-- what rounding says of its result: the value, and the bounds that follow from it
pub record Rounded (a x r : ℕ) : Type 0 where
  pub is : r ≡ round_up a x
  pub low : x ≤ r
  pub high : r < x + a
