-- Where a rewind leads. Document 01, 'Giving back, discarding, rewinding'.
use Rattle.std.specs.Prelude.{ℕ, ◌-◌, max, min, leb, eqb, ℤ, pos, negsuc, ◌+ℤ◌}
use Rattle.words.specs.Pick.{pick}
use Rattle.records.specs.declared.Position.{Position}
use Rattle.records.specs.declared.Position.TheVariants.{Start, Current, End}

-- 01: the exact sum; at least cap gives cap, 0 changes nothing, below 0 gives the data offset, else raised to the data offset
unfoldable pub exact_top : ℕ → ℕ → ℕ → ℤ → ℕ
exact_top start cap top (pos n) = pick (leb cap n) cap (pick (eqb n 0) top (max n start))
exact_top start cap top (negsuc n) = start

-- 01: Start(x): x raised to the data offset, then cut to cap. Current(d): the exact sum allocated + d. End(x): cap - x raised to the data offset
unfoldable pub new_top : ℕ → ℕ → ℕ → Position → ℕ
new_top start cap top (Start x) = min (max x start) cap
new_top start cap top (Current d) = exact_top start cap top (pos top +ℤ d)
new_top start cap top (End x) = max (cap - x) start
