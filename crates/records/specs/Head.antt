-- The head. Document 01, 'Words, nodes and a sound arena'.
use Rattle.std.specs.Prelude.{ℕ, ◌≤◌, ◌≡◌, Bool, ◌&&◌, leb, eqb}
use Rattle.records.specs.Setup.{limit, data_offset}
use Rattle.records.specs.declared.Shape.{Shape}
use Rattle.records.specs.declared.Header.{Header}

-- 01: head sound: cap = buffer length within the limit, data offset by the rule, data offset <= allocated <= cap
pub record Head (s : Shape) (h : Header) (n : ℕ) : Type 0 where
  pub whole : s.cap ≡ n
  pub within : s.cap ≤ limit
  pub start : s.data_offset ≡ data_offset s.reserved s.unify
  pub above : s.data_offset ≤ h.allocated
  pub below : h.allocated ≤ s.cap

-- the same as a test over a buffer of n bytes
unfoldable pub head_sound : Shape → Header → ℕ → Bool
head_sound s h n =
    eqb s.cap n && leb s.cap limit && eqb s.data_offset (data_offset s.reserved s.unify) && leb s.data_offset h.allocated && leb h.allocated s.cap
