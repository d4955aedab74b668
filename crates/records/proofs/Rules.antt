-- What the answers of `segment_of`, `policy_of` and `setting_up` say: a segment that the rule accepts is the end of the range that it was made of, and an
-- arena that setup answers has a sound head and an empty list. Assumes nothing.
use Prim.Native.Nat.{ℕ, ◌+◌, ◌%◌, ◌≤◌}
use mathlib.Core.Path.{◌≡◌, refl}
use mathlib.Core.Bool.{Bool}
use native.Mathlib.Omega.{arith}
use Rattle.std.specs.Prelude.{Some, Ok}
use Rattle.std.proofs.lemmas.Bool.Decides.{nat_tests}
use Rattle.words.specs.Word.{node_word, end_mark}
use Rattle.words.proofs.Rounding.{round_ge, round_multiple}
use Rattle.records.specs.Answer.{ready}
use Rattle.records.specs.Head.{Head}
use Rattle.records.specs.Rule.{segment_of}
use Rattle.records.specs.Setup.{data_offset, policy_of, setting_up}
use Rattle.records.specs.declared.Order.TheVariants.{Optimistic, Pessimistic}
use Rattle.records.specs.declared.Policy.TheVariants.{None, Ordered}
use Rattle.records.specs.declared.Settings.{Settings}
use Rattle.records.specs.declared.Shape.{Shape}
use Rattle.records.specs.declared.Header.{Header}
use Rattle.records.specs.declared.Segment.{Segment}

-- the segment is the end of the range
pub record Cut (offset size : ℕ) (s : Segment) : Type 0 where
  pub aligned : s.offset % 8 ≡ 0
  pub low : offset ≤ s.offset
  pub holds : 1 ≤ s.size
  pub ends : s.offset + 8 + s.size ≡ offset + size

-- what the rule accepts is one
pub cut_of : (least offset size : ℕ) (s : Segment) → segment_of least offset size ≡ Some s → Cut offset size s
unfolding segment_of
cut_of least offset size s e = grind (arith, nat_tests, round_ge, round_multiple)

-- a data offset lies past the first byte
pub data_past : (reserved : ℕ) (unify : Bool) → 1 ≤ data_offset reserved unify
unfolding data_offset
data_past reserved unify = grind arith

-- the policies' codes
pub policy_codes : (policy_of 0 ≡ Ok None) × (policy_of 1 ≡ Ok (Ordered Optimistic)) × (policy_of 2 ≡ Ok (Ordered Pessimistic))
unfolding policy_of
policy_codes = (refl, refl, refl)

-- what setup answers has a sound head and an empty list
pub ready_head : (settings : Settings) (cap : ℕ) (s : Shape) (h : Header) → setting_up settings cap ≡ ready s h → Head s h cap × (h.sentinel ≡ node_word end_mark end_mark)
unfolding setting_up
ready_head settings cap s h e = grind (arith, nat_tests)
