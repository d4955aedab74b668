-- What crosses the boundary to Rust and C: numbers, a header as six numbers, and bytes. The calls behind it are document 01's.
use Rattle.std.specs.Prelude.{ℕ, ◌≡◌, Bool, true, false, ◌&&◌, List, [], ◌∷◌, ◌++◌, leb, eqb, get_or, Result, Ok, Err}
use mir.Mem.{Cell}
use mir.Val.{Val}
use prog.Memory.{enc, le}
use denote.Laws.{Is}
use denote.Memory.{lone}
use Rattle.words.specs.Pick.{pick}
use Rattle.words.specs.Word.{node_word, size_half, next_half}
use Rattle.records.specs.Answer.{Outcome, Said, said, granted, nothing, given_back, sum, done, refused, Began, ready, unready}
use Rattle.records.specs.Setup.{policy_of, code_of, setting_up}
use Rattle.records.specs.declared.Policy.{Policy}
use Rattle.records.specs.declared.Policy.TheVariants.{None}
use Rattle.records.specs.declared.UnknownFreelist.{UnknownFreelist}
use Rattle.records.specs.declared.Settings.{Settings}
use Rattle.records.specs.declared.Shape.{Shape}
use Rattle.records.specs.declared.Header.{Header}
use Rattle.records.specs.declared.Reply.{Reply}
use Rattle.exports.specs.declared.CShape.{CShape}
use Rattle.exports.specs.declared.CHeader.{CHeader}
use Rattle.exports.specs.declared.CAnswer.{CAnswer}
use Rattle.exports.specs.declared.CBegun.{CBegun}
use Rattle.exports.specs.contracts.CHeader.{the_row}

-- the header's six numbers: the sentinel's next and size halves, allocated, minimum, discarded, and one that no call reads or writes
abbrev pub header_of : CHeader → Header
header_of n =
    record {
      sentinel = node_word n.sentinel_size n.sentinel_next;
      allocated = n.allocated;
      minimum_segment_size = n.minimum_segment_size;
      discarded = n.discarded;
    }

-- these six numbers with a header put in
abbrev pub stored : CHeader → Header → CHeader
stored n h =
    record {
      sentinel_next = next_half h.sentinel;
      sentinel_size = size_half h.sentinel;
      allocated = h.allocated;
      minimum_segment_size = h.minimum_segment_size;
      discarded = h.discarded;
      unused = n.unused;
    }

-- the 24 bytes of the six numbers: in this order, which is that of include/arena.h, each in four bytes, the lowest first
abbrev pub header_bytes : CHeader → List Cell
header_bytes n = le 4 n.sentinel_next ++ le 4 n.sentinel_size ++ le 4 n.allocated ++ le 4 n.minimum_segment_size ++ le 4 n.discarded ++ le 4 n.unused

-- a header lies in the memory of the logic's machine as those bytes, whatever the machine's value is that stands for it
abbrev pub LiesInOrder : CHeader → Type 0
LiesInOrder n = (v : Val) → Is the_row n (v ∷ []) → enc (lone the_row.mir) v ≡ header_bytes n

-- a truth crosses as a byte, 1 for yes and 0 for no; any other byte is none
abbrev pub truth : Bool → ℕ
truth true = 1
truth false = 0

abbrev pub yes : ℕ → Bool
yes b = eqb b 1

abbrev pub is_truth : ℕ → Bool
is_truth b = leb b 1

-- a shape as it goes out
abbrev pub shape_out : Shape → CShape
shape_out s =
    record {
      cap = s.cap;
      reserved = s.reserved;
      data_offset = s.data_offset;
      unify = truth s.unify;
      read_only = truth s.read_only;
      policy = code_of s.policy;
    }

-- a shape that came over, with this data offset and this policy
abbrev pub shape_with : CShape → ℕ → Policy → Shape
shape_with c start f =
    record {
      cap = c.cap;
      reserved = c.reserved;
      data_offset = start;
      unify = yes c.unify;
      read_only = yes c.read_only;
      policy = f;
    }

-- what a shape names: the policy by its code, and none where `unify` or `read_only` is neither 0 nor 1
unfoldable pub named_by : CShape → Result Policy UnknownFreelist
named_by c = pick (is_truth c.unify && is_truth c.read_only) (policy_of c.policy) (Err (record {}))

-- a shape as it comes in. One that names no policy is damaged: it gets the data offset 0, over which no head is sound
abbrev pub shape_by : Result Policy UnknownFreelist → CShape → Shape
shape_by (Ok f) c = shape_with c c.data_offset f
shape_by (Err e) c = shape_with c 0 None

unfoldable pub shape_in : CShape → Shape
shape_in c = shape_by (named_by c) c

-- an answer's five numbers
abbrev pub numbers_of : ℕ → ℕ → ℕ → ℕ → ℕ → CAnswer
numbers_of code a b c d = record { code = code; first = a; second = b; third = c; fourth = d }

-- a refusal's code is its number in 01; 100 is granted, 101 nothing, 102 given back, 103 a sum, 104 done; 0 stands where nothing is carried
abbrev pub answer_of : Said → CAnswer
answer_of (granted b) = numbers_of 100 b.memory_offset b.memory_size b.usable_offset b.usable_size
answer_of nothing = numbers_of 101 0 0 0 0
answer_of (given_back x) = numbers_of 102 (truth x) 0 0 0
answer_of (sum n) = numbers_of 103 n 0 0 0
answer_of done = numbers_of 104 0 0 0 0
answer_of (refused code carried) = numbers_of code (get_or carried 0 0) (get_or carried 1 0) 0 0

-- what is sent of a reply: the answer's numbers, and the header's
pub record Sent (n : CHeader) (r : Reply) (a : CAnswer) (m : CHeader) : Type 0 where
  pub answers : a ≡ answer_of (said r.answer)
  pub stores : m ≡ stored n r.header

-- all that a call leaves on the other side
pub record Crossed : Type 0 where
  pub answer : CAnswer
  pub header : CHeader
  pub bytes : List ℕ

abbrev pub crossed : CAnswer → CHeader → List ℕ → Crossed
crossed a n l = record { answer = a; header = n; bytes = l }

abbrev pub crossed_by : CHeader → Outcome → Crossed
crossed_by n o = crossed (answer_of o.says) (stored n o.header) o.bytes

-- a call on the arena that came over
unfoldable pub crossing : CShape → CHeader → List ℕ → (Shape → Header → List ℕ → Outcome) → Crossed
crossing c n l call = crossed_by n (call (shape_in c) (header_of n) l)

-- what setup is asked for
abbrev pub settings_of : ℕ → ℕ → ℕ → ℕ → ℕ → Settings
settings_of reserved unify policy least read_only =
    record { reserved = reserved; unify = yes unify; policy = policy; minimum_segment_size = least; read_only = yes read_only }

-- all that setup leaves on the other side
pub record Opened : Type 0 where
  pub begun : CBegun
  pub header : CHeader

abbrev pub opened : CBegun → CHeader → Opened
opened b n = record { begun = b; header = n }

abbrev pub begun_of : ℕ → CShape → CBegun
begun_of code c = record { code = code; shape = c }

abbrev pub no_shape : CShape
no_shape = record { cap = 0; reserved = 0; data_offset = 0; unify = 0; read_only = 0; policy = 0 }

-- 104 with the shape and a fresh header, or a refusal with neither
abbrev pub opening_by : Began → CHeader → Opened
opening_by (ready s h) n = opened (begun_of (answer_of done).code (shape_out s)) (stored n h)
opening_by (unready code) n = opened (begun_of code no_shape) n

-- a setup whose `unify` or `read_only` is neither 0 nor 1 is refused 3. 01: setup 2, 3
abbrev pub unopened : Result Policy UnknownFreelist → CBegun
unopened (Err e) = begun_of 2 no_shape
unopened (Ok f) = begun_of 3 no_shape

-- setup over a buffer of cap bytes
unfoldable pub opening : ℕ → ℕ → ℕ → ℕ → ℕ → ℕ → CHeader → Opened
opening reserved unify policy least read_only cap n =
    pick (is_truth unify && is_truth read_only) (opening_by (setting_up (settings_of reserved unify policy least read_only) cap) n)
    (opened (unopened (policy_of policy)) n)
