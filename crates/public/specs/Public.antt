-- The public calls, what each gives back, and what its contract promises of that. Document 01: 'What the promises are held to'. The functions of src/ and
-- proofs/Lent.antt prove each row of `Promised` of the code.
use Rattle.std.specs.Prelude.{ℕ, ◌-◌, ◌≡◌, Bool, List, length, Option, Result as StdResult, Err}
use Rattle.words.specs.Word.{next_half}
use Rattle.records.specs.Answer.{said, number_of, outcome, leaves, unready, began}
use Rattle.records.specs.declared.Answer.{Answer}
use Rattle.records.specs.Setup.{Offset, policy_of, code_of, default_settings, setting_up}
use Rattle.records.specs.Head.{head_sound}
use Rattle.records.specs.Rule.{segment_of}
use Rattle.records.specs.Change.{with_top, with_first, with_minimum, losing}
use Rattle.records.specs.Part.{usable_part, usable_place, reserved_part}
use Rattle.records.specs.declared.Policy.{Policy}
use Rattle.records.specs.declared.UnknownFreelist.{UnknownFreelist}
use Rattle.records.specs.declared.SetupError.{SetupError}
use Rattle.records.specs.declared.SetupError.TheVariants as Errors
use Rattle.records.specs.declared.Settings.{Settings}
use Rattle.records.specs.declared.Shape.{Shape}
use Rattle.records.specs.declared.Block.{Block}
use Rattle.records.specs.declared.Header.{Header}
use Rattle.records.specs.declared.Position.{Position}
use Rattle.records.specs.declared.Segment.{Segment}
use Rattle.records.specs.declared.Reply.{Reply}
use Rattle.records.specs.declared.Arena.{Arena}
use Rattle.positions.specs.NewTop.{new_top}
use Rattle.freelist.specs.Sound.{sound, surveyed}
use Rattle.exports.specs.Crossing.{header_of, shape_out, shape_in, answer_of, crossed, crossing, no_shape, opened, opening}
use Rattle.exports.specs.declared.CShape.{CShape}
use Rattle.exports.specs.declared.CHeader.{CHeader}
use Rattle.exports.specs.declared.CAnswer.{CAnswer}
use Rattle.exports.specs.declared.CBegun.{CBegun}
use Rattle.calls.specs.declared.Call.{Call}
use Rattle.calls.specs.Calls.{performed}

-- setup and its defaults, the calls that may change an arena, the soundness check, as a test and with the number of segments, the readers of counters and
-- the parts of the buffer; a call over a lent header; the boundary's setup, calls, check, reader and conversions; the helpers and conversions of records
-- and the helper of positions, those that require nothing
pub data Public : Type 0 where
  defaults : Public
  setup : Settings → List ℕ → Public
  change : Shape → Header → List ℕ → Call → Public
  check : Shape → Header → List ℕ → Public
  survey : Shape → Header → List ℕ → Public
  remaining : Shape → Header → Public
  allocated : Header → Public
  discarded : Header → Public
  minimum : Header → Public
  usable : List ℕ → Block → Public
  writable : List ℕ → ℕ × ℕ → Block → Public
  reserved : List ℕ → Shape → Public
  lent_change : Shape → Header → List ℕ → Call → Public
  c_setup : CHeader → List ℕ → ℕ → ℕ → ℕ → ℕ → ℕ → Public
  c_change : CShape → CHeader → List ℕ → Call → Public
  c_check : CShape → CHeader → List ℕ → Public
  c_remaining : CShape → CHeader → Public
  c_shape : Shape → Public
  c_shape_in : CShape → Public
  c_header_in : CHeader → Public
  c_answer : Answer → Public
  c_setup_error : SetupError → Public
  data_start : ℕ → Bool → Public
  policy : ℕ → Public
  policy_code : Policy → Public
  setup_error : UnknownFreelist → Public
  setup_number : SetupError → Public
  answer_number : Answer → Public
  head_check : Shape → Header → List ℕ → Public
  segment : ℕ → ℕ → ℕ → Public
  first : Header → Public
  set_first : Header → ℕ → Public
  set_top : Header → ℕ → Public
  set_minimum : Header → ℕ → Public
  lose : Header → ℕ → Public
  rewound : ℕ → ℕ → ℕ → Position → Public

-- what each gives back: of a call that may change an arena the answer, the header and every byte, of the part for writing its contents and its place
abbrev pub Result : Public → Type 0
Result defaults = Settings
Result (setup settings l) = StdResult Arena SetupError
Result (change s h l c) = Reply × List ℕ
Result (check s h l) = Bool
Result (survey s h l) = Option ℕ
Result (remaining s h) = ℕ
Result (allocated h) = ℕ
Result (discarded h) = ℕ
Result (minimum h) = ℕ
Result (usable l b) = List ℕ
Result (writable l start b) = List ℕ × (ℕ × ℕ)
Result (reserved l s) = List ℕ
Result (lent_change s h l call) = Answer × Header × List ℕ
Result (c_setup n l kept unify code least read_only) = CBegun × CHeader
Result (c_change c n l call) = CAnswer × CHeader × List ℕ
Result (c_check c n l) = Bool
Result (c_remaining c n) = ℕ
Result (c_shape s) = CShape
Result (c_shape_in c) = Shape
Result (c_header_in n) = Header
Result (c_answer a) = CAnswer
Result (c_setup_error e) = CBegun
Result (data_start kept unify) = ℕ
Result (policy code) = StdResult Policy UnknownFreelist
Result (policy_code f) = ℕ
Result (setup_error e) = SetupError
Result (setup_number e) = ℕ
Result (answer_number a) = Option ℕ
Result (head_check s h l) = Bool
Result (segment least offset size) = Option Segment
Result (first h) = ℕ
Result (set_first h n) = Header
Result (set_top h n) = Header
Result (set_minimum h n) = Header
Result (lose h n) = Header
Result (rewound start end top p) = ℕ

-- what its contract promises of a result
abbrev pub Promised : (c : Public) → Result c → Type 0
Promised defaults x = x ≡ default_settings
Promised (setup settings l) x = began x ≡ setting_up settings (length l)
Promised (change s h l c) x = outcome x.0 x.1 ≡ performed s h l c
Promised (check s h l) x = x ≡ sound s h l
Promised (survey s h l) x = x ≡ surveyed s h l
Promised (remaining s h) x = x ≡ s.cap - h.allocated
Promised (allocated h) x = x ≡ h.allocated
Promised (discarded h) x = x ≡ h.discarded
Promised (minimum h) x = x ≡ h.minimum_segment_size
Promised (usable l b) x = x ≡ usable_part l b
Promised (writable l start b) x = (x.0 ≡ usable_part l b) × (x.1 ≡ usable_place l start b)
Promised (reserved l s) x = x ≡ reserved_part l s
Promised (lent_change s h l call) x = leaves (said x.0) x.1 x.2 ≡ performed s h l call
Promised (c_setup n l kept unify code least read_only) x = opened x.0 x.1 ≡ opening kept unify code least read_only (length l) n
Promised (c_change c n l call) x = crossed x.0 x.1 x.2 ≡ crossing c n l (λ s h m. performed s h m call)
Promised (c_check c n l) x = x ≡ sound (shape_in c) (header_of n) l
Promised (c_remaining c n) x = x ≡ c.cap - (header_of n).allocated
Promised (c_shape s) x = x ≡ shape_out s
Promised (c_shape_in c) x = x ≡ shape_in c
Promised (c_header_in n) x = x ≡ header_of n
Promised (c_answer a) x = x ≡ answer_of (said a)
Promised (c_setup_error e) x = (unready x.code ≡ began (Err e)) × (x.shape ≡ no_shape)
Promised (data_start kept unify) x = Offset kept unify x
Promised (policy code) x = x ≡ policy_of code
Promised (policy_code f) x = x ≡ code_of f
Promised (setup_error e) x = x ≡ Errors.UnknownFreelist
Promised (setup_number e) x = unready x ≡ began (Err e)
Promised (answer_number a) x = x ≡ number_of (said a)
Promised (head_check s h l) x = x ≡ head_sound s h (length l)
Promised (segment least offset size) x = x ≡ segment_of least offset size
Promised (first h) x = x ≡ next_half h.sentinel
Promised (set_first h n) x = x ≡ with_first h n
Promised (set_top h n) x = x ≡ with_top h n
Promised (set_minimum h n) x = x ≡ with_minimum h n
Promised (lose h n) x = x ≡ losing h n
Promised (rewound start end top p) x = x ≡ new_top start end top p
