-- The laws of the boundary. A header's six numbers lie in memory in their order. A shape that names no policy, by its code or by a byte that is no truth, is
-- damaged. Nothing is lost on the way: load then store gives back the six numbers, store then load the header, a shape and a header that were sent are received
-- as they were, and two answers with the same five numbers say the same.
-- Assumes nothing.
use Prim.Native.Nat.{ℕ, ◌<◌, ◌^◌}
use mathlib.Core.Path.{◌≡◌, refl, ap, sym, ◌∙◌}
use mathlib.Core.Bool.{Bool, true, false, ◌||◌}
use mathlib.Core.List.{List, [], ◌∷◌}
use mir.Mem.{Cell}
use mir.Syntax.{w32}
use mir.Val.{Val, vint, vstruct, vcons, vnil}
use prog.Memory.{enc}
use denote.Laws.{Is}
use denote.Memory.{lone}
use native.Mathlib.Omega.{arith}
use Rattle.std.specs.Prelude.{Ok, Err}
use lib.Dec.{eqb}
use Rattle.words.specs.Word.{node_word, size_half, next_half}
use Rattle.words.proofs.Digits.{word_size, word_next}
use Rattle.words.specs.Pick.{pick}
use Rattle.records.specs.Answer.{Outcome, leaves, Said, said, granted, nothing, given_back, sum, done, refused}
use Rattle.records.specs.Setup.{policy_of, code_of}
use Rattle.records.specs.Head.{head_sound}
use Rattle.records.proofs.Facts.{head_no}
use Rattle.records.specs.declared.Answer.{Answer}
use Rattle.records.specs.declared.Answer.TheVariants.{Granted, Nothing, GivenBack, Sum, Done, ReadOnly, Damaged, BadLayout, OutOfBounds, Overlap, CutsFreeList, InsufficientSpace}
use Rattle.records.specs.declared.Policy.{Policy}
use Rattle.records.specs.declared.Policy.TheVariants.{None, Ordered}
use Rattle.records.specs.declared.Header.{Header}
use Rattle.records.specs.declared.Order.TheVariants.{Optimistic, Pessimistic}
use Rattle.records.specs.declared.UnknownFreelist.{UnknownFreelist}
use Rattle.records.specs.declared.Shape.{Shape}
use Rattle.records.proofs.Rules.{data_past, policy_codes}
use Rattle.exports.specs.Crossing.{header_of, stored, LiesInOrder, truth, yes, is_truth, shape_out, named_by, shape_in, answer_of, crossed, crossing}
use Rattle.exports.specs.declared.CAnswer.{CAnswer}
use Rattle.exports.specs.declared.CShape.{CShape}
use Rattle.exports.specs.declared.CHeader.{CHeader}
use Rattle.exports.specs.contracts.CHeader.{the_row}
use Rattle.exports.proofs.CHeader.TheLaws.{lowers}

-- the bytes of a header's one value
abbrev lies : List Val → List Cell
lies [] = []
lies (v ∷ vs) = enc (lone the_row.mir) v

-- each of the six numbers lies in its place
pub header_lies : (n : CHeader) → LiesInOrder n
header_lies n v is = ap lies (lowers.val_is n (v ∷ []) is)

-- and some value of the machine stands for every header of six u32, so that the law is not empty
abbrev value : CHeader → Val
value n = vstruct (vcons (vint w32 n.sentinel_next) (vcons (vint w32 n.sentinel_size) (vcons (vint w32 n.allocated) (vcons (vint w32 n.minimum_segment_size) (vcons (vint w32 n.discarded) (vcons (vint w32 n.unused) vnil))))))

abbrev Fits : ℕ → Type 0
Fits x = x < 2 ^ 32

pub header_stands :
    (n : CHeader) → Fits n.sentinel_next → Fits n.sentinel_size → Fits n.allocated → Fits n.minimum_segment_size → Fits n.discarded → Fits n.unused → Is the_row n (value n ∷ [])
header_stands n a b c d e f = (
  (vint w32 n.sentinel_next ∷ [], (vint w32 n.sentinel_size ∷ [], (vint w32 n.allocated ∷ [], (vint w32 n.minimum_segment_size ∷ [], (vint w32 n.discarded ∷ [], (vint w32 n.unused ∷ [], tt)))))),
  (refl, ((refl, a), ((refl, b), ((refl, c), ((refl, d), ((refl, e), ((refl, f), tt))))))),
)

-- load, then store: the six numbers are what they were, since the first is a u32
pub stored_same : (n : CHeader) → n.sentinel_next < 4294967296 → stored n (header_of n) ≡ n
stored_same n h = simp (word_next n.sentinel_size n.sentinel_next h, word_size n.sentinel_size n.sentinel_next h)

-- store, then load: the header is what it was, so the next call goes on from the arena that the last one left
pub loaded_same : (n : CHeader) (h : Header) → header_of (stored n h) ≡ h
loaded_same n h =
    let joined : node_word (size_half h.sentinel) (next_half h.sentinel) ≡ h.sentinel = omega arith in
    simp joined

-- a call that leaves header and bytes as they were, as every refusal does, leaves the six numbers and the bytes on the other side too
pub crosses_same :
    (c : CShape) (n : CHeader) (l : List ℕ) (call : Shape → Header → List ℕ → Outcome) {x : Said}
    → call (shape_in c) (header_of n) l ≡ leaves x (header_of n) l → n.sentinel_next < 4294967296 → crossing c n l call ≡ crossed (answer_of x) n l
unfolding crossing
crosses_same c n l call {x = x} did h = simp did (ap (λ (m : CHeader). crossed (answer_of x) m l) (stored_same n h))

-- a policy's code names it
code_names : (f : Policy) → policy_of (code_of f) ≡ Ok f
code_names None = policy_codes.0
code_names (Ordered Optimistic) = policy_codes.1
code_names (Ordered Pessimistic) = policy_codes.2

-- a truth's byte is a truth, and says it
truth_is : (b : Bool) → is_truth (truth b) ≡ true
truth_is true = refl
truth_is false = refl

truth_says : (b : Bool) → yes (truth b) ≡ b
truth_says true = refl
truth_says false = refl

-- a shape that was sent is received as it was
pub sent_received : (s : Shape) → shape_in (shape_out s) ≡ s
unfolding shape_in named_by
sent_received s = simp (truth_is s.unify, truth_is s.read_only, code_names s.policy, truth_says s.unify, truth_says s.read_only)

-- over a shape that names no policy no head is sound, since no data offset is 0
pub unknown_damaged : (c : CShape) (h : Header) (n : ℕ) {e : UnknownFreelist} → named_by c ≡ Err e → head_sound (shape_in c) h n ≡ false
unfolding shape_in
unknown_damaged c h n none = simp none (head_no _ h n (λ k. omega (arith, data_past c.reserved (yes c.unify), k.start)))

-- what five numbers say
heard : CAnswer → Said
heard a =
    pick (eqb a.code 100) (granted (record { memory_offset = a.first; memory_size = a.second; usable_offset = a.third; usable_size = a.fourth }))
    (pick (eqb a.code 101) nothing
    (pick (eqb a.code 102) (given_back (eqb a.first 1))
    (pick (eqb a.code 103) (sum a.first)
    (pick (eqb a.code 104) done
    (refused a.code (pick (eqb a.code 6 || eqb a.code 9) (a.first ∷ a.second ∷ []) []))))))

heard_said : (a : Answer) → heard (answer_of (said a)) ≡ said a
unfolding heard
heard_said (Granted b) = refl
heard_said Nothing = refl
heard_said (GivenBack true) = refl
heard_said (GivenBack false) = refl
heard_said (Sum n) = refl
heard_said Done = refl
heard_said ReadOnly = refl
heard_said Damaged = refl
heard_said BadLayout = refl
heard_said (OutOfBounds offset allocated) = refl
heard_said Overlap = refl
heard_said CutsFreeList = refl
heard_said (InsufficientSpace requested available) = refl

-- two answers with the same five numbers say the same
pub answers_tell : (a b : Answer) → answer_of (said a) ≡ answer_of (said b) → said a ≡ said b
answers_tell a b e = sym (heard_said a) ∙ ap heard e ∙ heard_said b
