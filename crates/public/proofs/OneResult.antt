-- Any two results that a promise allows are equal, shown once over the data type `Public`. Most contracts say what the result is. Of the others, what is
-- said tells the answer: no two answers have the same number and values of document 01. Of `bytes_mut` the result is the part as it is handed out,
-- its contents and its place: its contract cannot speak of what a caller writes there afterwards. Assumes nothing.
use Prim.Native.Nat.{ℕ}
use mathlib.Core.Path.{◌≡◌, sym, ap, ◌∙◌}
use mathlib.Core.List.{List}
use native.Mathlib.Omega.{arith}
use Rattle.std.specs.Prelude.{Result as StdResult}
use Rattle.records.specs.Answer.{said, Outcome, outcome, leaves, began}
use Rattle.records.specs.declared.Answer.{Answer}
use Rattle.records.specs.declared.Header.{Header}
use Rattle.records.specs.declared.Reply.{Reply}
use Rattle.records.specs.declared.Arena.{Arena}
use Rattle.records.specs.declared.SetupError.{SetupError}
use Rattle.exports.specs.Crossing.{Crossed, Opened}
use Rattle.public.specs.Public.{Public, Result, Promised}
use Rattle.public.specs.Public as P

-- document 01's number and values tell the answer
pub said_one : (a b : Answer) → said a ≡ said b → a ≡ b
said_one a b e = grind arith

-- and what setup answers
pub began_one : (a b : StdResult Arena SetupError) → began a ≡ began b → a ≡ b
began_one a b e = grind arith

-- a reply and the bytes that a contract allows, twice
pub outcome_one : (o : Outcome) (x y : Reply × List ℕ) → outcome x.0 x.1 ≡ o → outcome y.0 y.1 ≡ o → x ≡ y
outcome_one o x y e f = grind (arith, said_one)

-- an answer, the header and the bytes that the contract of a call over a lent header allows, twice
pub left_one : (o : Outcome) (x y : Answer × Header × List ℕ) → leaves (said x.0) x.1 x.2 ≡ o → leaves (said y.0) y.1 y.2 ≡ o → x ≡ y
left_one o x y e f = grind (arith, said_one)

-- where the contract says what the result is, both results are that
pub one_result : (c : Public) (x y : Result c) → Promised c x → Promised c y → x ≡ y
one_result (P.setup settings l) x y e f = began_one x y (e ∙ sym f)
one_result (P.change s h l c) x y e f = outcome_one _ x y e f
one_result (P.writable l start b) x y e f = grind arith
one_result (P.lent_change s h l call) x y e f = left_one _ x y e f
one_result (P.c_setup n l kept unify code least read_only) x y e f = ap (λ (o : Opened). (o.begun, o.header)) (e ∙ sym f)
one_result (P.c_change c n l call) x y e f = ap (λ (o : Crossed). (o.answer, o.header, o.bytes)) (e ∙ sym f)
one_result (P.c_setup_error error) x y e f = grind arith
one_result (P.data_start kept unify) x y e f = e.is ∙ sym f.is
one_result (P.setup_number error) x y e f = cc
one_result _ x y e f = e ∙ sym f
