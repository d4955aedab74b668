-- Document 01, 'A day's ledger, step by step': its lines as one listing, computed on the definitions that the contracts cite.
-- Each line has what the definitions compute and what the document states; one theorem says that they agree on every line. Assumes nothing.
use Prim.Native.Nat.{ℕ, ◌-◌}
use Rattle.std.specs.List.{AllByRecursion as Each}
use Rattle.std.specs.Prelude.{Option, Some, None as Refused}
use mathlib.Core.Path.{◌≡◌}
use mathlib.Core.Bool.{true, false}
use mathlib.Core.List.{List, [], ◌∷◌, ◌++◌, map}
use borrow.Author.Rules.{rules}
use lib.IntN.{pos, negsuc}
use lib.ListN.{take, drop, replicate}
use Rattle.records.specs.Answer.{Outcome, Said, granted, nothing, given_back, done, refused, Began, ready}
use Rattle.records.specs.Setup.{data_offset, fresh_header, setting_up}
use Rattle.records.specs.Change.{with_top}
use Rattle.records.specs.Rule.{segment_of}
use Rattle.records.specs.declared.Order.{Order}
use Rattle.records.specs.declared.Order.TheVariants.{Optimistic, Pessimistic}
use Rattle.records.specs.declared.Policy.{Policy}
use Rattle.records.specs.declared.Policy.TheVariants.{None, Ordered}
use Rattle.records.specs.declared.Settings.{Settings}
use Rattle.records.specs.declared.Shape.{Shape}
use Rattle.records.specs.declared.Request.{Request}
use Rattle.records.specs.declared.Request.TheVariants.{Bytes, Typed, Aligned}
use Rattle.records.specs.declared.Position.{Position}
use Rattle.records.specs.declared.Position.TheVariants.{Start, Current, End}
use Rattle.records.specs.declared.Segment.{Segment}
use Rattle.requests.specs.Request.{block}
use Rattle.freelist.specs.Sound.{free}
use Rattle.arena.specs.Take.{taking}
use Rattle.arena.specs.Give.{giving_back}
use Rattle.arena.specs.Rewind.{rewinding}
use Rattle.promise.proofs.Opened.{opened}

-- a line's figure: what a call said, alone or with the top that it left, the list with the count of discarded bytes, bytes or offsets, a segment, an arena set up
pub data Figure : Type 0 where
  says : Said → Figure
  says_at : Said → ℕ → Figure
  list : List Segment → ℕ → Figure
  bytes : List ℕ → Figure
  rule : Option Segment → Figure
  setup : Began → Figure

abbrev pub shape : ℕ → ℕ → Policy → Shape
shape cap start f =
    record { cap = cap; reserved = start - 1; data_offset = start; unify = false; read_only = false; policy = f }

abbrev pub take' : Shape → Outcome → Request → Outcome
take' s o r = taking s o.header o.bytes r

abbrev pub give : Shape → Outcome → ℕ → ℕ → Outcome
give s o p n = giving_back s o.header o.bytes p n

-- the policies by their codes: optimistic 1, pessimistic 2
abbrev pub policy : Order → ℕ
policy Optimistic = 1
policy Pessimistic = 2

-- 01: start S: cap 200, reserved 7 (data offset 8), minimum 20: what setup is given, and the fresh arena
abbrev pub settings : Order → Settings
settings o = record { reserved = 7; unify = false; policy = policy o; minimum_segment_size = 20; read_only = false }

abbrev pub day : Order → Shape
day o = shape 200 8 (Ordered o)

abbrev pub begin : Outcome
begin = record { says = nothing; header = fresh_header 8 20; bytes = replicate 200 0 }

-- 01: bytes 40, 60, 92. The callers write 7 in every byte that they hold
abbrev pub forty : Order → Outcome
forty o = take' (day o) begin (Bytes 40)

abbrev pub sixty : Order → Outcome
sixty o = take' (day o) (forty o) (Bytes 60)

abbrev pub morning : Order → Outcome
morning o = take' (day o) (sixty o) (Bytes 92)

abbrev pub written : Outcome → Outcome
written x = record { says = x.says; header = x.header; bytes = replicate 8 0 ++ replicate 192 7 }

-- 01: give back (8,40), (48,60)
abbrev pub noon : Order → Outcome
noon o = give (day o) (written (morning o)) 8 40

abbrev pub s : Order → Outcome
s o = give (day o) (noon o) 48 60

-- what a call says and the top that it leaves
abbrev pub leading : Outcome → Figure
leading x = says_at x.says x.header.allocated

-- top 108, cap 200, data offset 8, list empty
abbrev pub rewind : Order → Position → Figure
rewind o p = leading (rewinding (day o) (with_top begin.header 108) begin.bytes p)

-- None, cap 20, top 13
abbrev pub full : Request → Figure
full r = says (taking (shape 20 8 None) (with_top (fresh_header 8 20) 13) (replicate 20 0) r).says

-- a request in S: what it says; and the list and the count of discarded bytes that it leaves
abbrev pub taken : Order → Request → Outcome
taken o r = take' (day o) (s o) r

abbrev pub asks : Order → Request → Figure
asks o r = says (taken o r).says

abbrev pub keeping : Order → Outcome → Figure
keeping o x = list (free (day o) x.header x.bytes) x.header.discarded

abbrev pub kept_after : Order → Request → Figure
kept_after o r = keeping o (taken o r)

abbrev pub seg : ℕ → ℕ → Segment
seg p n = record { offset = p; size = n }

abbrev pub block4 : ℕ → ℕ → ℕ → ℕ → Figure
block4 p n at m = says (granted (block p n at m))

abbrev pub refusal : ℕ → List ℕ → Figure
refusal code carried = says (refused code carried)

abbrev pub done_at : ℕ → Figure
done_at top = says_at done top

abbrev pub back_at : ℕ → Figure
back_at top = says_at (given_back true) top

-- each line: what the definitions compute, and what the paper says
pub record Line : Type 0 where
  pub computed : Figure
  pub stated : Figure

abbrev pub line : Figure → Figure → Line
line a b = record { computed = a; stated = b }

-- the two are the same
abbrev pub Agrees : Line → Type 0
Agrees x = x.computed ≡ x.stated

-- lines for which the paper names no policy are computed for both orders
abbrev pub both_orders : (Order → List Line) → List Line
both_orders lines = lines Optimistic ++ lines Pessimistic

-- start S, as setup answers it; bytes 40, 60, 92 give (8,40), (48,60), (108,92); give back (8,40), (48,60): top 200
abbrev pub setting_out : Order → List Line
setting_out o =
    line (setup (setting_up (settings o) 200)) (setup (ready (day o) begin.header))
    ∷ line (says (forty o).says) (block4 8 40 8 40)
    ∷ line (says (sixty o).says) (block4 48 60 48 60)
    ∷ line (says (morning o).says) (block4 108 92 108 92)
    ∷ line (leading (noon o)) (back_at 200)
    ∷ line (leading (s o)) (back_at 200)
    ∷ []

-- nodes 8 with 32, 48 with 52; discarded 16. Pessimistic order 8, 48; optimistic 48, 8
abbrev pub sorted_lists : List Line
sorted_lists =
    line (keeping Pessimistic (s Pessimistic)) (list (seg 8 32 ∷ seg 48 52 ∷ []) 16)
    ∷ line (keeping Optimistic (s Optimistic)) (list (seg 48 52 ∷ seg 8 32 ∷ []) 16)
    ∷ []

-- bytes 30, pessimistic: memory (8,32), usable (16,30); optimistic: (48,52), (56,30). No split: discarded stays 16
abbrev pub bytes_thirty : List Line
bytes_thirty =
    line (asks Pessimistic (Bytes 30)) (block4 8 32 16 30)
    ∷ line (kept_after Pessimistic (Bytes 30)) (list (seg 48 52 ∷ []) 16)
    ∷ line (asks Optimistic (Bytes 30)) (block4 48 52 56 30)
    ∷ line (kept_after Optimistic (Bytes 30)) (list (seg 8 32 ∷ []) 16)
    ∷ []

-- bytes 4, optimistic: memory (48,4), usable (56,4), list 64 with 36, then 8; discarded 24. Pessimistic: (8,32), (16,4), no split
abbrev pub bytes_four : List Line
bytes_four =
    line (asks Optimistic (Bytes 4)) (block4 48 4 56 4)
    ∷ line (kept_after Optimistic (Bytes 4)) (list (seg 64 36 ∷ seg 8 32 ∷ []) 24)
    ∷ line (asks Pessimistic (Bytes 4)) (block4 8 32 16 4)
    ∷ line (kept_after Pessimistic (Bytes 4)) (list (seg 48 52 ∷ []) 16)
    ∷ []

-- bytes 53: pessimistic 9 (53, 0), optimistic 9 (53, 52)
abbrev pub bytes_fifty_three : List Line
bytes_fifty_three =
    line (asks Pessimistic (Bytes 53)) (refusal 9 (53 ∷ 0 ∷ []))
    ∷ line (asks Optimistic (Bytes 53)) (refusal 9 (53 ∷ 52 ∷ []))
    ∷ []

-- typed 8 align 8, pessimistic: memory (8,32), usable (8,8), bytes 16 to 30 zeroed, and byte 31 not
abbrev pub typed_eight : List Line
typed_eight =
    line (asks Pessimistic (Typed 8 8)) (block4 8 32 8 8)
    ∷ line (bytes (take 16 (drop 16 (taken Pessimistic (Typed 8 8)).bytes))) (bytes (replicate 15 0 ++ 7 ∷ []))
    ∷ []

-- give back (108,92) instead: top 108
abbrev pub top_again : Order → List Line
top_again o =
    line (leading (give (day o) (written (morning o)) 108 92)) (back_at 108)
    ∷ []

-- rule at offset 16: size 28 accepted (20), 27 refused; minimum 0: 9 accepted, 8 refused. (13,33): node 16, size 22
abbrev pub segment_rule : List Line
segment_rule =
    line (rule (segment_of 20 16 28)) (rule (Some (seg 16 20)))
    ∷ line (rule (segment_of 20 16 27)) (rule Refused)
    ∷ line (rule (segment_of 0 16 9)) (rule (Some (seg 16 1)))
    ∷ line (rule (segment_of 0 16 8)) (rule Refused)
    ∷ line (rule (segment_of 20 13 33)) (rule (Some (seg 16 22)))
    ∷ []

-- data offsets for reserved 0, 1, 8, 9: 1, 2, 9, 10; unify 32, 40, 40, 48
abbrev pub data_offsets : List Line
data_offsets =
    line (bytes (map (λ (n : ℕ). data_offset n false) (0 ∷ 1 ∷ 8 ∷ 9 ∷ []))) (bytes (1 ∷ 2 ∷ 9 ∷ 10 ∷ []))
    ∷ line (bytes (map (λ (n : ℕ). data_offset n true) (0 ∷ 1 ∷ 8 ∷ 9 ∷ []))) (bytes (32 ∷ 40 ∷ 40 ∷ 48 ∷ []))
    ∷ []

-- top 1, cap 200, typed 8 align 8: memory (1,15), usable (8,8)
abbrev pub typed_at_one : Order → List Line
typed_at_one o =
    line (says (taking (shape 200 1 (Ordered o)) (fresh_header 1 20) (replicate 200 0) (Typed 8 8)).says) (block4 1 15 8 8)
    ∷ []

-- None, cap 20, top 13, size 8 align 8: typed 9 (24, 7); aligned, extra 0: 9 (8, 7)
abbrev pub under_none : List Line
under_none =
    line (full (Typed 8 8)) (refusal 9 (24 ∷ 7 ∷ []))
    ∷ line (full (Aligned 8 8 0)) (refusal 9 (8 ∷ 7 ∷ []))
    ∷ []

-- rewind: Start(0) 8, Start(500) 200, Current(-108) 108, Current(-109) 8, Current(-101) 8, Current(92) 200, End(150) 50, End(201) 8
abbrev pub rewinds : Order → List Line
rewinds o =
    line (rewind o (Start 0)) (done_at 8)
    ∷ line (rewind o (Start 500)) (done_at 200)
    ∷ line (rewind o (Current (negsuc 107))) (done_at 108)
    ∷ line (rewind o (Current (negsuc 108))) (done_at 8)
    ∷ line (rewind o (Current (negsuc 100))) (done_at 8)
    ∷ line (rewind o (Current (pos 92))) (done_at 200)
    ∷ line (rewind o (End 150)) (done_at 50)
    ∷ line (rewind o (End 201)) (done_at 8)
    ∷ []

-- in S, End(150): refusal 8. Give back (8,40) again: 7
abbrev pub refusals : Order → List Line
refusals o =
    line (says (rewinding (day o) (s o).header (s o).bytes (End 150)).says) (refusal 8 [])
    ∷ line (says (give (day o) (s o) 8 40).says) (refusal 7 [])
    ∷ []

-- the whole ledger, a group of lines for each of the paper's
abbrev pub ledger : List (List Line)
ledger =
    both_orders setting_out
    ∷ sorted_lists
    ∷ bytes_thirty
    ∷ bytes_four
    ∷ bytes_fifty_three
    ∷ typed_eight
    ∷ both_orders top_again
    ∷ segment_rule
    ∷ data_offsets
    ∷ both_orders typed_at_one
    ∷ under_none
    ∷ both_orders rewinds
    ∷ both_orders refusals
    ∷ []

-- every line of the ledger holds
pub ledger_holds : Each (Each Agrees) ledger
unfolding opened
ledger_holds = search rules
