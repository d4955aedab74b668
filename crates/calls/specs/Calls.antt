-- Every call that may change an arena, and what it leaves. Document 01: the calls of 'What each call says no with'.
use Rattle.std.specs.Prelude.{ℕ, List}
use Rattle.records.specs.Answer.{Outcome}
use Rattle.records.specs.declared.Shape.{Shape}
use Rattle.records.specs.declared.Header.{Header}
use Rattle.arena.specs.Take.{taking}
use Rattle.arena.specs.Give.{giving_back}
use Rattle.arena.specs.Rewind.{discarding, rewinding, setting_minimum, adding_discarded}
use Rattle.calls.specs.declared.Call.{Call}
use Rattle.calls.specs.declared.Call.TheVariants.{Take, Give, Discard, Rewind, SetMinimum, AddDiscarded}

-- what a call says and leaves: the definition that its contract cites
abbrev pub performed : Shape → Header → List ℕ → Call → Outcome
performed s h l (Take r) = taking s h l r
performed s h l (Give offset size) = giving_back s h l offset size
performed s h l Discard = discarding s h l
performed s h l (Rewind p) = rewinding s h l p
performed s h l (SetMinimum n) = setting_minimum s h l n
performed s h l (AddDiscarded n) = adding_discarded s h l n
