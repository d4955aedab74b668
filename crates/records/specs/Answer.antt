-- What calls say, in document 01's numbers: 'What each call says no with'.
use Rattle.std.specs.Prelude.{ℕ, Bool, List, [], ◌∷◌, Option, Some, None, Result, Ok, Err}
use Rattle.records.specs.declared.Shape.{Shape}
use Rattle.records.specs.declared.Header.{Header}
use Rattle.records.specs.declared.Block.{Block}
use Rattle.records.specs.declared.Answer.{Answer}
use Rattle.records.specs.declared.Answer.TheVariants.{Granted, Nothing, GivenBack, Sum, Done, ReadOnly, Damaged, BadLayout, OutOfBounds, Overlap, CutsFreeList, InsufficientSpace}
use Rattle.records.specs.declared.Reply.{Reply}
use Rattle.records.specs.declared.Arena.{Arena}
use Rattle.records.specs.declared.SetupError.{SetupError}
use Rattle.records.specs.declared.SetupError.TheVariants.{UnknownFreelist, BadSetup}

-- what a call says: a block, nothing, whether a range was taken back, a sum, that it is done, or a refusal's number and what it carries
pub data Said : Type 0 where
  granted : Block → Said
  nothing : Said
  given_back : Bool → Said
  sum : ℕ → Said
  done : Said
  refused : ℕ → List ℕ → Said

-- 01's table: number, name and what is carried
abbrev pub said : Answer → Said
said (Granted b) = granted b
said Nothing = nothing
said (GivenBack b) = given_back b
said (Sum n) = sum n
said Done = done
said ReadOnly = refused 1 []
said Damaged = refused 4 []
said BadLayout = refused 5 []
said (OutOfBounds offset allocated) = refused 6 (offset ∷ allocated ∷ [])
said Overlap = refused 7 []
said CutsFreeList = refused 8 []
said (InsufficientSpace requested available) = refused 9 (requested ∷ available ∷ [])

-- the number that a refusal has, and none for any other answer
abbrev pub number_of : Said → Option ℕ
number_of (refused number carried) = Some number
number_of _ = None

-- all that a call leaves: what it says, the header and every byte
pub record Outcome : Type 0 where
  pub says : Said
  pub header : Header
  pub bytes : List ℕ

abbrev pub outcome : Reply → List ℕ → Outcome
outcome r l = record { says = said r.answer; header = r.header; bytes = l }

abbrev pub leaves : Said → Header → List ℕ → Outcome
leaves x h l = record { says = x; header = h; bytes = l }

-- 01: each refusal changes no header field and no byte
abbrev pub refuses : ℕ → List ℕ → Header → List ℕ → Outcome
refuses number carried h l = leaves (refused number carried) h l

-- what setup says: a shape and a header, or a refusal's number
pub data Began : Type 0 where
  ready : Shape → Header → Began
  unready : ℕ → Began

abbrev pub began : Result Arena SetupError → Began
began (Ok a) = ready a.shape a.header
began (Err UnknownFreelist) = unready 2
began (Err BadSetup) = unready 3
