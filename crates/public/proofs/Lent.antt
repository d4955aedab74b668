-- The three calls over a lent header meet the contract that is their row. Each is proved in `lent`: what it ensures is the row by computing.
-- Assumes nothing.
use seplogic.Ra.Ura.{Ura}
use prog.Model.{Model}
use prog.Wired.{Wired, Code}
use mir.Syntax.{Callee}
use types.Logic.{Logic}
use contract.Lifetimes.{Lfts}
use contract.Notation.{connectives}
use contract.Running.{Running}
use denote.Triple.Clauses.{Ended, Clauses, AtExit, closing}
use denote.Triple.Entry.{Args, Res}
use denote.Triple.Spec.{Meets}
use Rattle.records.specs.declared.Request.TheVariants.{Bytes}
use Rattle.calls.specs.declared.Call.TheVariants.{Take, Give, Rewind}
use Rattle.lent.specs.contracts.alloc_bytes as alloc_bytes
use Rattle.lent.specs.contracts.dealloc as dealloc
use Rattle.lent.specs.contracts.rewind as rewind
use Rattle.lent.proofs as lent
use Rattle.public.specs.Public.{Promised, lent_change}

-- what a function may ensure: a fact of its arguments, its result and its parameters at exit
abbrev Fact : Ended → Type 1
Fact T = (κs : Lfts T.signature.lifetimes) → Args T.signature κs → Res T.signature κs → AtExit T κs → Type 0

-- the contract that requires nothing and ensures this
abbrev ensuring : {M : Type 1} (𝓤 : Ura M) (T : Ended) → Fact T → Clauses 𝓤 T
ensuring 𝓤 T p κs a = record { ghost = Unit {0}; requires = λ g. (connectives 𝓤).⊤ₛ; ensures = λ g r e. (connectives 𝓤).⌜◌⌝ (p κs a r e) }

-- the code of this name meets it, wherever the name stands for the code
abbrev pub Ensures : (T : Ended) → Callee → Code → Fact T → Type 1 → Type 2
Ensures T name code p M =
    (𝓤 : Ura M) (𝓛 : Logic 𝓤) (𝓜 : Model 𝓤 𝓛.H) (𝓡 : Running 𝓤 𝓛.H 𝓜) → Wired 𝓡.env code →
    Meets 𝓛 T.signature (𝓡.run (𝓡.env name)) (closing 𝓛 T (ensuring 𝓤 T p))

pub alloc_bytes_row :
    {M : Type 1} → Ensures alloc_bytes.ended lent.alloc_bytes.Symbol.name lent.alloc_bytes.Symbol.code
    (λ κs a r e. Promised (lent_change a.0 a.1.0.now a.1.1.0.now (Take (Bytes a.1.1.1.0))) (r, e.1.0.now, e.1.1.0.now)) M
alloc_bytes_row = lent.alloc_bytes.Met.met

pub dealloc_row :
    {M : Type 1} → Ensures dealloc.ended lent.dealloc.Symbol.name lent.dealloc.Symbol.code
    (λ κs a r e. Promised (lent_change a.0 a.1.0.now a.1.1.0.now (Give a.1.1.1.0 a.1.1.1.1.0)) (r, e.1.0.now, e.1.1.0.now)) M
dealloc_row = lent.dealloc.Met.met

pub rewind_row :
    {M : Type 1} → Ensures rewind.ended lent.rewind.Symbol.name lent.rewind.Symbol.code
    (λ κs a r e. Promised (lent_change a.0 a.1.0.now a.1.1.0.now (Rewind a.1.1.1.0)) (r, e.1.0.now, a.1.1.0.now)) M
rewind_row = lent.rewind.Met.met
