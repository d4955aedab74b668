-- A thin function's theorem, from its core's theorem: the walk, over the machine's tables and with the parameters' machine values written out.
-- What a function's own proof by it names: the function and its core (this, core, routine, calls), what the two say (says, tells) and that the one gives the other (claim), the core's theorem (met), how the rest's machine values are told (ls),
-- how the rest is handed on (hands), and that the function's code is `thin` (closed).
-- Assumes nothing.
use mathlib.Core.Path.{◌≡◌}
use mathlib.Core.List.{List}
use seplogic.Ra.Ura.{Ura}
use mir.Syntax.{Ty, Opd as Operand, Body}
use base.Logic.{emp, via, fst∗}
use prog.Wp.{WpFn, Closed}
use prog.Model.{Model}
use prog.Routine.{Callee, Routine, Env}
use types.Logic.{Logic}
use contract.Lifetimes.{Lfts, toks}
use contract.Running.{Running, tables, tables_of}
use sound.WpLaws.{fm_of}
use denote.RattleType.{Denots, Valss, mirs, flat}
use denote.Laws.{Typed, all_Typed}
use denote.Signature.{Slot, types_at}
use denote.Triple.Statement.{Triple}
use denote.Triple.Table.{entered, cited}
use denote.Triple.End.{Kepts}
use Rattle.lent.proofs.Values.{Tolds, shape_told, header_told, vals_of, lawfuls, told}
use Rattle.lent.proofs.Form.{thin, Rows, Says, Tells, Claim, Core, Thin}
use Rattle.lent.proofs.Walk.{Hands, walk}

module _ {M : Type 1} {𝓤 : Ura M} (𝓛 : Logic 𝓤) (𝓜 : Model 𝓤 𝓛.H) (𝓡 : Running 𝓤 𝓛.H 𝓜) (γ : Env) (this core : Callee) (routine : Routine) (calls : γ core ≡ routine)
    (ts : List (Slot 1)) (js : Kepts ts) (says : Says ts js 𝓤) (tells : Tells ts js 𝓤) (claim : Claim ts js 𝓤 says tells) (met : Triple 𝓤 (𝓡.run routine) (Core ts js 𝓤 𝓛 says)) (ls : (κs : Lfts 1) → Tolds (types_at ts κs)) where
  open 𝓛 use {H}

  abbrev vals : (κs : Lfts 1) → Denots (types_at ts κs) → Valss (types_at ts κs)
  vals κs = vals_of (types_at ts κs) (ls κs)

  module _ {τs more : List Ty} {mid : Body → Body} {xs : List Operand}
      (hands : (κs : Lfts 1) (a : Denots (types_at ts κs)) → Typed (mirs (types_at ts κs)) (flat (types_at ts κs) (vals κs a)) → Hands 𝓛 τs more (flat (types_at ts κs) (vals κs a)) mid xs)
      (closed : Closed 𝓤 H (tables 𝓤 H 𝓜 𝓡 γ).C (tables 𝓤 H 𝓜 𝓡 γ).Λ this (thin core τs more mid xs)) where
    pub thin_spec : Triple 𝓤 (𝓡.run (γ this)) (Thin ts js 𝓤 𝓛 tells)
    unfolding tables_of
    thin_spec = entered 𝓤 H (Thin ts js 𝓤 𝓛 tells) (tables 𝓤 H 𝓜 𝓡 γ).C (tables 𝓤 H 𝓜 𝓡 γ).Λ this (thin core τs more mid xs) closed (λ y.
        let κs : Lfts 2 = y.0.0 in
        let a : Denots (Rows ts κs) = y.0.3 in
        via 𝓤 _ (fst∗ 𝓤 _ (emp 𝓤)) (told 𝓛 (Rows ts κs) (shape_told, (header_told κs.0, ls κs.1)) (toks 𝓛 2 κs y.0.1) a
        (λ us. WpFn 𝓤 H (tables 𝓤 H 𝓜 𝓡 γ).C (tables 𝓤 H 𝓜 𝓡 γ).Λ (thin core τs more mid xs) (flat (Rows ts κs) us) ((Thin ts js 𝓤 𝓛 tells).post y)) y.0.4 (λ are.
        walk ts js 𝓛 says tells claim κs y.0.1 a (vals κs.1 a.1.1) (tables 𝓤 H 𝓜 𝓡 γ).C (tables 𝓤 H 𝓜 𝓡 γ).Λ
        (fm_of 𝓤 H 𝓛.laws (tables_of 𝓤 H 𝓜 (tables 𝓤 H 𝓜 𝓡 γ))) core (cited 𝓤 H (Core ts js 𝓤 𝓛 says) 𝓜 𝓡 γ core routine calls met) are.0
        (hands κs.1 a.1.1 (all_Typed 𝓛 (types_at ts κs.1) (lawfuls 𝓛 (types_at ts κs.1) (ls κs.1)) a.1.1 _ are.1.1)))))
