-- Parameters whose one machine value is told by the denotation: what a walk needs of each type, so that a list of parameters is a tuple of these.
--     Told R           the machine value as a function of the denotation, that R's relation tells it, and that it is of R's MIR type.        Tolds Rs     of a list
--     vals_of, lawfuls     the machine values of a list of parameters, and that they are of their types
--     told             on entry the machine values are written out, with the parameters' relations in hand: `denote.Steps`' `said`, of a list of types
-- Assumes nothing.
use mathlib.Core.Path.{◌≡◌, sym, subst}
use mathlib.Core.List.{List, [], ◌∷◌}
use seplogic.Ra.Ura.{Ura}
use mir.Syntax.{named, w32}
use mir.Val.{Val, vint, vptr}
use base.Logic.{SProp, ent, sep, via, snd∗}
use base.Fml.{Lft}
use lib.ListN.{length}
use types.Logic.{Logic, sem}
use contract.Monad.{fact_use}
use denote.RattleType.{RattleType, Denots, Valss, owns}
use denote.Laws.{Is, Ises, Tells, Lawful, Are, Spells, valss, Tellss, Lawfuls, all_tell, owns_show, showss}
use denote.Builtin.{u8, u32}
use denote.Plain.{uint_Tells, uint_Lawful}
use denote.Ref.{MutRef, mut_Tells, mut_Lawful}
use denote.Slice.{slice_val, MutSlice, mut_slice_Tells, mut_slice_Lawful}
use denote.Struct.Laws as LL
use Rattle.records.specs.contracts.Shape as S
use Rattle.records.proofs.Shape.TheLaws as S'
use Rattle.records.specs.contracts.Header as T

pub record Told (R : RattleType) : Type 2 where
  pub val : R.Denot → Val
  pub tells : Tells R (Is R) (λ x. val x ∷ [])
  pub lawful : {M : Type 1} {𝓤 : Ura M} (𝓛 : Logic 𝓤) → Lawful 𝓛 R

abbrev pub u32_told : Told u32
u32_told = record { val = vint w32; tells = uint_Tells w32; lawful = λ 𝓛. uint_Lawful 𝓛 w32 }

abbrev pub mut_slice_told : (κ : Lft) → Told (MutSlice (named 0) κ u8)
mut_slice_told κ = record { val = λ x. slice_val x.ref_ptr (length x.now); tells = mut_slice_Tells (named 0) κ u8; lawful = λ 𝓛. mut_slice_Lawful 𝓛 (named 0) κ u8 }

abbrev pub shape_told : Told S.the_row
shape_told = record { val = LL.val S.the_type S'.the_laws; tells = LL.tells S.the_type S'.the_laws; lawful = LL.lawful S.the_type S'.the_laws }

abbrev pub header_told : (κ : Lft) → Told (MutRef (named 0) κ T.the_row)
header_told κ = record { val = λ x. vptr x.ref_ptr.0 x.ref_ptr.1; tells = mut_Tells (named 0) κ T.the_row; lawful = λ 𝓛. mut_Lawful 𝓛 (named 0) κ T.the_row }

-- ---- a list of parameters
abbrev pub Tolds : List RattleType → Type 2
Tolds [] = Unit {2}
Tolds (R ∷ Rs) = Told R × Tolds Rs

abbrev spells : (Rs : List RattleType) → Tolds Rs → Spells Rs
spells [] ls = tt
spells (R ∷ Rs) ls = ((λ x. ls.0.val x ∷ []), spells Rs ls.1)

abbrev pub vals_of : (Rs : List RattleType) → Tolds Rs → Denots Rs → Valss Rs
vals_of Rs ls = valss Rs (spells Rs ls)

all_told : (Rs : List RattleType) (ls : Tolds Rs) → Tellss Rs (Ises Rs) (spells Rs ls)
all_told [] ls = tt
all_told (R ∷ Rs) ls = (ls.0.tells, all_told Rs ls.1)

module _ {M : Type 1} {𝓤 : Ura M} (𝓛 : Logic 𝓤) where
  pub lawfuls : (Rs : List RattleType) → Tolds Rs → Lawfuls 𝓛 Rs
  lawfuls [] ls = tt
  lawfuls (R ∷ Rs) ls = (ls.0.lawful 𝓛, lawfuls Rs ls.1)

  pub told : (Rs : List RattleType) (ls : Tolds Rs) (P : SProp 𝓤) (a : Denots Rs) (Q : Valss Rs → SProp 𝓤) (vss : Valss Rs)
      → (Are Rs (Ises Rs) a (vals_of Rs ls a) → ent 𝓤 (sep 𝓤 P (sem 𝓛 (owns Rs a (vals_of Rs ls a)))) (Q (vals_of Rs ls a))) → ent 𝓤 (sep 𝓤 P (sem 𝓛 (owns Rs a vss))) (Q vss)
  told Rs ls P a Q vss k =
      fact_use 𝓤 (Are Rs (Ises Rs) a vss) (via 𝓤 (sem 𝓛 (owns Rs a vss)) (snd∗ 𝓤 P (sem 𝓛 (owns Rs a vss))) (owns_show 𝓛 Rs (Ises Rs) (showss 𝓛 Rs) a vss)) (λ are.
      let e : vss ≡ vals_of Rs ls a = all_tell Rs (Ises Rs) (spells Rs ls) (all_told Rs ls) a vss are in
      subst (λ (us : Valss Rs). ent 𝓤 (sep 𝓤 P (sem 𝓛 (owns Rs a us))) (Q us)) (sym e) (k (subst (Are Rs (Ises Rs) a) e are)))
