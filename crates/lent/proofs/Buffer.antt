-- The two ways in which a thin function hands its buffer on, with the numbers after it.
--     as_it_is         a shared buffer is copied with the rest: no local and no statement more
--     lent_again       a `&mut` buffer is lent again: its pointer is taken anew (`lend`'s first statement) and put beside its count (its second), and the core gets the slice so made, which is the same value
-- Assumes nothing.
use Prim.Native.Nat.{ℕ, zero, suc}
use mathlib.Core.Path.{refl}
use mathlib.Core.List.{List, [], ◌∷◌}
use seplogic.Ra.Ura.{Ura}
use base.Fraction.{full_share}
use mir.Syntax.{Lifetime, Ty, ty_int, ty_ref, named, erased, mut, w8, deref, field, place, copy, addr_of, aggregate, Body, seq, assign}
use mir.Val.{Val, vptr}
use base.Fml.{ftrue, fat, fdies}
use types.Logic.{Logic}
use types.Kit.{Item, ‵, ◌⊛◌, step, ◌$◌, !, move, split, join, done}
use types.Run.{look, init, stop, hop, fld, load, addr, and_then, no_more, assigns}
use types.Part.{agg, whole, sub, look_in}
use denote.Laws.{Typed}
use denote.Slice.{slice_val, slice_ty}
use Rattle.lent.proofs.Locals.{held, copies, found, next, reads_as, reads_at, reads_all}
use Rattle.lent.proofs.Form.{#more}
use Rattle.lent.proofs.Walk.{Hands}

abbrev bytes : Lifetime → Ty
bytes ℓ = ty_ref ℓ mut (ty_int w8)

abbrev lend : ℕ → Body → Body
lend m rest =
    seq (assign (place m []) (addr_of (place 3 (field 0 ∷ deref (ty_int w8) ∷ []))))
    (seq (assign (place (suc m) []) (aggregate (copy (place m []) ∷ copy (place 3 (field 1 ∷ [])) ∷ []))) rest)

module _ {M : Type 1} {𝓤 : Ura M} (𝓛 : Logic 𝓤) (τs : List Ty) where
  pub as_it_is : {vs : List Val} → Typed τs vs → Hands 𝓛 τs [] vs (λ rest. rest) (copies 3 τs)
  as_it_is {vs} ty = record {
    typed = ty;
    us = [];
    lends = λ C Λ E E' bs ms at at' Γ p rest. step (λ s. s);
    reads = λ E E' bs ms at at' Γ. reads_all ! τs bs vs 3 E' ty at;
  }

  abbrev slice : Ty
  slice = slice_ty (bytes (named 1))

  abbrev anew : List Ty
  anew = bytes erased ∷ slice_ty (bytes erased) ∷ []

  abbrev m : ℕ
  m = #more (slice ∷ τs)

  pub lent_again : {b o n : ℕ} {vs : List Val} → Typed (slice ∷ τs) (slice_val (b, o) n ∷ vs) → Hands 𝓛 (slice ∷ τs) anew (slice_val (b, o) n ∷ vs) (lend m) (copy (place (suc m) []) ∷ copies 4 τs)
  lent_again {b} {o} {n} {vs} ty = record {
    typed = ty;
    us = vptr b o ∷ slice_val (b, o) n ∷ [];
    lends = λ C Λ E E' bs ms at at' Γ p rest. step (λ s. split ! $ split ! $ move ! (3 ∷ []) $ split ! $ split ! $ move ! (2 ∷ []) $ split ! $ split ! $
        -- [room for the slice made anew; …; nothing; room for the pointer at 3; …; the slice at 5; …; the rest's cells; …]
        assigns ! (addr ! (found ! at (fld ! refl (hop ! (look_in ! 5 (sub ! 0 refl (whole !))) (stop !))))) (found ! at' (stop !)) (init ! 3 refl (tt, tt)) $
        assigns ! (agg ! (and_then ! (load ! (found ! at' (stop !)) (look ! 3 refl)) (and_then ! (load ! (found ! at (fld ! refl (stop !))) (look_in ! 5 (sub ! 1 refl (whole !)))) (no_more !)))) (found ! (next E m at') (stop !)) (init ! 0 refl (tt, ty.0.1)) $
        join ! $ join ! $ move ! (1 ∷ 2 ∷ []) $ join ! $ join ! $ move ! (1 ∷ 2 ∷ []) $ join ! $ move ! (0 ∷ 2 ∷ []) $ join ! $ s);
    reads = λ E E' bs ms at at' Γ.
        let own : Item 𝓤 = ‵ (fat full_share slice bs.0 zero (slice_val (b, o) n)) ⊛ ‵ (fdies slice bs.0) in
        let pointer : Item 𝓤 = ‵ (fat full_share (bytes erased) ms.0 zero (vptr b o)) ⊛ ‵ (fdies (bytes erased) ms.0) in
        reads_as ! (‵ (fat full_share (slice_ty (bytes erased)) ms.1.0 zero (slice_val (b, o) n)) ∷ ‵ (fdies (slice_ty (bytes erased)) ms.1.0) ∷ ‵ ftrue ∷ pointer ∷ own ∷ held 𝓤 τs bs.1 vs ∷ Γ)
        (split ! $ move ! (2 ∷ []) $ split ! $ move ! (1 ∷ []) $ split ! $ split ! $ done !) (join ! $ join ! $ move ! (1 ∷ 0 ∷ []) $ join ! $ move ! (1 ∷ 2 ∷ []) $ join ! $ done !)
        (and_then ! (load ! (found ! (next E m at') (stop !)) (look ! 0 {q = full_share} refl)) (reads_at ! (5 ∷ []) (reads_all ! τs bs.1 vs 4 E' ty.1 (next E 3 at))));
  }
