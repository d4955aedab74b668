-- The walk of a thin function's MIR, for every core, every list of parameters and every way of handing them on.
-- The header's borrow is opened, the record is copied out, the core is called on the copy and on the rest, the reply's header is stored over the record, the borrow is closed there, and the reply's answer is the result.
-- The rest goes to the core for good, at its own lifetime and names: what the core says of it at exit is what the function says of it.
--     Hands            how the rest is handed on: `mid` fills the locals `more` with us, and then xs read the values vs that the function was called with
--     ends             what the walk has in the end is the function's `post`
--     walk             the code meets `Thin` where the core meets `Core`
-- Assumes nothing.
use mathlib.Core.Path.{◌≡◌, refl, ap}
use Prim.Native.Nat.{ℕ}
use mathlib.Core.List.{List, [], ◌∷◌}
use lib.ListN.{drop as from_on}
use seplogic.Ra.Ura.{Ura}
use base.Fraction.{full_share}
use mir.Syntax.{Callee, Ty, Opd as Operand, Body}
use mir.Val.{Val, vptr}
use base.Logic.{SProp, ent, sep, ex, id⊢}
use base.Fml.{Fml, ftrue, fsep, flft, fobs, fres, fat}
use prog.Memory.{size, align, up}
use prog.Wp.{Env, Calls, Loops, WpFn}
use types.Logic.{Logic, sem}
use contract.Lifetimes.{Lfts, Shares, toks}
use types.Kit.{Item, ‵, raw, ◌⊛◌, some, later, Post, runs, Step, Go, ◌$◌, ◌∵◌, !, qed, by, move, keep, drop, use1, split, join, pick, rewrite, fsplit, fsplit3, fjoin, frame, show, updating, now as at_once, await, done}
use types.Run.{Opds, look, look_raw, init, store_raw, forget, stop, hop, fld, from, load, of_opd, and_then, land, assigns, returns, enter, alloc1, alloc0, params1, pass1, free1, free0}
use types.Part.{whole, sub, look_in}
use sound.WpLaws.{FmC}
use denote.RattleType.{Denots, Valss, flat, owns}
use denote.Laws.{Typed, Is, shows}
use denote.Ref.{MutBor, mut_vals}
use denote.Signature.{Slot, types_at}
use denote.Steps.{only, opens, closes, owned, peeks, nothing}
use denote.Struct.Steps.{spelt}
use denote.Struct.Laws as LL
use denote.Enum.Laws as EL
use denote.Triple.Statement.{Contract, Triple}
use denote.Triple.Call.{calls_at}
use denote.Triple.End.{Kepts, Fins, lasts_of}
use Rattle.records.specs.declared.Shape.{Shape}
use Rattle.records.specs.contracts.Shape as S
use Rattle.records.proofs.Shape.TheLaws as S'
use Rattle.records.specs.declared.Header.{Header}
use Rattle.records.specs.contracts.Header as T
use Rattle.records.proofs.Header.TheLaws as T'
use Rattle.records.specs.declared.Answer.{Answer}
use Rattle.records.specs.contracts.Answer as X
use Rattle.records.proofs.Answer.TheLaws as X'
use Rattle.records.specs.declared.Reply.{Reply}
use Rattle.records.specs.contracts.Reply as D
use Rattle.records.proofs.Reply.TheLaws as D'
use Rattle.lent.proofs.Locals.{Blocks, env, rooms, held, allocs_all, passes_all, forgets_all, frees_all, found, next, past, reads_at}
use Rattle.lent.proofs.Form.{#reply, #copy, #more, lent_header, thin, Rows, Says, Said, Tells, Claim, Core, Leaves, Answers}

abbrev shape_vals : Shape → List Val
shape_vals = LL.vals S.the_type S'.the_laws

abbrev header_vals : Header → List Val
header_vals = LL.vals T.the_type T'.the_laws

abbrev answer_val : Answer → Val
answer_val = EL.val X.the_type X'.the_laws

-- where the header lies in a reply
abbrev header_at : ℕ
header_at = up (align T'.mir) (size X'.mir)

-- the environment from local 3 on is the rest's, and from `#more` on it is that of `more`
module _ {M : Type 1} {𝓤 : Ura M} (𝓛 : Logic 𝓤) where
  open 𝓛 use {H}

  pub record Hands (τs more : List Ty) (vs : List Val) (mid : Body → Body) (xs : List Operand) : Type 2 where
    pub typed : Typed τs vs
    pub us : List Val
    pub lends : (C : Calls 𝓤 H) (Λ : Loops 𝓤 H) (E : Env 𝓤 H) (E' : List (Ty × ℕ)) (bs : Blocks τs) (ms : Blocks more) → from_on 3 E ≡ env τs bs E' → from_on (#more τs) E ≡ env more ms []
        → (Γ : List (Item 𝓤)) (p : Post 𝓤 H) (rest : Body) → Step (Go {0}) 𝓛 (held 𝓤 τs bs vs ∷ held 𝓤 more ms us ∷ Γ) (runs C Λ E rest p) (held 𝓤 τs bs vs ∷ rooms 𝓤 more ms ∷ Γ) (runs C Λ E (mid rest) p)
    pub reads : (E : Env 𝓤 H) (E' : List (Ty × ℕ)) (bs : Blocks τs) (ms : Blocks more) → from_on 3 E ≡ env τs bs E' → from_on (#more τs) E ≡ env more ms []
        → (Γ : List (Item 𝓤)) → Opds (Go {0}) 𝓛 (held 𝓤 τs bs vs ∷ held 𝓤 more ms us ∷ Γ) E xs vs

module _ (ts : List (Slot 1)) (js : Kepts ts) {M : Type 1} {𝓤 : Ura M} (𝓛 : Logic 𝓤) (says : Says ts js 𝓤) (tells : Tells ts js 𝓤) (claim : Claim ts js 𝓤 says tells)
    (κs : Lfts 2) (qs : Shares 2) (a : Denots (Rows ts κs)) where
  open 𝓛 use {H, A}

  abbrev s : Shape
  s = a.0

  abbrev x : MutBor Header
  x = a.1.0

  abbrev toks' : SProp 𝓤
  toks' = toks 𝓛 1 κs.1 qs.1

  abbrev lasts : Fins κs.1 ts js a.1.1 → Fml
  lasts = lasts_of κs.1 ts js a.1.1

  abbrev said : Reply → Fins κs.1 ts js a.1.1 → SProp 𝓤
  said = Said ts js 𝓤 says κs a

  abbrev AnswerOf : Val → Answer → SProp 𝓤
  AnswerOf = Answers ts js 𝓤 𝓛 tells κs a qs

  ends : (r : Reply) (ws : Fins κs.1 ts js a.1.1) → Is X.the_row r.answer (answer_val r.answer ∷ [])
      → ent 𝓤 (sep 𝓤 (A.obs x.ghost_name ((T.the_row).coded.code r.header)) (sep 𝓤 (A.lft κs.0 qs.0) (sep 𝓤 toks' (sep 𝓤 (sem 𝓛 (lasts ws)) (said r ws))))) (H.⇛ (ex 𝓤 (AnswerOf (answer_val r.answer))))
  ends r ws is =
      qed 𝓛 (‵ (fobs x.ghost_name ((T.the_row).coded.code r.header)) ∷ ‵ (flft κs.0 qs.0) ∷ raw toks' ∷ ‵ (lasts ws) ∷ raw (said r ws) ∷ []) ∵
      use1 𝓛 (‵ (fres x.ghost_name ((T.the_row).coded.code r.header))) (𝓛.names.obs-res x.ghost_name ((T.the_row).coded.code r.header)) $ move ! (0 ∷ 3 ∷ []) $ fjoin ! $ nothing ! $ fjoin ! $
      move ! (3 ∷ []) $ use1 𝓛 (raw (tells κs a r.answer (tt, (r.header, ws)))) (claim κs a r ws) $ move ! (1 ∷ 0 ∷ []) $ join ! $ move ! (1 ∷ 2 ∷ []) $ join ! $
      owned ! X.the_row (Is X.the_row) (EL.makes X.the_type X'.the_plain 𝓛) r.answer _ is $ move ! (1 ∷ 0 ∷ []) $ join ! $
      updating ! $ at_once ! $ show ! (AnswerOf (answer_val r.answer)) r.answer $ frame ! $ show ! (Leaves ts js 𝓤 𝓛 tells κs a r.answer) (tt, (r.header, ws)) $ done !

  module _ (vss : Valss (types_at ts κs.1)) (C : Calls 𝓤 H) (Λ : Loops 𝓤 H) (fm : FmC 𝓤 H 𝓛.laws C) (core : Callee) (known : Triple 𝓤 (C core) (Core ts js 𝓤 𝓛 says)) (s-is : Is S.the_row s (shape_vals s))
      {τs more : List Ty} {mid : Body → Body} {xs : List Operand} (hands : Hands 𝓛 τs more (flat (types_at ts κs.1) vss) mid xs) where
    abbrev b : ℕ
    b = x.ref_ptr.0

    abbrev o : ℕ
    o = x.ref_ptr.1

    abbrev h : Header
    h = x.now

    abbrev vs : List Val
    vs = flat (types_at ts κs.1) vss

    abbrev Asked : Contract 𝓤
    Asked = Core ts js 𝓤 𝓛 says

    abbrev given : Asked.Ghost
    given = ((κs.1, qs.1, tt, (s, (h, a.1.1)), (shape_vals s, (header_vals h, vss))), tt)

    pub walk : ent 𝓤 (sep 𝓤 (toks 𝓛 2 κs qs) (sem 𝓛 (owns (Rows ts κs) a (shape_vals s, (mut_vals x, vss)))))
        (WpFn 𝓤 H C Λ (thin core τs more mid xs) (only (shape_vals s) ∷ vptr b o ∷ vs) (λ v. H.⇛ (ex 𝓤 (AnswerOf v))))
    walk =
        qed 𝓛 ((‵ (flft κs.0 qs.0) ⊛ raw toks') ∷ ‵ (owns (Rows ts κs) a (shape_vals s, (mut_vals x, vss))) ∷ []) ∵
        split ! $ move ! (2 ∷ []) $ fsplit ! $ move ! (1 ∷ []) $ fsplit ! $ fsplit3 ! $ drop ! $
        -- the locals are allocated and the arguments stored
        enter ! C Λ (thin core τs more mid xs) (only (shape_vals s) ∷ vptr b o ∷ vs) _ $
        alloc1 ! (λ l₀. alloc1 ! (λ l₁. alloc1 ! (λ l₂. allocs_all ! τs (λ bs. alloc1 ! (λ lᵣ. alloc1 ! (λ lₕ. allocs_all ! more (λ ms. alloc0 ! $ params1 ! $
        -- [more; room for the copy; …; room for the reply; …; the rest at 5; room for _2; …; room for _1 at 8; …; room for _0; …; obs at 12; the borrow; what the rest owns; what s owns; token; tokens]
        pass1 ! (init ! 8 refl ((LL.lawful S.the_type S'.the_laws 𝓛).typed s _ s-is).0) $ pass1 ! (init ! 6 refl (tt, tt)) $ move ! (5 ∷ []) $ passes_all ! τs bs vs _ hands.typed $
        let E₂ : List (Ty × ℕ) = (D'.mir, lᵣ) ∷ (T'.mir, lₕ) ∷ env more ms [] in
        let E : List (Ty × ℕ) = (X'.mir, l₀) ∷ (S'.mir, l₁) ∷ (lent_header, l₂) ∷ env τs bs E₂ in
        let at-reply : from_on (#reply τs) E ≡ E₂ = past τs bs E₂ in
        let at_copy : from_on (#copy τs) E ≡ (T'.mir, lₕ) ∷ env more ms [] = next E (#reply τs) at-reply in
        let at_more : from_on (#more τs) E ≡ env more ms [] = next E (#copy τs) at_copy in
        -- the borrow is opened and the record copied out
        move ! (12 ∷ 13 ∷ 16 ∷ []) $ opens ! tt T.the_row {h = h} b o (λ us. spelt ! T.the_row (Is T.the_row) (shows 𝓛 T.the_row) header_vals (LL.tells T.the_type T'.the_laws) full_share h us b o $
        move ! (1 ∷ []) $ peeks ! T.the_row (Is T.the_row) (shows 𝓛 T.the_row) h (header_vals h) (λ was. move ! (1 ∷ 0 ∷ []) $
        -- [the record; what it owns; the open borrow; obs; auth; the rest at 5; more; room for the copy at 7; …; room for the reply; …; _2 at 11; …; _1; …; room for _0; …; what the rest owns; what s owns; tokens]
        assigns ! (of_opd ! (load ! (from ! (hop ! (look ! 11 refl) (stop !))) (look_raw ! 0 refl))) (found ! at_copy (stop !)) (init ! 7 refl ((LL.lawful T.the_type T'.the_laws 𝓛).typed h _ was).0) $
        -- the rest is handed on, and the core called
        move ! (5 ∷ 6 ∷ []) $ hands.lends C Λ E E₂ bs ms refl at_more _ _ _ $
        -- [the rest; more; the record; what it owns at 3; the open borrow; obs; auth; the copy; …; room for the reply; …; _2; …; _1; …; room for _0; …; what the rest owns at 17; what s owns; tokens]
        move ! (3 ∷ 17 ∷ []) $ fjoin ! $ move ! (17 ∷ []) $ fjoin ! $ move ! (17 ∷ []) $ join ! $ nothing ! $ move ! (1 ∷ 0 ∷ []) $ join ! $ use1 𝓛 (raw (Asked.pre given)) (id⊢ 𝓤 _) $
        -- [what the core asks; the rest; more; the record; the open borrow; obs; auth; the copy at 7; …; room for the reply; …; _2; …; _1 at 13; …; room for _0; …]
        calls_at ! fm Asked known given (and_then ! (load ! (from ! (stop !)) (look ! 13 refl)) (and_then ! (load ! (found ! at_copy (stop !)) (look ! 7 refl)) (reads_at ! (1 ∷ 1 ∷ []) (hands.reads E E₂ bs ms refl at_more _)))) (λ v.
        use1 𝓛 (later (some (λ (r : Reply). (raw toks' ⊛ ‵ ((D.the_row).own_val r (v ∷ []))) ⊛ some (λ (ws : Unit {0} × (Unit {0} × Fins κs.1 ts js a.1.1)). ‵ (fsep ftrue (fsep ftrue (lasts ws.1.1))) ⊛ raw (said r ws.1.1))))) (id⊢ 𝓤 _) $
        await ! tt $ pick ! (λ r. split ! $ split ! $ move ! (2 ∷ []) $ pick ! (λ ws. split ! $ fsplit ! $ drop ! $ fsplit ! $ drop ! $ move ! (3 ∷ 2 ∷ []) $ peeks ! D.the_row (Is D.the_row) (shows 𝓛 D.the_row) r (v ∷ []) (λ is.
        -- [what the reply owns; tokens; the last values; what the core says; the rest; more; the record at 6; the open borrow; obs; auth; the copy; …; room for the reply at 12; …; _2 at 14; …; _1; …; room for _0 at 18; …]
        -- the reply is stored, its header over the record and its answer in the result, and the borrow closed
        land ! (found ! at-reply (stop !)) (init ! 12 refl ((LL.lawful D.the_type D'.the_laws 𝓛).typed r _ is).0) $
        rewrite ! 12 (λ (u : Val). ‵ (fat full_share D'.mir lᵣ 0 u)) (ap only (LL.tells D.the_type D'.the_laws r (v ∷ []) is)) refl $
        let parts = LL.owed D.the_type D'.the_laws r (v ∷ []) is in
        assigns ! (of_opd ! (load ! (found ! at-reply (fld ! {d = header_at} refl (stop !))) (look_in ! 12 (sub ! 1 {d = header_at} refl (whole !))))) (from ! (hop ! (look ! 14 refl) (stop !))) (store_raw ! 6 refl ((LL.lawful T.the_type T'.the_laws 𝓛).typed r.header _ parts.1.0).0) $
        assigns ! (of_opd ! (load ! (found ! at-reply (fld ! refl (stop !))) (look_in ! 12 (sub ! 0 refl (whole !))))) (from ! (stop !)) (init ! 18 refl ((EL.lawful X.the_type X'.the_laws 𝓛 tt).typed r.answer _ parts.0).0) $
        owned ! T.the_row (Is T.the_row) (LL.makes T.the_type T'.the_plain 𝓛) r.header _ parts.1.0 $ move ! (7 ∷ 0 ∷ 8 ∷ 9 ∷ 10 ∷ []) $ closes ! tt T.the_row r.header (header_vals r.header) b o $
        -- [obs; the borrow; token; what the reply owns; tokens; the last values; what the core says; the rest at 7; more; the copy at 9; …; the reply at 11; …; _2 at 13; …; _1 at 15; …; _0 at 17; …]
        -- the locals are freed
        returns ! (look ! 17 refl) $ forget ! 9 refl $ forget ! 11 refl $ forget ! 13 refl $ forget ! 15 refl $ forget ! 17 refl $
        move ! (17 ∷ 18 ∷ []) $ free1 ! $ move ! (15 ∷ 16 ∷ []) $ free1 ! $ move ! (13 ∷ 14 ∷ []) $ free1 ! $ move ! (7 ∷ []) $ forgets_all ! τs bs vs $ frees_all ! τs bs $
        move ! (10 ∷ 11 ∷ []) $ free1 ! $ move ! (8 ∷ 9 ∷ []) $ free1 ! $ move ! (7 ∷ []) $ forgets_all ! more ms hands.us $ frees_all ! more ms $ free0 ! $
        keep ! (0 ∷ 2 ∷ 4 ∷ 5 ∷ 6 ∷ []) $ by ! (ends r ws.1.1 parts.0))))))))))))))
