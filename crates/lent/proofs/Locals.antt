-- A function's locals, many at once: rules of `types.Kit`'s calculus for a list of locals of any length, so that one walk serves functions that differ in it. Each is an induction on the list.
--     Blocks, locals, env      a block for each type of a list;  the locals of those types, and then others;  their part of the environment, and then the rest
--     rooms, held              all that is had of them, as one entry of the context: each is room, or holds a value, and may be freed
--     allocs_all, passes_all, forgets_all, frees_all       the entry is made;  the arguments are stored;  what is held is forgotten;  the locals are freed
--     found, next, past        a place is found where the environment from its local on is known;  from the local after it on;  from the local after a list on
--     copies, reads_all        the operands that copy the locals, from local k on, read what is held.        reads_as, reads_at     so they do where the entry stands elsewhere in the context
-- Assumes nothing.
use mathlib.Core.Path.{◌≡◌, refl, sym, ap, ◌∙◌, subst}
use Prim.Native.Nat.{ℕ, zero, suc}
use mathlib.Core.List.{List, [], ◌∷◌}
use lib.ListN.{length, get_or, drop as from_on}
use seplogic.Ra.Ura.{Ura}
use base.Fraction.{full_share}
use mir.Syntax.{Ty, Step as PStep, place, Opd as Operand, copy, Local, local, value_local}
use mir.Val.{Val}
use base.Logic.{ent, sep, id⊢, via, mono_r}
use base.Fml.{ftrue, fat, froom, fdies}
use prog.Wp.{Env, Spot, no_local}
use types.Logic.{Logic}
use types.Kit.{Item, ‵, ◌⊛◌, mean, ⋆, nth, del, pop, unpull, sel, sel⊢, Goal, prop, allocs, passes, frees, Seq, Step, step, ◌$◌, move, drop, split, join, done}
use types.Run.{Walks, Finds, Opds, init, forget, look, from, stop, load, no_more, and_then, alloc1, pass1, pass0, free1}
use denote.Laws.{Typed}
use denote.Steps.{nothing}

abbrev pub Blocks : List Ty → Type 0
Blocks [] = Unit {0}
Blocks (τ ∷ τs) = ℕ × Blocks τs

abbrev pub locals : List Ty → List Local → List Local
locals [] ls = ls
locals (τ ∷ τs) ls = local τ value_local ∷ locals τs ls

abbrev pub env : (τs : List Ty) → Blocks τs → List (Ty × ℕ) → List (Ty × ℕ)
env [] bs E = E
env (τ ∷ τs) bs E = (τ, bs.0) ∷ env τs bs.1 E

abbrev pub copies : ℕ → List Ty → List Operand
copies k [] = []
copies k (τ ∷ τs) = copy (place k []) ∷ copies (suc k) τs

-- ---- the environment from local k on
get_from : {X : Type 0} (l : List X) (k : ℕ) (d : X) → get_or l k d ≡ get_or (from_on k l) zero d
get_from l zero d = refl
get_from [] (suc k) d = refl
get_from (x ∷ l) (suc k) d = get_from l k d

from_next : {X : Type 0} (l : List X) (k : ℕ) → from_on (suc k) l ≡ from_on 1 (from_on k l)
from_next l zero = refl
from_next [] (suc k) = refl
from_next (x ∷ l) (suc k) = from_next l k

pub next : (E : List (Ty × ℕ)) (k : ℕ) {e : Ty × ℕ} {E' : List (Ty × ℕ)} → from_on k E ≡ e ∷ E' → from_on (suc k) E ≡ E'
next E k at = from_next E k ∙ ap (from_on 1) at

pub past : (τs : List Ty) (bs : Blocks τs) (E : List (Ty × ℕ)) → from_on (length τs) (env τs bs E) ≡ E
past [] bs E = refl
past (τ ∷ τs) bs E = past τs bs.1 E

module _ {M : Type 1} (𝓤 : Ura M) where
  abbrev pub rooms : (τs : List Ty) → Blocks τs → Item 𝓤
  rooms [] bs = ‵ ftrue
  rooms (τ ∷ τs) bs = (‵ (froom τ bs.0 zero) ⊛ ‵ (fdies τ bs.0)) ⊛ rooms τs bs.1

  abbrev pub held : (τs : List Ty) → Blocks τs → List Val → Item 𝓤
  held [] bs vs = ‵ ftrue
  held (τ ∷ τs) bs [] = rooms (τ ∷ τs) bs
  held (τ ∷ τs) bs (v ∷ vs) = (‵ (fat full_share τ bs.0 zero v) ⊛ ‵ (fdies τ bs.0)) ⊛ held τs bs.1 vs

-- entries that were brought to the head, put back
module _ {M : Type 1} {𝓤 : Ura M} (𝓛 : Logic 𝓤) where
  put_back : (π : List ℕ) (Γ : List (Item 𝓤)) → ent 𝓤 (⋆ 𝓛 (sel 𝓛 π Γ)) (⋆ 𝓛 Γ)
  put_back [] Γ = id⊢ 𝓤 (⋆ 𝓛 Γ)
  put_back (n ∷ π) Γ =
      via 𝓤 (sep 𝓤 (mean 𝓛 (nth 𝓛 n Γ)) (⋆ 𝓛 (sel 𝓛 π (del 𝓛 n Γ)))) (pop 𝓛 (nth 𝓛 n Γ) (sel 𝓛 π (del 𝓛 n Γ)))
      (via 𝓤 (sep 𝓤 (mean 𝓛 (nth 𝓛 n Γ)) (⋆ 𝓛 (del 𝓛 n Γ))) (mono_r 𝓤 (mean 𝓛 (nth 𝓛 n Γ)) (put_back π (del 𝓛 n Γ))) (unpull 𝓛 n Γ))

module _ {M : Type 1} {𝓤 : Ura M} {𝓛 : Logic 𝓤} {K : Type 0} where
  open 𝓛 use {H}

  pub allocs_all : K → (τs : List Ty) {Γ : List (Item 𝓤)} {ls : List Local} {Kt : Env 𝓤 H → Goal 𝓤 H}
      → ((bs : Blocks τs) → Seq K 𝓛 (rooms 𝓤 τs bs ∷ Γ) (allocs ls (λ E. Kt (env τs bs E)))) → Seq K 𝓛 Γ (allocs (locals τs ls) Kt)
  allocs_all t [] k = nothing t $ k tt
  allocs_all t (τ ∷ τs) k = alloc1 t (λ b. join t $ allocs_all t τs (λ bs. move t (1 ∷ 0 ∷ []) $ join t $ k (b, bs)))

  pub passes_all : K → (τs : List Ty) (bs : Blocks τs) (vs : List Val) (E : Env 𝓤 H) {Γ : List (Item 𝓤)} {g : Goal 𝓤 H}
      → Typed τs vs → Step K 𝓛 (held 𝓤 τs bs vs ∷ Γ) g (rooms 𝓤 τs bs ∷ Γ) (passes (env τs bs E) vs g)
  passes_all t [] bs [] E ty = pass0 t
  passes_all t [] bs (v ∷ vs) E ty = absurd ty
  passes_all t (τ ∷ τs) bs [] E ty = absurd ty
  passes_all t (τ ∷ τs) bs (v ∷ vs) E ty = step (λ s. split t $ split t $ pass1 t (init t 0 refl ty.0) $ join t $ move t (1 ∷ 0 ∷ []) $ passes_all t τs bs.1 vs E ty.1 $ move t (1 ∷ 0 ∷ []) $ join t $ s)

  pub forgets_all : K → (τs : List Ty) (bs : Blocks τs) (vs : List Val) {Γ : List (Item 𝓤)} {G : Goal 𝓤 H} → Step K 𝓛 (rooms 𝓤 τs bs ∷ Γ) G (held 𝓤 τs bs vs ∷ Γ) G
  forgets_all t [] bs vs = step (λ s. s)
  forgets_all t (τ ∷ τs) bs [] = step (λ s. s)
  forgets_all t (τ ∷ τs) bs (v ∷ vs) = step (λ s. split t $ split t $ forget t 0 refl $ join t $ move t (1 ∷ 0 ∷ []) $ forgets_all t τs bs.1 vs $ move t (1 ∷ 0 ∷ []) $ join t $ s)

  pub frees_all : K → (τs : List Ty) (bs : Blocks τs) {Γ : List (Item 𝓤)} {E : Env 𝓤 H} {g : Goal 𝓤 H} → Step K 𝓛 Γ (frees E g) (rooms 𝓤 τs bs ∷ Γ) (frees (env τs bs E) g)
  frees_all t [] bs = drop t
  frees_all t (τ ∷ τs) bs = step (λ s. split t $ split t $ free1 t $ frees_all t τs bs.1 $ s)

  -- a place in local i
  pub found : K → {Γ : List (Item 𝓤)} {E : Env 𝓤 H} {i : ℕ} {st : List PStep} {e : Ty × ℕ} {E' : List (Ty × ℕ)} {sp : Spot 𝓤 H}
      → from_on i E ≡ e ∷ E' → Walks K 𝓛 Γ E (e.0, e.1, zero) st sp → Finds K 𝓛 Γ E (place i st) sp
  found t {Γ} {E} {i} {st} {e} {E'} {sp} at w =
      from t (subst (λ (d : Ty × ℕ). Walks K 𝓛 Γ E (d.0, d.1, zero) st sp) (sym (get_from E i (no_local 𝓤 H) ∙ ap (λ (l : List (Ty × ℕ)). get_or l zero (no_local 𝓤 H)) at)) w)

  -- operands are read in a context as in another that it gives and that gives it back: so with some entries brought to the head
  pub reads_as : K → {Γ : List (Item 𝓤)} (Γ' : List (Item 𝓤)) {E : Env 𝓤 H} {xs : List Operand} {vs : List Val} → Seq K 𝓛 Γ (prop (⋆ 𝓛 Γ')) → Seq K 𝓛 Γ' (prop (⋆ 𝓛 Γ)) → Opds K 𝓛 Γ' E xs vs → Opds K 𝓛 Γ E xs vs
  reads_as t {Γ} Γ' there back os = record { go = λ Kt h. via 𝓤 (⋆ 𝓛 Γ') there.prf (os.go Kt (via 𝓤 (⋆ 𝓛 Γ) back.prf h)) }

  pub reads_at : K → (π : List ℕ) {Γ : List (Item 𝓤)} {E : Env 𝓤 H} {xs : List Operand} {vs : List Val} → Opds K 𝓛 (sel 𝓛 π Γ) E xs vs → Opds K 𝓛 Γ E xs vs
  reads_at t π {Γ} = reads_as t (sel 𝓛 π Γ) (record { prf = sel⊢ 𝓛 π Γ }) (record { prf = put_back 𝓛 π Γ })

  pub reads_all : K → (τs : List Ty) (bs : Blocks τs) (vs : List Val) (k : ℕ) {Γ : List (Item 𝓤)} {E : Env 𝓤 H} (E' : List (Ty × ℕ)) → Typed τs vs → from_on k E ≡ env τs bs E'
      → Opds K 𝓛 (held 𝓤 τs bs vs ∷ Γ) E (copies k τs) vs
  reads_all t [] bs [] k E' ty at = no_more t
  reads_all t [] bs (v ∷ vs) k E' ty at = absurd ty
  reads_all t (τ ∷ τs) bs [] k E' ty at = absurd ty
  reads_all t (τ ∷ τs) bs (v ∷ vs) k {Γ} {E} E' ty at =
      let one : Item 𝓤 = ‵ (fat full_share τ bs.0 zero v) in
      let dies : Item 𝓤 = ‵ (fdies τ bs.0) in
      reads_as t (one ∷ dies ∷ held 𝓤 τs bs.1 vs ∷ Γ) (split t $ split t $ done t) (join t $ join t $ done t) (and_then t (load t (found t at (stop t)) (look t 0 {q = full_share} refl))
      (reads_at t (2 ∷ []) (reads_all t τs bs.1 vs (suc k) {Γ = one ∷ dies ∷ Γ} E' ty.1 (next E k at))))
