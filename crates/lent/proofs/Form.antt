-- What a thin function is: its code, and its contract, made of its core's.
-- It takes a shape, a lent header and the rest of the core's parameters. It copies the header out, calls the core on the copy and on the rest, stores the reply's header back and answers the reply's answer.
--     thin             the code: the core's name, the MIR types of the rest, and how the rest is handed on, by the locals `more`, the statements `mid` and the operands xs
--     Says, Core       what the core ensures of its reply, and its contract.        ts are its parameters after the header, and js says which last values it speaks of
--     Tells, Thin      what the function ensures of its answer, and its contract: at exit the header has a last value, and the rest has what the core says of it
--     Claim            what the core says of a reply is what the function tells of the answer and of the header that it leaves
-- These are definitions. Assumes nothing.
use Prim.Native.Nat.{ℕ, suc}
use mathlib.Core.List.{List, [], ◌∷◌}
use lib.ListN.{length}
use seplogic.Ra.Ura.{Ura}
use mir.Syntax.{Callee, Ty, ty_ref, named, mut, deref, field, place, Opd as Operand, copy, rv_opd, Body, seq, assign, return, call, local, value_local, Fn}
use mir.Val.{Val}
use base.Logic.{SProp, ent, sep, ex, emp}
use base.Fml.{ftrue, fsep, fres}
use types.Logic.{Logic, sem}
use contract.Lifetimes.{Lfts, Shares, toks}
use denote.RattleType.{RattleType, Denots, Valss, flat, owns}
use denote.Memory.{pointee}
use denote.Ref.{MutRef}
use denote.Signature.{Slot, plain, types_at}
use denote.Exit.{yes}
use denote.Triple.Statement.{Contract}
use denote.Triple.Spec.{triple_of}
use denote.Triple.End.{Kepts, Fins, lasts_of}
use denote.Triple.Entry.{Args}
use denote.Triple.Clauses.{Ended, AtExit, at_exit, closing}
use Rattle.records.specs.contracts.Shape as S
use Rattle.records.proofs.Shape.TheLaws as S'
use Rattle.records.specs.declared.Header.{Header}
use Rattle.records.specs.contracts.Header as T
use Rattle.records.proofs.Header.TheLaws as T'
use Rattle.records.specs.declared.Answer.{Answer}
use Rattle.records.specs.contracts.Answer as X
use Rattle.records.proofs.Answer.TheLaws as X'
use Rattle.records.specs.declared.Reply.{Reply}
use Rattle.records.specs.contracts.Reply as D
use Rattle.records.proofs.Reply.TheLaws as D'
use Rattle.lent.proofs.Locals.{locals}

-- ---- the code. Local 0 is the answer, 1 the shape, 2 the lent header; then come the rest, the reply, the header's copy and `more`
abbrev pub #reply : List Ty → ℕ
#reply τs = suc (suc (suc (length τs)))

abbrev pub #copy : List Ty → ℕ
#copy τs = suc (#reply τs)

abbrev pub #more : List Ty → ℕ
#more τs = suc (#copy τs)

abbrev pub lent_header : Ty
lent_header = ty_ref (named 0) mut (pointee (T.the_row).written)

abbrev pub thin : Callee → (τs more : List Ty) → (Body → Body) → List Operand → Fn
thin core τs more mid xs = record {
  lifetimes = 2;
  outlives = [];
  ty_params = [];
  givens = 0;
  params = suc (suc (length τs));
  locals = local X'.mir value_local ∷ local S'.mir value_local ∷ local lent_header value_local ∷ locals τs (local D'.mir value_local ∷ local T'.mir value_local ∷ locals more []);
  body = seq (assign (place (#copy τs) []) (rv_opd (copy (place 2 (deref T'.mir ∷ [])))))
      (mid (seq (call core (copy (place 1 []) ∷ copy (place (#copy τs) []) ∷ xs) (place (#reply τs) []))
      (seq (assign (place 2 (deref T'.mir ∷ [])) (rv_opd (copy (place (#reply τs) (field 1 ∷ [])))))
      (seq (assign (place 0 []) (rv_opd (copy (place (#reply τs) (field 0 ∷ []))))) return))));
}

-- ---- the contracts
module _ (ts : List (Slot 1)) where
  abbrev pub Rows : Lfts 2 → List RattleType
  Rows κs = S.the_row ∷ MutRef (named 0) κs.0 T.the_row ∷ types_at ts κs.1

  module _ (js : Kepts ts) where
    abbrev by_value : Ended
    by_value = record {
      signature = record { lifetimes = 1; outlives = []; params = plain (λ _. S.the_row) ∷ plain (λ _. T.the_row) ∷ ts; result = plain (λ _. D.the_row) };
      kept = (yes, (yes, js));
    }

    module _ {M : Type 1} (𝓤 : Ura M) where
      abbrev pub Says : Type 2
      Says = (κs : Lfts 1) → Args by_value.signature κs → Reply → AtExit by_value κs → SProp 𝓤

      -- what the core says, at the record that lies behind the lent header
      abbrev pub Said : Says → (κs : Lfts 2) (a : Denots (Rows κs)) → Reply → Fins κs.1 ts js a.1.1 → SProp 𝓤
      Said says κs a r ws = says κs.1 (a.0, (a.1.0.now, a.1.1)) r (at_exit by_value κs.1 (a.0, (a.1.0.now, a.1.1)) (tt, (tt, ws)))

      abbrev pub Tells : Type 2
      Tells = (κs : Lfts 2) (a : Denots (Rows κs)) → Answer → Unit {0} × (Header × Fins κs.1 ts js a.1.1) → SProp 𝓤

      abbrev pub Claim : Says → Tells → Type 1
      Claim says tells = (κs : Lfts 2) (a : Denots (Rows κs)) (r : Reply) (ws : Fins κs.1 ts js a.1.1) → ent 𝓤 (Said says κs a r ws) (tells κs a r.answer (tt, (r.header, ws)))

      module _ (𝓛 : Logic 𝓤) where
        open 𝓛 use {H}

        abbrev pub Core : Says → Contract 𝓤
        Core says = triple_of 𝓛 by_value.signature (closing 𝓛 by_value (λ κs x. record { ghost = Unit {0}; requires = λ _. emp 𝓤; ensures = λ _. says κs x }))

        module _ (tells : Tells) where
          module _ (κs : Lfts 2) (a : Denots (Rows κs)) where
            abbrev pub Leaves : Answer → Unit {0} × (Header × Fins κs.1 ts js a.1.1) → SProp 𝓤
            Leaves r ws = sep 𝓤 (sem 𝓛 (fsep ftrue (fsep (fres a.1.0.ghost_name ((T.the_row).coded.code ws.1.0)) (lasts_of κs.1 ts js a.1.1 ws.1.1)))) (tells κs a r ws)

            abbrev pub Answers : Shares 2 → Val → Answer → SProp 𝓤
            Answers qs v r = sep 𝓤 (sep 𝓤 (toks 𝓛 2 κs qs) (sem 𝓛 ((X.the_row).own_val r (v ∷ [])))) (ex 𝓤 (Leaves r))

          abbrev pub Thin : Contract 𝓤
          Thin = record {
            Ghost = ((κs : Lfts 2) × Shares 2 × Unit {0} × Denots (Rows κs) × Valss (Rows κs)) × Unit {0};
            args = λ y. flat (Rows y.0.0) y.0.4;
            pre = λ y. sep 𝓤 (sep 𝓤 (toks 𝓛 2 y.0.0 y.0.1) (sem 𝓛 (owns (Rows y.0.0) y.0.3 y.0.4))) (emp 𝓤);
            post = λ y v. H.⇛ (ex 𝓤 (Answers y.0.0 y.0.3 y.0.1 v));
          }
