-- The contracts of the code are the steps of the runs: what setup's contract allows is a start, and what a call's contract allows is the next state.
-- So the theorems on reached states speak of what the code does, and not only of the definitions. `calls::perform` makes each call; its contract
-- is the premise here. Assumes nothing.
use Prim.Native.Nat.{ℕ}
use mathlib.Core.Path.{◌≡◌, sym, ap}
use mathlib.Core.Bool.{false}
use mathlib.Core.List.{List, []}
use lib.ListN.{length}
use Rattle.std.specs.Prelude.{Ok}
use Rattle.records.specs.Answer.{Outcome, said, outcome, began}
use Rattle.records.specs.Setup.{setting_up}
use Rattle.records.specs.declared.Settings.{Settings}
use Rattle.records.specs.declared.Shape.{Shape}
use Rattle.records.specs.declared.Arena.{Arena}
use Rattle.records.specs.declared.Reply.{Reply}
use Rattle.calls.specs.declared.Call.{Call}
use Rattle.calls.specs.Calls.{performed}
use Rattle.promise.specs.Runs.{State, held_after, after, Allowed, Reached, fresh, call, Promise}
use Rattle.promise.proofs.DemandThree.{demand_three}

-- the state that a reply and these bytes make of the one before
abbrev pub next : State → Call → Reply → List ℕ → State
next st c r l =
    record { header = r.header; bytes = l; held = held_after st.held c (said r.answer) r.header.allocated }

module _ (s : Shape) (st : State) (c : Call) (r : Reply) (l : List ℕ) (contract : outcome r l ≡ performed s st.header st.bytes c) where
  pub contract_step : next st c r l ≡ after s st c
  contract_step =
      ap (λ (o : Outcome). record { header = o.header; bytes = o.bytes; held = held_after st.held c o.says o.header.allocated }) contract

  pub step_reached : Reached s st → Allowed st c → Reached s (next st c r l)
  step_reached reached allowed = rw contract_step (call c allowed reached)

  -- demand 3 of what the code leaves
  pub step_promise : Reached s st → Allowed st c → Promise s (next st c r l)
  step_promise reached allowed = demand_three s (next st c r l) (step_reached reached allowed)

-- a fresh writable arena, as the code sets it up
pub setup_reached : (settings : Settings) (l : List ℕ) (a : Arena) → began (Ok a) ≡ setting_up settings (length l) → a.shape.read_only ≡ false → Reached a.shape (record { header = a.header; bytes = l; held = [] })
setup_reached settings l a contract writable = fresh settings a.header l (sym contract) writable
