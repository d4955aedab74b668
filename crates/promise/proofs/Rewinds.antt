-- A discard, a rewind and the setters keep the invariant, and every byte. A discard lets go of segments only. A rewind that is done leaves no segment above
-- the new top, which lies between data offset and capacity, and ends every block that passes it. The setters change counters alone. Assumes nothing.
use Prim.Native.Nat.{ℕ, ◌≤◌}
use mathlib.Core.Path.{◌≡◌, refl}
use mathlib.Core.Bool.{true, not}
use native.Mathlib.Omega.{arith}
use borrow.Author.Tests.{leb-true}
use lib.Dec.{leb}
use Rattle.records.specs.Answer.{Outcome, leaves, sum, done}
use Rattle.records.specs.Change.{with_top, with_minimum, losing}
use Rattle.records.proofs.Facts.{both, pick_either}
use Rattle.records.specs.declared.Shape.{Shape}
use Rattle.records.specs.declared.Header.{Header}
use Rattle.records.specs.declared.Block.{Block}
use Rattle.records.specs.declared.Position.{Position}
use Rattle.positions.proofs.Tops.{new_top_between}
use Rattle.freelist.specs.Place.{any_above}
use Rattle.freelist.specs.Sound.{sound}
use Rattle.freelist.proofs.Listing.{all_map}
use Rattle.freelist.proofs.Meets.{above_none}
use Rattle.arena.specs.Rewind.{discarding, rewound, rewinding, setting, setting_minimum, adding_discarded}
use Rattle.calls.specs.declared.Call.{Call}
use Rattle.calls.specs.declared.Call.TheVariants.{Discard, Rewind, SetMinimum, AddDiscarded}
use Rattle.promise.specs.Runs.{State, free_in, only, ends_by}
use Rattle.promise.proofs.Members.{only-passes}
use Rattle.promise.proofs.Blocks.{hull_end}
use Rattle.promise.proofs.Holding.{Kept, keeps, hold_head, hold_only, hold_top, hold_counters, hold_emptied}
use Rattle.promise.proofs.Cases.{Left, left_quiet, left_refused}

-- a block that ends by the new top has its hull below it
ends_hull : (top : ℕ) (b : Block) → ends_by top b ≡ true → hull_end b ≤ top
ends_hull top b e = let r = both (leb _ top) (leb _ top) e in omega (arith, leb-true)

module _ {s : Shape} {st : State} (k : Kept s st) where
  pub discard_left : Left s st Discard (discarding s st.header st.bytes)
  unfolding discarding
  discard_left =
      let P : Outcome → Type 0 = Left s st Discard in
      pick_either P s.read_only _ _ (λ _. left_refused k Discard _ _)
      (λ _. pick_either P (not (sound s st.header st.bytes)) _ _ (λ _. left_refused k Discard _ _)
      (λ _. left_quiet k Discard (sum _) _ (keeps k.writable (hold_emptied k.holding _ refl refl))))

  pub rewind_left : (p : Position) → Left s st (Rewind p) (rewinding s st.header st.bytes p)
  unfolding rewinding
  rewind_left p =
      let P : Outcome → Type 0 = Left s st (Rewind p) in
      let t = rewound s st.header p in
      let n = hold_head k.holding in
      let range = new_top_between s.data_offset s.cap st.header.allocated n.above n.below p in
      pick_either P s.read_only _ _ (λ _. left_refused k (Rewind p) _ _)
      (λ _. pick_either P (not (sound s st.header st.bytes)) _ _ (λ _. left_refused k (Rewind p) _ _)
      (λ _. pick_either P (any_above t (free_in s st)) _ _ (λ _. left_refused k (Rewind p) _ _)
      (λ none.
      left_quiet k (Rewind p) done (with_top st.header t)
      (keeps k.writable
      (hold_top (hold_only k.holding (ends_by t)) (with_top st.header t) refl range.0 range.1 (above_none t (free_in s st) none)
      (all_map (λ b. ends_by t b ≡ true) (λ b. hull_end b ≤ t) (ends_hull t) (only (ends_by t) st.held) (only-passes (ends_by t) st.held)))))))

  -- a setter refuses, or leaves the bytes and its header
  set_left : (c : Call) (h : Header) → Left s st c (leaves done h st.bytes) → Left s st c (setting s st.header st.bytes h)
  unfolding setting
  set_left c h change = grind (arith, left_refused k c)

  pub minimum_left : (n : ℕ) → Left s st (SetMinimum n) (setting_minimum s st.header st.bytes n)
  minimum_left n =
      set_left (SetMinimum n) (with_minimum st.header n) (left_quiet k (SetMinimum n) done _ (keeps k.writable (hold_counters k.holding _ refl refl)))

  pub discarded_left : (n : ℕ) → Left s st (AddDiscarded n) (adding_discarded s st.header st.bytes n)
  discarded_left n =
      set_left (AddDiscarded n) (losing st.header n) (left_quiet k (AddDiscarded n) done _ (keeps k.writable (hold_counters k.holding _ refl refl)))
