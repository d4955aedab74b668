-- What a request wants at the top, needs of a segment and records: the orders between these numbers, for every well-formed request; the same numbers by its layout;
-- and what `top_end` says.
-- Assumes nothing.
use Prim.Native.Nat.{ℕ, ◌+◌, ◌-◌, ◌≤◌, ◌<◌}
use mathlib.Core.Path.{◌≡◌, refl, sym, ◌∙◌}
use mathlib.Core.Bool.{Bool, true, false, not, ◌&&◌}
use native.Mathlib.Omega.{arith}
use native.Mathlib.Nat.{add-sub_cancel_left}
use borrow.Author.Tests.{eqb-false, not-true, leb-true}
use lib.Dec.{eqb, leb}
use Rattle.std.specs.Prelude.{Option, Some, None}
use Rattle.words.specs.Round.{round_up}
use Rattle.words.proofs.Rounding.{round_ge, round_lt}
use Rattle.words.specs.Pick.{pick}
use Rattle.records.proofs.Facts.{both, fails}
use Rattle.records.specs.declared.Block.{Block}
use Rattle.records.specs.declared.Request.{Request}
use Rattle.records.specs.declared.Request.TheVariants.{Bytes, Typed, Aligned}
use Rattle.requests.specs.Request.{layout_of, well_formed, plain, for_nothing, want, top_end, need, top_block, zeroed_from, list_block, Planned, Needed}
use Rattle.requests.specs.declared.Layout.{Layout}
use Rattle.requests.proofs.Layouts.{formed_bytes, bytes_formed, typed_formed, aligned_formed}

-- the three numbers of a request at the top are in order, and its block is made of them
pub planned : (top : ℕ) (r : Request) → well_formed r ≡ true → Planned top r (want top r) (top_block top r).usable_offset (zeroed_from top r)
unfolding want top_block zeroed_from
planned top (Bytes n) h =
    let small = bytes_formed refl h in
    let rest = add-sub_cancel_left top n in
    search arith
planned top (Typed size align) h =
    let f = typed_formed refl h in
    let ge = round_ge align top f.some in
    let lt = round_lt align top f.some in
    let rest = add-sub_cancel_left (round_up align top) size in
    search (arith, rest)
planned top (Aligned size align extra) h =
    let f = aligned_formed refl h in
    let ge = round_ge align top f.0.some in
    let lt = round_lt align top f.0.some in
    let rest : round_up align top + size + extra - round_up align top ≡ size + extra = omega arith in
    search (arith, rest)

-- the numbers of a request by its layout
pub need_laid : (r : Request) → (layout_of r).size + (layout_of r).align - 1 + (layout_of r).extra ≡ need r
unfolding need layout_of
need_laid (Bytes n) = omega arith
need_laid (Typed size align) = omega arith
need_laid (Aligned size align extra) = omega arith

at_laid : (top : ℕ) (r : Request) → round_up (layout_of r).align top ≡ (top_block top r).usable_offset
unfolding top_block layout_of round_up
at_laid top (Bytes n) = omega arith
at_laid top (Typed size align) = refl
at_laid top (Aligned size align extra) = refl

want_laid : (top : ℕ) (r : Request) → round_up (layout_of r).align top + (layout_of r).size + (layout_of r).extra ≡ want top r
unfolding want layout_of round_up
want_laid top (Bytes n) = omega arith
want_laid top (Typed size align) = omega arith
want_laid top (Aligned size align extra) = refl

-- a need is small enough to be summed
pub needed : (r : Request) → well_formed r ≡ true → Needed r (need r)
unfolding need
needed (Bytes n) h = let small = bytes_formed refl h in record { is = refl; small = omega arith }
needed (Typed size align) h = let f = typed_formed refl h in record { is = refl; small = omega arith }
needed (Aligned size align extra) h = let f = aligned_formed refl h in record { is = refl; small = omega arith }

-- a block that covers the bytes from the top up to what is wanted, with a usable part that ends there
pub record InTop (top wanted : ℕ) (b : Block) : Type 0 where
  pub starts : b.memory_offset ≡ top
  pub ends : b.memory_offset + b.memory_size ≡ wanted
  pub low : top ≤ b.usable_offset
  pub high : b.usable_offset + b.usable_size ≡ wanted

module _ (top : ℕ) (r : Request) (formed : well_formed r ≡ true) where
  -- the memory of a block from the top is exactly what is wanted, and its usable part ends with it
  pub block_in_top : InTop top (want top r) (top_block top r)
  block_in_top =
      let p = planned top r formed in
      rw (← p.recorded) (record { starts = refl; ends = omega arith; low = omega arith; high = omega arith })

  -- zeroing starts at or above the top
  pub zeroed_from_top : top ≤ zeroed_from top r
  zeroed_from_top = omega (arith, planned top r formed)

  -- and not past what is wanted, where it ends
  pub zeroed_to_want : zeroed_from top r ≤ want top r
  zeroed_to_want = (planned top r formed).high

-- of a bytes block from the top the whole usable part is zeroed
pub zeroed_bytes : (top n : ℕ) → zeroed_from top (Bytes n) ≡ (top_block top (Bytes n)).usable_offset
unfolding zeroed_from top_block
zeroed_bytes top n = refl

-- of a typed one too
pub zeroed_typed : (top size align : ℕ) → zeroed_from top (Typed size align) ≡ (top_block top (Typed size align)).usable_offset
unfolding zeroed_from top_block
zeroed_typed top size align = refl

-- of aligned bytes nothing
pub zeroed_aligned : (top size align extra : ℕ) → zeroed_from top (Aligned size align extra) ≡ want top (Aligned size align extra)
unfolding zeroed_from want
zeroed_aligned top size align extra = refl

-- so a request at the top is planned by its layout y, by where zeroing starts
module _ (top : ℕ) (r : Request) (formed : well_formed r ≡ true) (y : Layout) (is : y ≡ layout_of r) (at : ℕ) (start : at ≡ round_up y.align top) where
  usable : at ≡ (top_block top r).usable_offset
  usable = rw is at start ∙ at_laid top r

  wanted : at + y.size + y.extra ≡ want top r
  wanted = rw (start, is) (want_laid top r)

  plan : (from : ℕ) → from ≡ zeroed_from top r → Planned top r (at + y.size + y.extra) at from
  plan from f = rw (wanted, usable, f) (planned top r formed)

  pub plan_bytes : {n : ℕ} → r ≡ Bytes n → Planned top r (at + y.size + y.extra) at at
  plan_bytes e = plan at (usable ∙ rw e (sym (zeroed_bytes _ _)))

  pub plan_typed : {size align : ℕ} → r ≡ Typed size align → Planned top r (at + y.size + y.extra) at at
  plan_typed e = plan at (usable ∙ rw e (sym (zeroed_typed _ _ _)))

  pub plan_aligned : {size align extra : ℕ} → r ≡ Aligned size align extra → Planned top r (at + y.size + y.extra) at (at + y.size + y.extra)
  plan_aligned e = plan (at + y.size + y.extra) (wanted ∙ rw e (sym (zeroed_aligned _ _ _ _)))

-- the usable part of a typed block of a segment ends within the memory
pub list_typed_end : (p m size align : ℕ) → well_formed (Typed size align) ≡ true → need (Typed size align) ≤ m
    → (list_block p m (Typed size align)).usable_offset + (list_block p m (Typed size align)).usable_size ≤ p + m
unfolding list_block need
list_typed_end p m size align h fits = omega (arith, round_lt align p (typed_formed refl h).some)

-- aligned bytes of a segment end with the memory
pub list_aligned_end : (p m size align extra : ℕ) → well_formed (Aligned size align extra) ≡ true → need (Aligned size align extra) ≤ m
    → (list_block p m (Aligned size align extra)).usable_offset + (list_block p m (Aligned size align extra)).usable_size ≡ p + m
unfolding list_block need
list_aligned_end p m size align extra h fits = omega (arith, round_lt align p (aligned_formed refl h).0.some)

-- a block whose memory is (p, m) and whose usable part starts at p or above and ends within the m bytes past the node word
pub record InList (p m : ℕ) (b : Block) : Type 0 where
  pub starts : b.memory_offset ≡ p
  pub sized : b.memory_size ≡ m
  pub low : p ≤ b.usable_offset
  pub high : b.usable_offset + b.usable_size ≤ p + 8 + m

-- a block of a segment at p with a memory size m that meets the need keeps to the segment's bytes
pub block_in_list : (p m : ℕ) (r : Request) → well_formed r ≡ true → need r ≤ m → InList p m (list_block p m r)
unfolding list_block need
block_in_list p m (Bytes n) h fits = search arith
block_in_list p m (Typed size align) h fits =
    search (arith, round_ge align p (typed_formed refl h).some, list_typed_end p m size align h fits)
block_in_list p m (Aligned size align extra) h fits =
    search (arith, round_ge align p (aligned_formed refl h).0.some, list_aligned_end p m size align extra h fits)

-- a well-formed request stays well-formed where its alignment is dropped
pub plain_formed : (r : Request) → well_formed r ≡ true → well_formed (plain r) ≡ true
unfolding plain
plain_formed (Bytes n) h = h
plain_formed (Typed size align) h = h
plain_formed (Aligned size align extra) h = elim (eqb size 0) as (λ (t : Bool). well_formed (pick t (Bytes extra) (Aligned size align extra)) ≡ true) [
  | true ↦ formed_bytes extra (aligned_formed refl h).1
  | false ↦ h
]

-- what holds of bytes, of typed requests and of aligned ones for some size holds of each plain request
plain-any : (P : Request → Type 0)
    → ((n : ℕ) → P (Bytes n))
    → ((size align : ℕ) → P (Typed size align))
    → ((size align extra : ℕ) → (size ≡ 0 → ⊥) → P (Aligned size align extra))
    → (r : Request) → P (plain r)
unfolding plain
plain-any P b t a (Bytes n) = b n
plain-any P b t a (Typed size align) = t size align
plain-any P b t a (Aligned size align extra) = elim (eqb size 0) as (λ (x : Bool). eqb size 0 ≡ x → P (pick x (Bytes extra) (Aligned size align extra))) [
  | true ↦ λ _. b extra
  | false ↦ λ q. a size align extra (eqb-false size 0 q)
] refl

-- a plain request for something needs at least a byte
pub need_some : (r : Request) → well_formed r ≡ true → for_nothing (plain r) ≡ false → 1 ≤ need (plain r)
unfolding need for_nothing
need_some r formed =
    plain-any (λ (r : Request). well_formed r ≡ true → for_nothing r ≡ false → 1 ≤ need r)
    (λ n h some. omega (arith, eqb-false n 0 some))
    (λ size align h some. omega (arith, typed_formed refl h, eqb-false size 0 some))
    (λ size align extra large h some. omega (arith, aligned_formed refl h))
    r (plain_formed r formed)

-- a plain request for something wants more than the top
pub want_above : (top : ℕ) (r : Request) → well_formed r ≡ true → for_nothing (plain r) ≡ false → top < want top (plain r)
unfolding want for_nothing
want_above top r formed =
    plain-any (λ (r : Request). well_formed r ≡ true → for_nothing r ≡ false → top < want top r)
    (λ n h some. omega (arith, eqb-false n 0 some))
    (λ size align h some. omega (arith, round_ge align top (typed_formed refl h).some, eqb-false size 0 some))
    (λ size align extra large h some. omega (arith, round_ge align top (aligned_formed refl h).0.some))
    r (plain_formed r formed)

-- an answer that a test lets through: the test holds
pub picked_some : (t : Bool) (o : Option ℕ) (n : ℕ) → Some n ≡ pick t o None → (t ≡ true) × (Some n ≡ o)
picked_some true o n e = (refl, e)
picked_some false o n e = absurd (cc)

module _ (cap top : ℕ) (r : Request) where
  -- a request that the top meets
  pub top_met : (end : ℕ) → Some end ≡ top_end cap top r → (well_formed r ≡ true) × (for_nothing (plain r) ≡ false) × (end ≡ want top (plain r)) × (end ≤ cap)
  unfolding top_end
  top_met end e =
      let p = picked_some (well_formed r && not (for_nothing (plain r)) && leb (want top (plain r)) cap) (Some (want top (plain r))) end e in
      let is : end ≡ want top (plain r) = cc in
      let a = both _ _ p.0 in
      let b = both _ _ a.0 in
      (b.0, not-true _ b.1, is, rw is (leb-true _ _ a.1))

  -- one that would be met but for its end
  pub top_past : well_formed r ≡ true → for_nothing (plain r) ≡ false → top_end cap top r ≡ None → leb (want top (plain r)) cap ≡ false
  unfolding top_end
  top_past formed some e = fails (leb (want top (plain r)) cap) (λ h. let some_end : Some (want top (plain r)) ≡ None = simp (formed, some, h) at e in cc)
