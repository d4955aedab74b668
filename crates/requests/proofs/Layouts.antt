-- From the tests of a layout and of a request to their facts, and back.
-- Assumes nothing.
use Prim.Native.Nat.{ℕ, ◌-◌, ◌%◌, ◌≤◌, ◌<◌}
use mathlib.Core.Path.{◌≡◌, refl, sym, ◌∙◌}
use mathlib.Core.Bool.{Bool, true, false, ◌&&◌, and-true, false≢true}
use native.Mathlib.Omega.{arith}
use borrow.Author.Tests.{leb-true, leb-false, eqb-true, le-leb, lt-leb, eq-eqb}
use lib.Dec.{leb, eqb}
use lib.Bits.{bit_and}
use Rattle.words.specs.Align.{good_align}
use Rattle.words.proofs.Masks.{good_pos, good_mask}
use Rattle.words.proofs.Powers.{align_large}
use Rattle.records.specs.Setup.{limit}
use Rattle.records.specs.declared.Request.{Request}
use Rattle.records.specs.declared.Request.TheVariants.{Bytes, Typed, Aligned}
use Rattle.records.proofs.Facts.{both}
use Rattle.requests.specs.Request.{layout_of, good_layout, well_formed}

-- a good alignment is at most 4096
pub good_small : (a : ℕ) → good_align a ≡ true → a ≤ 4096
good_small a good = elim (leb a 4096) as (λ (t : Bool). leb a 4096 ≡ t → a ≤ 4096) [
  | true ↦ λ q. leb-true a 4096 q
  | false ↦ λ q.
      let bad : good_align a ≡ false = align_large a (leb-false a 4096 q) in
      absurd (false≢true cc)
] refl

-- a size and an alignment that may be asked for together
pub record GoodLayout (size align : ℕ) : Type 0 where
  pub within : size ≤ limit
  pub good : good_align align ≡ true
  pub whole : size % align ≡ 0
  pub some : 1 ≤ align
  pub small : align ≤ 4096

module _ (size align : ℕ) where
  -- what the test says
  pub layout_facts : good_layout size align ≡ true → GoodLayout size align
  unfolding good_layout
  layout_facts e =
      let a = both _ _ e in
      let b = both _ _ a.0 in
      record {
        within = leb-true _ _ b.0;
        good = b.1;
        whole = eqb-true _ _ a.1;
        some = good_pos align b.1;
        small = good_small align b.1;
      }

  -- a size past the limit
  pub layout_large : limit < size → good_layout size align ≡ false
  unfolding good_layout
  layout_large h = simp (lt-leb _ _ h)

  module _ (within : size ≤ limit) where
    -- an alignment that no request may name
    pub layout_bad : good_align align ≡ false → good_layout size align ≡ false
    unfolding good_layout
    layout_bad e = simp (le-leb _ _ within, e)

    -- the mask tests whether the size is a multiple
    pub layout_mask : good_align align ≡ true → good_layout size align ≡ eqb (bit_and size (align - 1)) 0
    unfolding good_layout
    layout_mask e = simp (le-leb _ _ within, e, good_mask align e size)

-- the laws of the test, for `good_layout`
pub ruleset layouts = (layout_large, layout_bad, layout_mask, good_pos)

-- the test of a request in numbers
pub formed_laid : (r : Request) → well_formed r ≡ (leb (layout_of r).extra limit && good_layout (layout_of r).size (layout_of r).align)
unfolding well_formed layout_of good_layout good_align
formed_laid (Bytes n) = simp (eq-eqb (n % 1) 0 (omega arith), and-true (leb n limit))
formed_laid (Typed size align) = refl
formed_laid (Aligned size align extra) = refl

pub laid_formed : (r : Request) → well_formed r ≡ true → GoodLayout (layout_of r).size (layout_of r).align × ((layout_of r).extra ≤ limit)
laid_formed r h = let a = both _ _ (sym (formed_laid r) ∙ h) in (layout_facts _ _ a.1, leb-true _ _ a.0)

-- bytes within the limit
pub formed_bytes : (n : ℕ) → n ≤ limit → well_formed (Bytes n) ≡ true
unfolding well_formed
formed_bytes n h = le-leb _ _ h

module _ {r : Request} where
  -- well-formed bytes keep to the limit
  pub bytes_formed : {n : ℕ} → r ≡ Bytes n → well_formed r ≡ true → n ≤ limit
  unfolding well_formed
  bytes_formed e h = leb-true _ _ (rw e at h)

  -- a well-formed typed request has a good layout
  pub typed_formed : {size align : ℕ} → r ≡ Typed size align → well_formed r ≡ true → GoodLayout size align
  unfolding well_formed
  typed_formed e h = layout_facts _ _ (rw e at h)

  -- well-formed aligned bytes have a good layout, and their extra keeps to the limit
  pub aligned_formed : {size align extra : ℕ} → r ≡ Aligned size align extra → well_formed r ≡ true → GoodLayout size align × (extra ≤ limit)
  unfolding well_formed
  aligned_formed e h = let a = both _ _ (rw e at h) in (layout_facts _ _ a.1, leb-true _ _ a.0)

-- the facts of a well-formed request that names an alignment, for `list_block`
pub ruleset formed = (typed_formed, aligned_formed)
