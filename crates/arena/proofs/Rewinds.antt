-- The answers of `discarding`, `rewinding` and `setting`, in the order of their tests.
-- Assumes nothing.
use Prim.Native.Nat.{ℕ}
use mathlib.Core.Path.{◌≡◌}
use mathlib.Core.Bool.{true, false}
use mathlib.Core.List.{List, []}
use lib.ListN.{length}
use Rattle.words.specs.Word.{end_mark}
use Rattle.records.specs.Answer.{leaves, refuses, sum, done}
use Rattle.records.specs.Head.{head_sound}
use Rattle.records.specs.Change.{with_top, with_first, losing}
use Rattle.records.specs.declared.Shape.{Shape}
use Rattle.records.specs.declared.Header.{Header}
use Rattle.records.specs.declared.Position.{Position}
use Rattle.freelist.specs.Segs.{sizes}
use Rattle.freelist.specs.Place.{any_above}
use Rattle.freelist.specs.Sound.{sound, free}
use Rattle.arena.specs.Rewind.{discarding, rewound, rewinding, setting}

module _ (s : Shape) (h : Header) (l : List ℕ) where
  pub discards_read_only : s.read_only ≡ true → refuses 1 [] h l ≡ discarding s h l
  unfolding discarding
  discards_read_only e = simp e

  module _ (writable : s.read_only ≡ false) where
    pub discards_damaged : sound s h l ≡ false → refuses 4 [] h l ≡ discarding s h l
    unfolding discarding
    discards_damaged e = simp (writable, e)

    pub discards_sum : sound s h l ≡ true → (n : ℕ) → n ≡ sizes (free s h l) → (emptied next : Header)
        → emptied ≡ with_first h end_mark → next ≡ losing emptied n → leaves (sum n) next l ≡ discarding s h l
    unfolding discarding
    discards_sum good n is emptied next e f = simp (writable, good, f, e, is)

module _ (s : Shape) (h : Header) (l : List ℕ) (p : Position) where
  pub rewinds_read_only : s.read_only ≡ true → refuses 1 [] h l ≡ rewinding s h l p
  unfolding rewinding
  rewinds_read_only e = simp e

  module _ (writable : s.read_only ≡ false) where
    pub rewinds_damaged : sound s h l ≡ false → refuses 4 [] h l ≡ rewinding s h l p
    unfolding rewinding
    rewinds_damaged e = simp (writable, e)

    module _ (good : sound s h l ≡ true) (top : ℕ) (is : top ≡ rewound s h p) where
      pub rewinds_cuts : any_above top (free s h l) ≡ true → refuses 8 [] h l ≡ rewinding s h l p
      unfolding rewinding
      rewinds_cuts e = simp (writable, good, ← is, e)

      pub rewinds_done : any_above top (free s h l) ≡ false → (next : Header) → next ≡ with_top h top → leaves done next l ≡ rewinding s h l p
      unfolding rewinding
      rewinds_done e next f = simp (writable, good, f, ← is, e)

module _ (s : Shape) (h : Header) (l : List ℕ) (next : Header) where
  pub sets_read_only : s.read_only ≡ true → refuses 1 [] h l ≡ setting s h l next
  unfolding setting
  sets_read_only e = simp e

  module _ (writable : s.read_only ≡ false) where
    pub sets_damaged : head_sound s h (length l) ≡ false → refuses 4 [] h l ≡ setting s h l next
    unfolding setting
    sets_damaged e = simp (writable, e)

    pub sets_done : head_sound s h (length l) ≡ true → leaves done next l ≡ setting s h l next
    unfolding setting
    sets_done e = simp (writable, e)
