-- A write outside a node's eight bytes leaves its word as it was: any bytes that agree on them, a word put, a range zeroed.
-- Assumes nothing.
use mathlib.Core.Path.{◌≡◌}
use Rattle.std.specs.List.{AllByRecursion as Each}
use mathlib.Core.List.{List}
use Prim.Native.Nat.{ℕ, ◌+◌, ◌≤◌}
use native.Mathlib.Omega.{arith}
use lib.ListN.{length}
use Rattle.words.specs.Word.{word_at, put_word, zeroed}
use Rattle.words.proofs.Ranges.{Parted}
use Rattle.words.proofs.Digits.{put_off, zeroed_off}
use Rattle.words.proofs.Stills.{Still, word_agree}
use Rattle.records.specs.declared.Segment.{Segment}
use Rattle.freelist.specs.Segs.{EndsBy}
use Rattle.freelist.proofs.Listing.{all_map, all_both}

-- the node's word is the same in l and in m
abbrev pub Same : List ℕ → List ℕ → Segment → Type 0
Same l m s = word_at m s.offset ≡ word_at l s.offset

-- the node's eight bytes are the same in l and in m
abbrev pub Agree : List ℕ → List ℕ → Segment → Type 0
Agree l m s = Still s.offset (s.offset + 8) l m

-- the node's eight bytes lie outside those from a up to b
abbrev pub Outside : ℕ → ℕ → Segment → Type 0
Outside a b s = Parted s.offset (s.offset + 8) a b

module _ (l : List ℕ) where
  -- any bytes, the same on the nodes' eight
  pub agree_words : (m : List ℕ) → length m ≡ length l → (ss : List Segment) → Each (EndsBy (length l)) ss → Each (Agree l m) ss → Each (Same l m) ss
  agree_words m e = all_both (EndsBy (length l)) (Agree l m) (Same l m) (λ s h f. word_agree l m s.offset e (omega arith) f)

  -- a word put outside
  pub put_outside : (p x : ℕ) → p + 8 ≤ length l → (s : Segment) → Outside p (p + 8) s → Same l (put_word l p x) s
  put_outside p x fits s = put_off l p x fits s.offset

  pub put_words : (p x : ℕ) → p + 8 ≤ length l → (ss : List Segment) → Each (Outside p (p + 8)) ss → Each (Same l (put_word l p x)) ss
  put_words p x fits = all_map (Outside p (p + 8)) (Same l (put_word l p x)) (put_outside p x fits)

  -- a range zeroed outside
  pub zeroed_words : (a b : ℕ) → a ≤ b → b ≤ length l → (ss : List Segment) → Each (Outside a b) ss → Each (Same l (zeroed l a b)) ss
  zeroed_words a b order fits = all_map (Outside a b) (Same l (zeroed l a b)) (λ s. zeroed_off l a b order fits s.offset)
