-- Which bytes a write leaves: those of a range that has none of what is written. A part replaced, a word put, a range zeroed. And a word whose eight bytes
-- are left is the same. Assumes nothing.
use Prim.Native.Nat.{ℕ, ◌+◌, ◌-◌, ◌≤◌, ◌<◌}
use mathlib.Core.Path.{◌≡◌, sym, ap, ◌∙◌}
use mathlib.Core.List.{List}
use native.Mathlib.Nat.{add-zero}
use native.Mathlib.Omega.{arith}
use lib.ListN.{length, take, drop, get_or, replicate, length-take, length-drop}
use lib.Seq.{ext_get_or, get_or-take, get_or-drop}
use Rattle.words.specs.Word.{value_of, digits, splice, word_at, put_word, zeroed}
use Rattle.words.proofs.Ranges.{Parted, parted_parts}
use Rattle.words.proofs.Splice.{splice_off}
use Rattle.words.proofs.Digits.{zeroed_end}

-- the bytes from a up to e are in m what they are in l
abbrev pub Still : ℕ → ℕ → List ℕ → List ℕ → Type 0
Still a e l m = (x : ℕ) → a ≤ x → x < e → get_or m x 0 ≡ get_or l x 0

-- a byte, as the first of those from it on
byte_first : (l : List ℕ) (x : ℕ) → get_or (take 1 (drop x l)) 0 0 ≡ get_or l x 0
byte_first l x = get_or-take 1 (drop x l) 0 0 (omega arith) ∙ get_or-drop x l 0 0 ∙ ap (λ (n : ℕ). get_or l n 0) (add-zero x)

module _ (a e : ℕ) (l : List ℕ) where
  -- a part replaced
  pub splice_still : (p : ℕ) (m : List ℕ) → p + length m ≤ length l → Parted a e p (p + length m) → Still a e l (splice l p m)
  splice_still p m fits off x low high =
      sym (byte_first (splice l p m) x)
      ∙ ap (λ (k : List ℕ). get_or k 0 0) (splice_off l p m fits x 1 (parted_parts x (x + 1) p (p + length m) low (omega arith) (omega arith) (omega arith) off))
      ∙ byte_first l x

  -- a word put
  pub put_still : (p w : ℕ) → p + 8 ≤ length l → Parted a e p (p + 8) → Still a e l (put_word l p w)
  unfolding put_word digits
  put_still p w = splice_still p (digits 8 w)

  -- a range zeroed
  pub zeroed_still : (x y : ℕ) → x ≤ y → y ≤ length l → Parted a e x y → Still a e l (zeroed l x y)
  unfolding zeroed
  zeroed_still x y order fits off =
      let n = zeroed_end x y order in
      splice_still x (replicate (y - x) 0) (omega arith) (rw n off)

-- a word whose eight bytes are left
pub word_agree : (l m : List ℕ) (p : ℕ) → length m ≡ length l → p + 8 ≤ length l → Still p (p + 8) l m → word_at m p ≡ word_at l p
unfolding word_at
word_agree l m p e h f =
    let eight : (k : List ℕ) → p + 8 ≤ length k → length (take 8 (drop p k)) ≡ 8 = λ k g. simp (length-take, length-drop) (omega arith) in
    let n : length (take 8 (drop p m)) ≡ 8 = eight m (omega arith) in
    ap value_of
    (ext_get_or 0 (take 8 (drop p m)) (take 8 (drop p l)) (n ∙ sym (eight l h)) (λ i b.
    let c : i < 8 = omega arith in
    rw (get_or-take 8 (drop p m) i 0 c, get_or-take 8 (drop p l) i 0 c, get_or-drop p m i 0, get_or-drop p l i 0) (f (p + i) (omega arith) (omega arith))))
