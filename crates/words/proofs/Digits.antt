-- The laws of digits and words: bytes as numbers, what a lent part gives back, what is read back after a word is put or a range zeroed, and a word's halves.
-- Assumes nothing.
use Prim.Native.Nat.{ℕ, zero, suc, ◌+◌, ◌-◌, ◌*◌, ◌/◌, ◌^◌, ◌≤◌, ◌<◌}
use mathlib.Core.Path.{◌≡◌, refl, ap, ◌∙◌}
use mathlib.Core.List.{List, ◌++◌}
use native.Mathlib.Omega.{arith}
use native.Mathlib.Nat.{pow-suc, div-div-eq-div-mul, add-sub_cancel_left}
use lib.ListN.{length, take, drop, get_or, replicate, length-replicate, drop_of_length-le, length-take, length-drop}
use lib.Seq.{drop-cons}
use native.Mathlib.Numerals.{add-one}
use Rattle.std.specs.Array.{IsWholeChunk}
use Rattle.std.specs.Int.{w64, from_le_bytes, to_le_bytes}
use Rattle.words.specs.Word.{value_of, digits, splice, word_at, put_word, zeroed, size_half, next_half, node_word, NodeOf}
use Rattle.words.proofs.Ranges.{Parted}
use Rattle.words.proofs.Splice.{lent_back, splice-length, splice_part, splice_off}

pub digits-length : (n w : ℕ) → length (digits n w) ≡ n
unfolding digits
digits-length zero w = refl
digits-length (suc n) w = ap suc (digits-length n (w / 256))

-- the digits of a word that fits say the word
pub value_digits : (n w : ℕ) → w < 256 ^ n → value_of (digits n w) ≡ w
unfolding digits value_of
value_digits zero w h = omega arith
value_digits (suc n) w h =
    let small : w < 256 * 256 ^ n = omega (arith, pow-suc 256 n) in
    let rest : value_of (digits n (w / 256)) ≡ w / 256 = value_digits n (w / 256) (omega arith) in
    omega arith

-- one digit off the front
value_step : (l : List ℕ) (k : ℕ) → k < length l → value_of (drop k l) ≡ get_or l k 0 + 256 * value_of (drop (k + 1) l)
unfolding value_of
value_step l k h = rw (drop-cons l k 0 h, add-one k)

-- the library's number of eight bytes, and its eight bytes of a word
pub value_le : (l : List ℕ) → length l ≡ 8 → from_le_bytes w64 l ≡ value_of l
value_le l eq =
    let none : value_of (drop 8 l) ≡ 0 = unfold value_of in rw (drop_of_length-le l {i = 8} (omega arith)) in
    omega (
      arith,
      value_step l 0 (omega arith),
      value_step l 1 (omega arith),
      value_step l 2 (omega arith),
      value_step l 3 (omega arith),
      value_step l 4 (omega arith),
      value_step l 5 (omega arith),
      value_step l 6 (omega arith),
      value_step l 7 (omega arith),
    )

pub digits_le : (w : ℕ) → to_le_bytes w64 w ≡ digits 8 w
unfolding digits
digits_le w = simp div-div-eq-div-mul

-- the halves of the number that eight bytes at p, lent to be read, say
pub node_read : (l m : List ℕ) (p v : ℕ) {s n : ℕ} → IsWholeChunk (take (p + 8 - p) (drop p l)) m 8 → v ≡ from_le_bytes w64 m → NodeOf v s n → NodeOf (word_at l p) s n
unfolding word_at
node_read l m p v whole e h =
    let eight : length m ≡ 8 = ap length whole.same ∙ whole.long in
    let part : take (p + 8 - p) (drop p l) ≡ take 8 (drop p l) = ap (λ (n : ℕ). take n (drop p l)) (add-sub_cancel_left p 8) in
    let same : v ≡ value_of (take 8 (drop p l)) = e ∙ value_le m eight ∙ ap value_of (whole.same ∙ part) in
    rw (← same) h

-- eight bytes at p that were lent and came back as the digits of w
pub put_lent : (l : List ℕ) (p w : ℕ) (m : List ℕ) → m ≡ digits 8 w → take p l ++ (m ++ drop (p + 8 - p) (drop p l)) ≡ put_word l p w
unfolding put_word
put_lent l p w m e =
    lent_back l p (p + 8) m (ap length e ∙ digits-length 8 w ∙ omega arith) ∙ ap (splice l p) e

-- the bytes from a up to b that were lent and came back as zeros
pub zero_lent : (l : List ℕ) (a b : ℕ) (m : List ℕ) → m ≡ replicate (length (take (b - a) (drop a l))) 0 → a ≤ b → b ≤ length l
    → take a l ++ (m ++ drop (b - a) (drop a l)) ≡ zeroed l a b
unfolding zeroed
zero_lent l a b m e order fits =
    let size : length (take (b - a) (drop a l)) ≡ b - a = simp (length-take, length-drop) (omega arith) in
    lent_back l a b m (ap length e ∙ length-replicate _ 0 ∙ size) ∙ ap (splice l a) (e ∙ ap (λ (n : ℕ). replicate n 0) size)

-- reading back what was put
module _ (l : List ℕ) (p w : ℕ) (fits : p + 8 ≤ length l) where
  pub put_length : length (put_word l p w) ≡ length l
  unfolding put_word digits
  put_length = splice-length l p (digits 8 w) fits

  pub put_same : w < 2 ^ 64 → word_at (put_word l p w) p ≡ w
  unfolding put_word word_at digits
  put_same h = ap value_of (splice_part l p (digits 8 w) fits) ∙ value_digits 8 w h

  pub put_off : (q : ℕ) → Parted q (q + 8) p (p + 8) → word_at (put_word l p w) q ≡ word_at l q
  unfolding put_word word_at digits
  put_off q off = ap value_of (splice_off l p (digits 8 w) fits q 8 off)

-- the zeros from a on end at b
pub zeroed_end : (a b : ℕ) → a ≤ b → a + length (replicate {A = ℕ} (b - a) 0) ≡ b
zeroed_end a b order = simp length-replicate (omega arith)

module _ (l : List ℕ) (a b : ℕ) (order : a ≤ b) (fits : b ≤ length l) where
  zero_fits : a + length (replicate {A = ℕ} (b - a) 0) ≤ length l
  zero_fits = rw (zeroed_end a b order) fits

  pub zeroed-length : length (zeroed l a b) ≡ length l
  unfolding zeroed
  zeroed-length = splice-length l a (replicate (b - a) 0) zero_fits

  pub zeroed_off : (q : ℕ) → Parted q (q + 8) a b → word_at (zeroed l a b) q ≡ word_at l q
  unfolding zeroed word_at
  zeroed_off q off = ap value_of (splice_off l a (replicate (b - a) 0) zero_fits q 8 (rw (zeroed_end a b order) off))

-- a node word and its halves
pub word_size : (s n : ℕ) → n < 2 ^ 32 → size_half (node_word s n) ≡ s
word_size s n h = omega arith

pub word_next : (s n : ℕ) → n < 2 ^ 32 → next_half (node_word s n) ≡ n
word_next s n h = omega arith
