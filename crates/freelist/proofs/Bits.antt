-- Marks as bits of words: the bits of `&`, of `|` and of a run of ones, the mark at each place once a word is set, and the turns of the loop that sets a part.
-- Assumes nothing.
use mathlib.Core.Path.{◌≡◌, refl, sym, ap, ◌∙◌}
use mathlib.Core.Logic.{◌≢◌}
use mathlib.Core.List.{List}
use Prim.Native.Nat.{ℕ, ◌+◌, ◌-◌, ◌*◌, ◌/◌, ◌%◌, ◌^◌, ◌≤◌, ◌<◌, min, max}
use native.Mathlib.Nat.{div-eq_of_lt, mul-sub}
use native.Mathlib.Decide.{dec_le, ℕ_discrete}
use native.Mathlib.Omega.{arith}
use lib.Arith.{bin_ind}
use lib.Pow.{pow_pos, pow_mono, pow-add, high, shr-shr}
use lib.Bits.{bit_and, bit_or, and_step, or_step, and_shr, or_shr}
use lib.ListN.{length, get_or, set}
use lib.Seq.{get_or-set_same, get_or-set_other}
use Rattle.freelist.specs.Marks.{mark_at, Unset, Marked}

-- the bits of `&` and of `|`
and_bit : (a b j : ℕ) → bit_and a b / 2 ^ j % 2 ≡ min (a / 2 ^ j % 2) (b / 2 ^ j % 2)
and_bit a b j = omega (arith, and_shr a b j, and_step (a / 2 ^ j) (b / 2 ^ j))

or_bit : (a b j : ℕ) → bit_or a b / 2 ^ j % 2 ≡ max (a / 2 ^ j % 2) (b / 2 ^ j % 2)
or_bit a b j = omega (arith, or_shr a b j, or_step (a / 2 ^ j) (b / 2 ^ j))

-- a number is 0 where no bit of it is set
bits_zero : (n : ℕ) → ((j : ℕ) → n / 2 ^ j % 2 ≡ 0) → n ≡ 0
bits_zero =
    bin_ind (λ (n : ℕ). ((j : ℕ) → n / 2 ^ j % 2 ≡ 0) → n ≡ 0) (λ h. refl)
    (λ n ih h. omega (arith, h 0, ih (λ j. ap (λ (x : ℕ). x % 2) (shr-shr n 1 j) ∙ h (1 + j))))

zero_bits : (n j : ℕ) → n ≡ 0 → n / 2 ^ j % 2 ≡ 0
zero_bits n j e = ap (λ (x : ℕ). x / 2 ^ j % 2) e ∙ ap (λ (x : ℕ). x % 2) (div-eq_of_lt (pow_pos j))

-- a power as a product of two
pow_over : (j k : ℕ) → j ≤ k → 2 ^ k ≡ 2 ^ (k - j) * 2 ^ j
pow_over j k h = let e : k ≡ k - j + j = omega arith in ap (λ (x : ℕ). 2 ^ x) e ∙ pow-add 2 (k - j) j

-- the bits of the ones from `from` up to `to`
module _ (from to j : ℕ) where
  ones_own : from ≤ j → j < to → (2 ^ to - 2 ^ from) / 2 ^ j % 2 ≡ 1
  ones_own l h =
      let e : 2 ^ to - 2 ^ from ≡ (2 ^ (to - j) - 1) * 2 ^ j + (2 ^ j - 2 ^ from) =
      omega (arith, pow_over j to (omega arith), pow_mono l, pow_mono {i = j} {j = to} (omega arith), mul-sub (2 ^ j) (2 ^ (to - j)) 1) in
      let q : (2 ^ to - 2 ^ from) / 2 ^ j ≡ 2 ^ (to - j) - 1 = ap (λ (n : ℕ). n / 2 ^ j) e ∙ high (2 ^ (to - j) - 1) j (omega (arith, pow_pos from, pow_pos j)) in
      omega (arith, q, pow_over 1 (to - j) (omega arith), pow_pos (to - j))

  ones_before : j < from → from ≤ to → (2 ^ to - 2 ^ from) / 2 ^ j % 2 ≡ 0
  ones_before l h =
      let e : 2 ^ to - 2 ^ from ≡ (2 ^ (to - j) - 2 ^ (from - j)) * 2 ^ j + 0 =
      omega (arith, pow_over j to (omega arith), pow_over j from (omega arith), mul-sub (2 ^ j) (2 ^ (to - j)) (2 ^ (from - j))) in
      let q : (2 ^ to - 2 ^ from) / 2 ^ j ≡ 2 ^ (to - j) - 2 ^ (from - j) = ap (λ (n : ℕ). n / 2 ^ j) e ∙ high (2 ^ (to - j) - 2 ^ (from - j)) j (pow_pos j) in
      omega (arith, q, pow_over 1 (to - j) (omega arith), pow_over 1 (from - j) (omega arith))

  ones_after : to ≤ j → (2 ^ to - 2 ^ from) / 2 ^ j % 2 ≡ 0
  ones_after h = omega (arith, div-eq_of_lt {n = 2 ^ to - 2 ^ from} {m = 2 ^ j} (omega (arith, pow_mono h, pow_pos from, pow_pos to)))

  ones_other : from ≤ to → (from ≤ j → j < to → ⊥) → (2 ^ to - 2 ^ from) / 2 ^ j % 2 ≡ 0
  ones_other h f = go (dec_le from j) (dec_le to j)
    where
      go : Dec (from ≤ j) → Dec (to ≤ j) → (2 ^ to - 2 ^ from) / 2 ^ j % 2 ≡ 0
      go (no k) d = ones_before (omega arith) h
      go (yes k) (yes d) = ones_after d
      go (yes k) (no d) = absurd (f k (omega arith))

-- the word w with the ones from `from` up to `to`
module _ (w from to : ℕ) where
  and_none : bit_and w (2 ^ to - 2 ^ from) ≡ 0 → (j : ℕ) → from ≤ j → j < to → w / 2 ^ j % 2 ≡ 0
  and_none e j l h = omega (arith, and_bit w (2 ^ to - 2 ^ from) j, zero_bits (bit_and w (2 ^ to - 2 ^ from)) j e, ones_own from to j l h)

  none_and : from ≤ to → ((j : ℕ) → from ≤ j → j < to → w / 2 ^ j % 2 ≡ 0) → bit_and w (2 ^ to - 2 ^ from) ≡ 0
  none_and up f = bits_zero (bit_and w (2 ^ to - 2 ^ from)) (λ j. go j (dec_le from j) (dec_le to j))
    where
      go : (j : ℕ) → Dec (from ≤ j) → Dec (to ≤ j) → bit_and w (2 ^ to - 2 ^ from) / 2 ^ j % 2 ≡ 0
      go j (no k) d = omega (arith, and_bit w (2 ^ to - 2 ^ from) j, ones_before from to j (omega arith) up)
      go j (yes k) (yes d) = omega (arith, and_bit w (2 ^ to - 2 ^ from) j, ones_after from to j d)
      go j (yes k) (no d) = omega (arith, and_bit w (2 ^ to - 2 ^ from) j, f j k (omega arith))

  or_own : (j : ℕ) → from ≤ j → j < to → bit_or w (2 ^ to - 2 ^ from) / 2 ^ j % 2 ≡ 1
  or_own j l h = omega (arith, or_bit w (2 ^ to - 2 ^ from) j, ones_own from to j l h)

  or_other : from ≤ to → (j : ℕ) → (from ≤ j → j < to → ⊥) → bit_or w (2 ^ to - 2 ^ from) / 2 ^ j % 2 ≡ w / 2 ^ j % 2
  or_other up j f = omega (arith, or_bit w (2 ^ to - 2 ^ from) j, ones_other from to j up f)

-- the mark at x, by a word of the list
mark_in : (marks : List ℕ) (x k : ℕ) → x / 64 ≡ k → mark_at marks x ≡ get_or marks k 0 / 2 ^ (x % 64) % 2
unfolding mark_at
mark_in marks x k e = ap (λ (n : ℕ). get_or marks n 0 / 2 ^ (x % 64) % 2) e

-- and once a word is set
module _ (marks : List ℕ) (x k w : ℕ) where
  mark_set : x / 64 ≡ k → k < length marks → mark_at (set marks k w) x ≡ w / 2 ^ (x % 64) % 2
  mark_set e h = mark_in (set marks k w) x k e ∙ ap (λ (n : ℕ). n / 2 ^ (x % 64) % 2) (get_or-set_same marks k w 0 h)

  mark_kept : x / 64 ≢ k → mark_at (set marks k w) x ≡ mark_at marks x
  unfolding mark_at
  mark_kept e = ap (λ (n : ℕ). n / 2 ^ (x % 64) % 2) (get_or-set_other marks k (x / 64) w 0 e)

-- the marks of one word from i on: those of its bits up to `to`
module _ (marks : List ℕ) (i to own : ℕ) (low : i % 64 < to) (top : to ≤ 64) (is : own ≡ 2 ^ to - 2 ^ (i % 64)) where
  abbrev word : ℕ
  word = get_or marks (i / 64) 0

  pub word_unset : bit_and word own ≡ 0 → Unset marks i (i + (to - i % 64))
  word_unset e x l h =
      mark_in marks x (i / 64) (omega arith) ∙ and_none word (i % 64) to (ap (bit_and word) (sym is) ∙ e) (x % 64) (omega arith) (omega arith)

  pub unset_word : Unset marks i (i + (to - i % 64)) → bit_and word own ≡ 0
  unset_word f = ap (bit_and word) is ∙ none_and word (i % 64) to (omega arith) each
    where
      each : (j : ℕ) → i % 64 ≤ j → j < to → word / 2 ^ j % 2 ≡ 0
      each j l h =
          let x = i + (j - i % 64) in
          let e : x % 64 ≡ j = omega arith in
          ap (λ (n : ℕ). word / 2 ^ n % 2) (sym e) ∙ sym (mark_in marks x (i / 64) (omega arith)) ∙ f x (omega arith) (omega arith)

  module _ (fits : i / 64 < length marks) where
    abbrev next : List ℕ
    next = set marks (i / 64) (bit_or word own)

    next_in : (x : ℕ) → x / 64 ≡ i / 64 → mark_at next x ≡ bit_or word (2 ^ to - 2 ^ (i % 64)) / 2 ^ (x % 64) % 2
    next_in x e =
        mark_set marks x (i / 64) (bit_or word own) e fits ∙ ap (λ (n : ℕ). bit_or word n / 2 ^ (x % 64) % 2) is

    next_other : (x : ℕ) → (i ≤ x → x < i + (to - i % 64) → ⊥) → mark_at next x ≡ mark_at marks x
    next_other x f = go (ℕ_discrete (x / 64) (i / 64))
      where
        go : Dec (x / 64 ≡ i / 64) → mark_at next x ≡ mark_at marks x
        go (no k) = mark_kept marks x (i / 64) (bit_or word own) k
        go (yes k) =
            next_in x k ∙ or_other word (i % 64) to (omega arith) (x % 64) (λ l h. f (omega arith) (omega arith)) ∙ sym (mark_in marks x (i / 64) k)

    pub word_marked : Marked marks i (i + (to - i % 64)) next
    word_marked =
        record {
          own = λ x l h. next_in x (omega arith) ∙ or_own word (i % 64) to (x % 64) (omega arith) (omega arith);
          others = next_other;
        }

-- marks of which those from a up to i are set, and those from i up to n next
module _ (were marks : List ℕ) (a i n : ℕ) (up : a ≤ i) (m : Marked were a i marks) where
  pub unset_more : Unset were a i → Unset marks i n → Unset were a n
  unset_more f g x l h = go (dec_le i x)
    where
      go : Dec (i ≤ x) → mark_at were x ≡ 0
      go (yes k) = sym (m.others x (λ j u. omega arith)) ∙ g x k h
      go (no k) = f x l (omega arith)

  pub unset_rest : Unset were a n → Unset marks i n
  unset_rest f x l h = m.others x (λ j u. omega arith) ∙ f x (omega arith) h

  pub marked_more : i ≤ n → (are : List ℕ) → Marked marks i n are → Marked were a n are
  marked_more k are p = record { own = within; others = λ x f. p.others x (λ l h. f (omega arith) h) ∙ m.others x (λ l h. f l (omega arith)) }
    where
      within : (x : ℕ) → a ≤ x → x < n → mark_at are x ≡ 1
      within x l h = go (dec_le i x)
        where
          go : Dec (i ≤ x) → mark_at are x ≡ 1
          go (yes d) = p.own x d h
          go (no d) = p.others x (λ j u. omega arith) ∙ m.own x l (omega arith)
