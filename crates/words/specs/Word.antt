-- Bytes and words. Document 01, 'Words, nodes and a sound arena', its first paragraph.
use Rattle.std.specs.Prelude.{ℕ, zero, suc, ◌+◌, ◌-◌, ◌*◌, ◌/◌, ◌%◌, ◌≡◌, List, [], ◌∷◌, ◌++◌, length, take, drop, replicate}

-- the number that bytes say, the lowest first
unfoldable pub value_of : List ℕ → ℕ
value_of [] = 0
value_of (d ∷ ds) = d + 256 * value_of ds

-- the n lowest bytes of w, the lowest first
unfoldable pub digits : ℕ → ℕ → List ℕ
digits zero w = []
digits (suc n) w = w % 256 ∷ digits n (w / 256)

-- l with the elements of m in the place of as many from p on
unfoldable pub splice : List ℕ → ℕ → List ℕ → List ℕ
splice l p m = take p l ++ (m ++ drop (p + length m) l)

-- 01: eight bytes, little-endian
unfoldable pub word_at : List ℕ → ℕ → ℕ
word_at l p = value_of (take 8 (drop p l))

-- l with the word w at p
unfoldable pub put_word : List ℕ → ℕ → ℕ → List ℕ
put_word l p w = splice l p (digits 8 w)

-- l with its bytes from a up to b, b not included, zeroed
unfoldable pub zeroed : List ℕ → ℕ → ℕ → List ℕ
zeroed l a b = splice l a (replicate (b - a) 0)

-- 01: a node word is size x 2^32 + next
abbrev pub node_word : ℕ → ℕ → ℕ
node_word size next = size * 4294967296 + next

abbrev pub size_half : ℕ → ℕ
size_half w = w / 4294967296

abbrev pub next_half : ℕ → ℕ
next_half w = w % 4294967296

-- 01: the end mark is 4,294,967,295 in either half
abbrev pub end_mark : ℕ
end_mark = 4294967295

-- a word, read as its two halves
pub record NodeOf (w size next : ℕ) : Type 0 where
  pub sized : size ≡ size_half w
  pub nexted : next ≡ next_half w
