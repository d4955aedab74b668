-- What an iterator over nodes knows: where the next segment ends, and how many are left.
-- Assumes nothing.
use Rattle.std.proofs.Common.{◌≡◌, ◌<◌, ◌^◌, ℕ, get_or, List, ◌∷◌, length, arith}
use Rattle.records.specs.declared.Segment.{Segment}
use Rattle.freelist.specs.declared.nodes.Nodes.{Nodes}
use Rattle.freelist.specs.Segs.{end_of, EndsBy}
use Rattle.words.specs.Word.{word_at}
use Rattle.freelist.proofs.Runs.{length-passed}
use Rattle.freelist.proofs.Places.{all_at}
use Rattle.freelist.specs.Nodes.{rest}

-- it ends inside the buffer, which has no more bytes than an address can name
pub next_inside : (n : Nodes) (s : Segment) (ss : List Segment) → rest n ≡ s ∷ ss → end_of s < 9223372036854775808
next_inside n s ss e = let h = rw e at n.inside in omega (arith, h.0, n.short)

-- and so does each of them
pub nth_inside : (n : Nodes) (s : Segment) (k : ℕ) → k < length (rest n) → s ≡ get_or (rest n) k s → end_of s < 2 ^ 64
nth_inside n s k h e = let i = all_at (EndsBy (length n.buf.now)) k (rest n) s h n.inside in rw e (omega (arith, i, n.short))

-- it has as many left as it counts
pub rest_left : (n : Nodes) → length (rest n) ≡ n.left
rest_left n = length-passed (word_at n.buf.now) n.left n.at
