-- What a caller's write leaves.
use Rattle.std.specs.Prelude.{ℕ, ◌+◌, List, leb, length, replicate}
use Rattle.words.specs.Word.{splice}
use Rattle.words.specs.Pick.{pick}

-- n bytes from offset on are v; all stays where they leave the buffer
unfoldable pub filled : List ℕ → ℕ → ℕ → ℕ → List ℕ
filled l offset n v = pick (leb (offset + n) (length l)) (splice l offset (replicate n v)) l
