-- A header with one field changed. Document 01, 'Numbers that bound it'.
use Rattle.std.specs.Prelude.{ℕ, ◌+◌, min}
use Rattle.words.specs.Word.{node_word, end_mark}
use Rattle.records.specs.declared.Header.{Header}

-- the top moved
abbrev pub with_top : Header → ℕ → Header
with_top h top = record h { allocated = top }

-- the list's first node, the size half being the end mark
abbrev pub with_first : Header → ℕ → Header
with_first h first = record h { sentinel = node_word end_mark first }

-- the minimum set
abbrev pub with_minimum : Header → ℕ → Header
with_minimum h least = record h { minimum_segment_size = least }

-- 01: `discarded` stops at 4,294,967,295
abbrev pub losing : Header → ℕ → Header
losing h n = record h { discarded = min (h.discarded + n) 4294967295 }
