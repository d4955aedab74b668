-- The segments that an iterator over a list's nodes has left.
use Rattle.std.specs.Prelude.{List}
use Rattle.words.specs.Word.{word_at}
use Rattle.records.specs.declared.Segment.{Segment}
use Rattle.freelist.specs.declared.nodes.Nodes.{Nodes}
use Rattle.freelist.specs.Segs.{passed}

abbrev pub rest : Nodes → List Segment
rest n = passed (word_at n.buf.now) n.left n.at
