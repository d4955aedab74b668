-- The free list as the code holds it: bytes, a first node and a number of nodes.
-- Assumes nothing.
use Prim.Native.Nat.{ℕ}
use Rattle.std.specs.List.{AllByRecursion as Each}
use mathlib.Core.Path.{◌≡◌}
use mathlib.Core.List.{List}
use lib.ListN.{length}
use Rattle.std.specs.Prelude.{Some}
use Rattle.words.specs.Word.{word_at, end_mark}
use Rattle.records.specs.declared.Shape.{Shape}
use Rattle.records.specs.declared.Header.{Header}
use Rattle.records.specs.declared.Segment.{Segment}
use Rattle.freelist.specs.Segs.{Run, EndsBy, followed, passed}
use Rattle.freelist.specs.Sound.{first_of, free, surveyed}
use Rattle.freelist.proofs.Runs.{run_followed, run_passed}
use Rattle.freelist.proofs.Arenas.{sound_run, sound_ends}
use Rattle.freelist.proofs.Surveys.{found_sound}
use Rattle.arena.specs.Look.{Counted}

-- a list as the code holds it: its bytes, its first node and the number of its nodes
pub record Held (l : List ℕ) (first count : ℕ) (segs : List Segment) : Type 0 where
  pub run : Run (word_at l) first segs end_mark
  pub are : passed (word_at l) count first ≡ segs
  pub ends : Each (EndsBy (length l)) (passed (word_at l) count first)
  pub stops : followed (word_at l) count first ≡ end_mark

pub run_held : (l : List ℕ) (first count : ℕ) (segs : List Segment) → Run (word_at l) first segs end_mark → Each (EndsBy (length l)) segs → count ≡ length segs → Held l first count segs
run_held l first count segs run ends counted =
    let are = run_passed (word_at l) first end_mark segs run count counted in
    record { run = run; are = are; ends = rw are ends; stops = run_followed (word_at l) first end_mark segs run count counted }

-- what the soundness check finds: a sound arena, and the number of its free segments
pub found_counted : (s : Shape) (h : Header) (l : List ℕ) (count : ℕ) → surveyed s h l ≡ Some count → Counted s h l count
found_counted s h l count e = let f = found_sound s h l count e in record { good = f.0; counts = f.1 }

-- the free list of a sound arena
pub free_held : (s : Shape) (h : Header) (l : List ℕ) (first count : ℕ) → Counted s h l count → first ≡ first_of h → Held l first count (free s h l)
free_held s h l first count k starts =
    rw starts (run_held l (first_of h) count (free s h l) (sound_run s h l k.good) (sound_ends s h l k.good) k.counts)
