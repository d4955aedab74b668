-- Tests of the segments of a list, and a place in it: document 01's 'first node' that passes a test ('Taking room', 'Giving back, discarding, rewinding'),
-- and refusals 7 and 8 ('What each call says no with').
use Rattle.std.specs.Prelude.{◌≡◌, Bool, List, [], ◌∷◌, ◌++◌, ℕ, suc, ltb, take, drop}
use Rattle.std.specs.List.{list_any as any}
use Rattle.words.specs.Word.{end_mark}
use Rattle.words.specs.Pick.{pick}
use Rattle.records.specs.declared.Segment.{Segment}
use Rattle.freelist.specs.Segs.{end_of, shares}

-- 01, refusal 7: whose bytes meet a free segment's, for the bytes from `from` up to `to`
abbrev pub meets : List Segment → ℕ → ℕ → Bool
meets segs from to = any (λ s. shares s.offset (end_of s) from to) segs

-- 01, refusal 8: whose new top lies below the end of a free segment
abbrev pub any_above : ℕ → List Segment → Bool
any_above top segs = any (λ s. ltb top (end_of s)) segs

-- how many elements stand before the first that passes, and all of them where none does
abbrev pub place : {A : Type 0} → (A → Bool) → List A → ℕ
place f [] = 0
place f (x ∷ xs) = let rest = suc (place f xs) in pick (f x) 0 rest

-- where a list starts, and where its last node stands: the end mark where it has none
abbrev pub start_of : List Segment → ℕ
start_of [] = end_mark
start_of (s ∷ ss) = s.offset

abbrev pub last_of : List Segment → ℕ
last_of [] = end_mark
last_of (s ∷ []) = s.offset
last_of (s ∷ t ∷ ss) = last_of (t ∷ ss)

-- a place with so many segments before it: the nodes on both sides
pub record Stands (segs : List Segment) (index prev next : ℕ) : Type 0 where
  pub behind : prev ≡ last_of (take index segs)
  pub ahead : next ≡ start_of (drop index segs)

-- the place of the first that passes a test
pub record Spotted (segs : List Segment) (f : Segment → Bool) (prev next index : ℕ) : Type 0 where
  pub at : index ≡ place f segs
  pub stands : Stands segs index prev next

-- a list with x before its k-th element, and one without its k-th
abbrev pub insert_at : {A : Type 0} → ℕ → A → List A → List A
insert_at k x xs = take k xs ++ x ∷ drop k xs

abbrev pub remove_at : {A : Type 0} → ℕ → List A → List A
remove_at k xs = take k xs ++ drop (suc k) xs
