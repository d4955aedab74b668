-- The turns of `find_place` as laws over plain values, and what a place tells of the nodes on its sides.
-- Assumes nothing.
use mathlib.Core.Path.{◌≡◌, refl, sym, ap, ◌∙◌}
use Rattle.std.specs.List.{AllByRecursion as Each}
use mathlib.Core.Logic.{◌≢◌}
use mathlib.Core.Bool.{Bool, true, false}
use mathlib.Core.List.{List, [], ◌∷◌, ◌++◌, append_assoc}
use Prim.Native.Nat.{ℕ, zero, suc, ◌+◌, ◌≤◌, ◌<◌}
use native.Mathlib.Nat.{add-zero}
use native.Mathlib.Omega.{arith}
use lib.ListN.{length, length-append, take, drop, get_or, length-drop}
use lib.Seq.{take_at, drop_at}
use Rattle.words.specs.Word.{word_at, end_mark}
use Rattle.records.specs.declared.Segment.{Segment}
use Rattle.freelist.specs.Segs.{Run, EndsBy, seg_at, next_at}
use Rattle.freelist.specs.Place.{place, start_of, last_of, Stands, Spotted}
use Rattle.freelist.specs.Link.{link_bytes, link_head, remove_bytes, remove_head, Removed}
use Rattle.freelist.proofs.Listing.{all_append, all_sides}
use Rattle.freelist.proofs.Links.{last_in, start_small}
use Rattle.freelist.proofs.Places.{place_past}
use Rattle.freelist.proofs.Runs.{run_start}

-- the place between a part that fails and a part whose first passes
spotted : (f : Segment → Bool) (a b : List Segment) (n : ℕ) → length a ≡ n → Each (λ s. f s ≡ false) a → place f b ≡ 0 → Spotted (a ++ b) f (last_of a) (start_of b) n
spotted f a b n h e z =
    record {
      at = sym (place_past f a b e ∙ rw (z, h) (add-zero n));
      stands = record { behind = sym (ap last_of (take_at a b n h)); ahead = sym (ap start_of (drop_at a b n h)) };
    }

-- `seen` were passed, each failing, the last of them at prev; `left` are still to come
pub record Seeking (f : Segment → Bool) (all left : List Segment) (prev index : ℕ) : Type 0 where
  pub seen : List Segment
  pub parts : all ≡ seen ++ left
  pub counted : length seen ≡ index
  pub latest : prev ≡ last_of seen
  pub fails : Each (λ s. f s ≡ false) seen

pub one_more : (all : List Segment) (s : Segment) (ss : List Segment) → all ≡ s ∷ ss → length all ≡ length ss + 1
one_more all s ss e = rw e (omega arith)

last_snoc : (ss : List Segment) (s : Segment) → last_of (ss ++ s ∷ []) ≡ s.offset
last_snoc [] s = refl
last_snoc (t ∷ []) s = refl
last_snoc (t ∷ u ∷ ss) s = last_snoc (u ∷ ss) s

module _ (f : Segment → Bool) (all : List Segment) where
  pub seek_begins : Seeking f all all end_mark 0
  seek_begins = record { seen = []; parts = refl; counted = refl; latest = refl; fails = tt }

  module _ (left : List Segment) (prev index : ℕ) (k : Seeking f all left prev index) where
    pub seek_hit : (s : Segment) (ss : List Segment) → left ≡ s ∷ ss → f s ≡ true → Spotted all f prev s.offset index
    seek_hit s ss e h = rw (k.parts, k.latest, e) (spotted f k.seen (s ∷ ss) index k.counted k.fails (rw h refl))

    pub seek_none : left ≡ [] → Spotted all f prev end_mark index
    seek_none e = rw (k.parts, k.latest, e) (spotted f k.seen [] index k.counted k.fails refl)

    pub seek_miss : (s : Segment) (ss : List Segment) → left ≡ s ∷ ss → f s ≡ false → Seeking f all ss s.offset (index + 1)
    seek_miss s ss e h =
        record {
          seen = k.seen ++ s ∷ [];
          parts = k.parts ∙ rw (e, append_assoc) refl;
          counted = rw (length-append, k.counted) refl;
          latest = sym (last_snoc k.seen s);
          fails = all_append (λ s. f s ≡ false) k.seen (s ∷ []) k.fails (h, tt);
        }

-- the node before a place is one of the list's, and the one after it too
last_or_end : (n : ℕ) (ss : List Segment) → Each (EndsBy n) ss → last_of ss ≢ end_mark → last_of ss + 8 ≤ n
last_or_end n [] e h = absurd (h refl)
last_or_end n (s ∷ ss) e h = last_in n s ss e

module _ (n : ℕ) (segs : List Segment) (index prev next : ℕ) (k : Stands segs index prev next) (e : Each (EndsBy n) segs) where
  sides : Each (EndsBy n) (take index segs) × Each (EndsBy n) (drop index segs)
  sides = all_sides (EndsBy n) index segs e

  pub prev_in : prev ≢ end_mark → prev + 8 ≤ n
  prev_in h = rw k.behind (last_or_end n (take index segs) sides.0 (rw k.behind at h))

  pub next_small : n < 4294967295 → next < 4294967296
  next_small h = rw k.ahead (start_small n (drop index segs) h sides.1)

  pub next_in : index < length segs → next + 8 ≤ n
  next_in h = rw k.ahead (start_in (drop index segs) (simp length-drop (omega arith)) sides.1)
    where
      start_in : (ss : List Segment) → 0 < length ss → Each (EndsBy n) ss → start_of ss + 8 ≤ n
      start_in [] h a = absurd (omega arith)
      start_in (s ∷ ss) h a = omega (arith, a.0)

-- the node after the one at a place
pub run_at : (w : ℕ → ℕ) (p index : ℕ) (segs : List Segment) → Run w p segs end_mark → index < length segs → next_at w (start_of (drop index segs)) ≡ start_of (drop (suc index) segs)
run_at w p index [] r h = absurd (omega arith)
run_at w p zero (s ∷ ss) r h = rw r.1 (run_start w (next_at w p) ss r.2)
run_at w p (suc index) (s ∷ ss) r h = run_at w (next_at w p) index ss r.2 (omega arith)

-- what the code of `remove` leaves
pub removed : (l l₁ : List ℕ) (segs : List Segment) (head r index prev at next : ℕ) → Stands segs index prev at → Run (word_at l) head segs end_mark
    → index < length segs → next ≡ next_at (word_at l) at → (l₁ ≡ link_bytes l prev next) × (r ≡ link_head head prev next) → Removed l segs head index l₁ r
unfolding remove_bytes remove_head
removed l l₁ segs head r index prev at next k run h e g =
    let b : next ≡ start_of (drop (suc index) segs) = e ∙ rw k.ahead (run_at (word_at l) head index segs run h) in
    record { bytes = rw (← k.behind, ← b) g.0; starts = rw (← k.behind, ← b) g.1 }

-- the node at a place is the segment there
pub run_node : (w : ℕ → ℕ) (p m index : ℕ) (segs : List Segment) (d : Segment) → Run w p segs m → index < length segs → get_or segs index d ≡ seg_at w (start_of (drop index segs))
run_node w p m index [] d r h = absurd (omega arith)
run_node w p m zero (s ∷ ss) d r h = rw r.1 refl
run_node w p m (suc index) (s ∷ ss) d r h = run_node w (next_at w p) m index ss d r.2 (omega arith)
