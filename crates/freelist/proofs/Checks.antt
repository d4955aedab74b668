-- The check of a list by computation says yes exactly for a sound list, and keeps exactly its segments.
-- `kept` is joined to `Run` for any test, by `Steps` (each node passed the test, told those before); the test `may_follow` is joined to `Good` without the walk.
-- The walk by `may_come`, without the test of the bytes, keeps a sound list whole too, and all that it keeps is in range and in order.
-- That the check's bound of length / 16 nodes loses none is the counting law `few`. Assumes nothing.
use mathlib.Core.Path.{◌≡◌, refl, ap, ◌∙◌, subst}
use Rattle.std.specs.List.{AllByRecursion as Each}
use mathlib.Core.Bool.{Bool, true, false, ◌&&◌, not}
use mathlib.Core.List.{List, [], ◌∷◌, ◌++◌, append_assoc, append-nil}
use Prim.Native.Nat.{ℕ, zero, suc, ◌/◌, ◌%◌, ◌≤◌}
use native.Mathlib.Omega.{arith}
use lib.Dec.{eqb}
use borrow.Author.Tests.{eqb-true, eqb-false, eq-eqb, ne_eqb, leb-true, le-leb, not-true}
use lib.ListN.{length}
use Rattle.words.specs.Word.{word_at, end_mark}
use Rattle.words.specs.Pick.{pick}
use Rattle.records.specs.Setup.{limit}
use Rattle.records.specs.declared.Order.{Order}
use Rattle.records.specs.declared.Order.TheVariants.{Optimistic, Pessimistic}
use Rattle.records.proofs.Facts.{both, fails}
use Rattle.records.specs.declared.Segment.{Segment}
use Rattle.freelist.specs.Segs.{Run, Pairwise, Apart, InRange, EndsBy, Leads, Good, Listed, seg_at, next_at, end_of, followed, passed}
use Rattle.freelist.specs.Check.{kept, in_range, follows, may_follow, good_run, soundb}
use Rattle.freelist.specs.Split.{may_come, ranged_run}
use Rattle.freelist.proofs.Listing.{all_map, all_append, all_split, pairs_snoc, pairs_at}
use Rattle.freelist.proofs.Meets.{apart_all, meets_none}
use Rattle.freelist.proofs.Runs.{run_followed, run_passed}
use Rattle.freelist.proofs.Totals.{few}

-- each of these passed the test, told what came before
abbrev Steps : (List Segment → Segment → Bool) → List Segment → List Segment → Type 0
Steps ok seen [] = Unit {0}
Steps ok seen (s ∷ ss) = (ok seen s ≡ true) × Steps ok (seen ++ s ∷ []) ss

module _ (w : ℕ → ℕ) (ok : List Segment → Segment → Bool) where
  -- what `kept` keeps is a run whose nodes pass the test
  abbrev Kept : List Segment → ℕ → List Segment → Type 0
  Kept seen p ss = Run w p ss (followed w (length ss) p) × Steps ok seen ss

  keep : (x y : Bool) (p : ℕ) (seen rest : List Segment) → eqb p end_mark ≡ x → ok seen (seg_at w p) ≡ y → Kept (seen ++ seg_at w p ∷ []) (next_at w p) rest
      → Kept seen p (pick (not x && y) (seg_at w p ∷ rest) [])
  keep true y p seen rest e f h = (refl, tt)
  keep false true p seen rest e f h = ((eqb-false p end_mark e, refl, h.0), (f, h.1))
  keep false false p seen rest e f h = (refl, tt)

  kept_is : (n : ℕ) (seen : List Segment) (p : ℕ) → Kept seen p (kept n w ok seen p)
  unfolding kept
  kept_is zero seen p = (refl, tt)
  kept_is (suc n) seen p =
      keep (eqb p end_mark) (ok seen (seg_at w p)) p seen (kept n w ok (seen ++ seg_at w p ∷ []) (next_at w p)) refl refl
      (kept_is n (seen ++ seg_at w p ∷ []) (next_at w p))

  -- a run to the end mark whose nodes pass the test is kept whole
  kept_whole : (n : ℕ) (seen : List Segment) (p : ℕ) (ss : List Segment) → length ss ≤ n → Run w p ss end_mark → Steps ok seen ss → kept n w ok seen p ≡ ss
  unfolding kept
  kept_whole zero seen p [] l r k = refl
  kept_whole zero seen p (s ∷ ss) l r k = absurd (omega arith)
  kept_whole (suc n) seen p [] l r k = rw (eq-eqb p end_mark r) refl
  kept_whole (suc n) seen p (s ∷ ss) l r k =
      let f : ok seen (seg_at w p) ≡ true = rw r.1 at k.0 in
      let g : Steps ok (seen ++ seg_at w p ∷ []) ss = rw r.1 at k.1 in
      rw (ne_eqb p end_mark r.0, f, kept_whole n (seen ++ seg_at w p ∷ []) (next_at w p) ss (omega arith) r.2 g, r.1)

-- the tests of one node
module _ (start top : ℕ) (s : Segment) where
  pub in_range_lem : in_range start top s ≡ true → InRange start top s
  unfolding in_range
  in_range_lem e =
      let a = both _ _ e in
      let b = both _ _ a.0 in
      let c = both _ _ b.0 in
      record { aligned = eqb-true _ _ c.0; above = leb-true _ _ c.1; holds = leb-true _ _ b.1; below = leb-true _ _ a.1 }

  pub range_test : InRange start top s → in_range start top s ≡ true
  unfolding in_range
  range_test h =
      rw (eq-eqb (s.offset % 8) 0 h.aligned, le-leb start s.offset h.above, le-leb 1 s.size h.holds, le-leb (end_of s) top h.below) refl

  pub range_no : (InRange start top s → ⊥) → in_range start top s ≡ false
  range_no h = fails (in_range start top s) (λ e. h (in_range_lem e))

pub leads_trans : (o : Order) (s t u : Segment) → Leads o s t → Leads o t u → Leads o s u
leads_trans Optimistic s t u h k = omega (arith, leb-true, le-leb)
leads_trans Pessimistic s t u h k = omega (arith, leb-true, le-leb)

-- in a sorted list the test of the last node is that of each
follows_all : (o : Order) (ss : List Segment) (t : Segment) → Pairwise (Leads o) ss → follows o ss t ≡ true → Each (λ s. Leads o s t) ss
follows_all o [] t h e = tt
follows_all o (s ∷ []) t h e = (e, tt)
follows_all o (s ∷ u ∷ us) t h e =
    let r = follows_all o (u ∷ us) t h.1 e in
    (leads_trans o s u t h.0.0 r.0, r)

all_follows : (o : Order) (ss : List Segment) (t : Segment) → Each (λ s. Leads o s t) ss → follows o ss t ≡ true
all_follows o [] t h = refl
all_follows o (s ∷ []) t h = h.0
all_follows o (s ∷ u ∷ us) t h = all_follows o (u ∷ us) t h.1

-- the answers of `may_come`, in the order of its tests
module _ (start top : ℕ) (o : Order) (seen : List Segment) (t : Segment) where
  pub come_no_range : in_range start top t ≡ false → may_come start top o seen t ≡ false
  unfolding may_come
  come_no_range a = rw a refl

  pub come_no_order : in_range start top t ≡ true → follows o seen t ≡ false → may_come start top o seen t ≡ false
  unfolding may_come
  come_no_order a b = rw (a, b) refl

  pub come_yes : in_range start top t ≡ true → follows o seen t ≡ true → may_come start top o seen t ≡ true
  unfolding may_come
  come_yes a b = rw (a, b) refl

module _ (start top : ℕ) (o : Order) where
  good_nil : Good start top o []
  good_nil = record { ranged = tt; apart = tt; sorted = tt }

  good_snoc : (ss : List Segment) (t : Segment) → Good start top o ss → may_follow start top o ss t ≡ true → Good start top o (ss ++ t ∷ [])
  unfolding may_follow
  good_snoc ss t g e =
      let a = both _ _ e in
      let b = both _ _ a.0 in
      record {
        ranged = all_append (InRange start top) ss (t ∷ []) g.ranged (in_range_lem start top t b.0, tt);
        apart = pairs_snoc Apart ss t g.apart (apart_all ss t (not-true _ a.1));
        sorted = pairs_snoc (Leads o) ss t g.sorted (follows_all o ss t g.sorted b.1);
      }

  good_test : (ss : List Segment) (t : Segment) (us : List Segment) → Good start top o (ss ++ t ∷ us) → may_follow start top o ss t ≡ true
  unfolding may_follow
  good_test ss t us g =
      rw (
        range_test start top t (all_split (InRange start top) ss (t ∷ us) g.ranged).1.0,
        all_follows o ss t (pairs_at (Leads o) ss t us g.sorted),
        meets_none ss t (pairs_at Apart ss t us g.apart),
      )
      refl

  -- a list is good exactly where each of its nodes passes the test
  steps_good : (seen ss : List Segment) → Good start top o seen → Steps (may_follow start top o) seen ss → Good start top o (seen ++ ss)
  steps_good seen [] g h = rw append-nil g
  steps_good seen (s ∷ ss) g h = rw append_assoc at (steps_good (seen ++ s ∷ []) ss (good_snoc seen s g h.0) h.1)

  good_steps : (seen ss : List Segment) → Good start top o (seen ++ ss) → Steps (may_follow start top o) seen ss
  good_steps seen [] g = tt
  good_steps seen (s ∷ ss) g =
      (good_test seen s ss g, good_steps (seen ++ s ∷ []) ss (rw append_assoc g))

  -- what `may_follow` lets pass comes in range and in order
  follow_comes : (seen ss : List Segment) → Steps (may_follow start top o) seen ss → Steps (may_come start top o) seen ss
  unfolding may_follow may_come
  follow_comes seen [] h = tt
  follow_comes seen (s ∷ ss) h = ((both _ _ h.0).0, follow_comes (seen ++ s ∷ []) ss h.1)

  comes_ranged : (seen ss : List Segment) → Steps (may_come start top o) seen ss → Each (InRange start top) ss
  unfolding may_come
  comes_ranged seen [] h = tt
  comes_ranged seen (s ∷ ss) h = (in_range_lem start top s (both _ _ h.0).0, comes_ranged (seen ++ s ∷ []) ss h.1)

  comes_sorted : (seen ss : List Segment) → Pairwise (Leads o) seen → Steps (may_come start top o) seen ss → Pairwise (Leads o) (seen ++ ss)
  unfolding may_come
  comes_sorted seen [] g h = rw append-nil g
  comes_sorted seen (s ∷ ss) g h =
      rw append_assoc at (comes_sorted (seen ++ s ∷ []) ss (pairs_snoc (Leads o) seen s g (follows_all o seen s g (both (in_range start top s) (follows o seen s) h.0).1)) h.1)

module _ (l : List ℕ) (head start top : ℕ) (o : Order) where
  -- the longest good run: a run, and good
  pub good_is_run : Run (word_at l) head (good_run l head start top o) (followed (word_at l) (length (good_run l head start top o)) head)
  unfolding good_run
  good_is_run = (kept_is (word_at l) (may_follow start top o) (length l / 16) [] head).0

  pub good_good : Good start top o (good_run l head start top o)
  unfolding good_run
  good_good = steps_good start top o [] _ (good_nil start top o) (kept_is (word_at l) (may_follow start top o) (length l / 16) [] head).1

  -- the longest run in range and in order
  pub ranged_is_run : Run (word_at l) head (ranged_run l head start top o) (followed (word_at l) (length (ranged_run l head start top o)) head)
  unfolding ranged_run
  ranged_is_run = (kept_is (word_at l) (may_come start top o) (length l / 16) [] head).0

  pub ranged_ranged : Each (InRange start top) (ranged_run l head start top o)
  unfolding ranged_run
  ranged_ranged =
      comes_ranged start top o [] (kept (length l / 16) (word_at l) (may_come start top o) [] head)
      (kept_is (word_at l) (may_come start top o) (length l / 16) [] head).1

  pub ranged_sorted : Pairwise (Leads o) (ranged_run l head start top o)
  unfolding ranged_run
  ranged_sorted =
      comes_sorted start top o [] (kept (length l / 16) (word_at l) (may_come start top o) [] head) tt
      (kept_is (word_at l) (may_come start top o) (length l / 16) [] head).1

  -- where the check says yes, it is the list
  pub checked_listed : length l ≤ limit → 1 ≤ start → start ≤ top → top ≤ length l → soundb l head start top o ≡ true → Listed l head start top o (good_run l head start top o)
  unfolding soundb
  checked_listed a b c d e =
      record {
        limited = a;
        starts = b;
        ordered = c;
        inside = d;
        run = subst (λ (q : ℕ). Run (word_at l) head (good_run l head start top o) q) (eqb-true _ _ e) good_is_run;
        good = good_good;
      }

  module _ (segs : List Segment) (s : Listed l head start top o segs) where
    -- 01: at most cap / 16 nodes
    pub listed_few : length segs ≤ length l / 16
    listed_few = omega (arith, few start top segs s.starts s.good.ranged s.good.apart, s.inside)

    -- a list is the longest good run, and so there is one only, and the check says yes
    pub listed_run : good_run l head start top o ≡ segs
    unfolding good_run
    listed_run =
        kept_whole (word_at l) (may_follow start top o) (length l / 16) [] head segs listed_few s.run
        (good_steps start top o [] segs s.good)

    -- nor does the walk without the test of the bytes lose any
    pub listed_ranged : ranged_run l head start top o ≡ segs
    unfolding ranged_run
    listed_ranged =
        kept_whole (word_at l) (may_come start top o) (length l / 16) [] head segs listed_few s.run
        (follow_comes start top o [] segs (good_steps start top o [] segs s.good))

    pub listed_checked : soundb l head start top o ≡ true
    unfolding soundb
    listed_checked =
        eq-eqb _ _ (ap (λ (ss : List Segment). followed (word_at l) (length ss) head) listed_run ∙ run_followed (word_at l) head end_mark segs s.run (length segs) refl)

    -- a list by the number of its nodes
    pub listed_passed : (n : ℕ) → n ≡ length segs → passed (word_at l) n head ≡ segs
    listed_passed = run_passed (word_at l) head end_mark segs s.run

    pub listed_followed : (n : ℕ) → n ≡ length segs → followed (word_at l) n head ≡ end_mark
    listed_followed = run_followed (word_at l) head end_mark segs s.run

    pub listed_ends : Each (EndsBy (length l)) segs
    listed_ends = all_map (InRange start top) (EndsBy (length l)) (λ t r. omega (arith, s.inside)) segs s.good.ranged
