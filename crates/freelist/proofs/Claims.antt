-- Marks find the shared bytes. Segments that claim their marks in turn share no cell that has a mark; windows that follow each other make one; and segments
-- in range share a byte exactly where they share a cell.
-- Assumes nothing.
use mathlib.Core.Path.{◌≡◌, refl, sym, subst, ap, ◌∙◌}
use Rattle.std.specs.List.{AllByRecursion as Each}
use mathlib.Core.Logic.{◌↔◌, inl, inr}
use mathlib.Core.Bool.{Bool, true, false}
use mathlib.Core.List.{List, [], ◌∷◌}
use Prim.Native.Nat.{ℕ, ◌+◌, ◌-◌, ◌*◌, ◌/◌, min, ◌≤◌, ◌<◌}
use native.Mathlib.Nat.{zero-div}
use native.Mathlib.Decide.{dec_le}
use native.Mathlib.Omega.{arith}
use lib.ListN.{length, replicate, get_or-replicate}
use Rattle.records.proofs.Facts.{fails}
use Rattle.records.specs.declared.Segment.{Segment}
use Rattle.freelist.specs.Segs.{Pairwise, Apart, InRange, end_of, passed}
use Rattle.freelist.specs.Split.{apartb}
use Rattle.freelist.specs.Marks.{Touches, Free, mark_at, Unset, Marked, Tells}
use Rattle.freelist.proofs.Listing.{all_map, all_both, pairs_map}
use Rattle.freelist.proofs.Aparts.{tested_apart, apart_tested}

-- the cell base has the first mark: those of the cells of s are not set
abbrev pub Blank : ℕ → List ℕ → Segment → Type 0
Blank base marks s = (c : ℕ) → base ≤ c → c < base + length marks * 64 → Touches s c → mark_at marks (c - base) ≡ 0

-- no two of these segments share a cell of those that have a mark, and none has a cell whose mark is set
abbrev pub Claimable : ℕ → List ℕ → List Segment → Type 0
Claimable base marks ss = Each (Blank base marks) ss × Pairwise (Free base (base + length marks * 64)) ss

-- an answer that is known
pub tells_yes : (r : Bool) (P : Type 0) → r ≡ true → Tells r P → P
tells_yes r P e t = rw e at t

pub tells_no : (r : Bool) (P : Type 0) → r ≡ false → Tells r P → P → ⊥
tells_no r P e t = rw e at t

-- one turn: the marks of s stand from a up to b
module _ (base : ℕ) (were : List ℕ) (s : Segment) (a b : ℕ) (from : a ≡ min (s.offset / 8 - base) (length were * 64)) (to : b ≡ min ((end_of s + 7) / 8 - base) (length were * 64)) where
  unset_blank : Unset were a b → Blank base were s
  unset_blank u c l h k = u (c - base) (omega arith) (omega arith)

  blank_unset : Blank base were s → Unset were a b
  blank_unset f i l h =
      let j : base + i - base ≡ i = omega arith in
      ap (mark_at were) (sym j) ∙ f (base + i) (omega arith) (omega arith) (omega arith, omega arith)

  -- s is the first of these segments
  module _ (ss all : List Segment) (parts : all ≡ s ∷ ss) where
    pub claim_hit : (Unset were a b → ⊥) → Claimable base were all → ⊥
    claim_hit f h = let g : Claimable base were (s ∷ ss) = rw parts at h in f (blank_unset g.0.0)

    -- the marks once it has set its own
    module _ (are : List ℕ) (same : length are ≡ length were) (m : Marked were a b are) where
      -- a segment finds its own unset then exactly where it did so before and shares no cell that has a mark with s
      after_blank : (t : Segment) → Blank base are t → Blank base were t × Free base (base + length were * 64) s t
      after_blank t f = (λ c l h k. sym (m.others (c - base) (λ x y. clash c l h (omega arith, omega arith) k)) ∙ f c l (omega arith) k, clash)
        where
          clash : (c : ℕ) → base ≤ c → c < base + length were * 64 → Touches s c → Touches t c → ⊥
          clash c l h j k =
              let e : ◌≡◌ {A = ℕ} 1 0 = sym (m.own (c - base) (omega arith) (omega arith)) ∙ f c l (omega arith) k in
              omega arith

      blank_after : (t : Segment) → Blank base were t → Free base (base + length were * 64) s t → Blank base are t
      blank_after t f g c l h k =
          m.others (c - base) (λ x y. g c l (omega arith) (omega arith, omega arith) k) ∙ f c l (omega arith) k

      pub claim_goes : Unset were a b → Claimable base were all ↔ Claimable base are ss
      claim_goes u = (down, up)
        where
          down : Claimable base were all → Claimable base are ss
          down h =
              let g : Claimable base were (s ∷ ss) = rw parts at h in
              (all_both (Blank base were) (Free base (base + length were * 64) s) (Blank base are) blank_after ss g.0.1 g.1.0, rw same g.1.1)

          up : Claimable base are ss → Claimable base were all
          up h =
              let first = all_map (Blank base are) (Blank base were) (λ t x. (after_blank t x).0) ss h.0 in
              let free = all_map (Blank base are) (Free base (base + length were * 64) s) (λ t x. (after_blank t x).1) ss h.0 in
              rw parts ((unset_blank u, first), (free, subst (λ (n : ℕ). Pairwise (Free base (base + n * 64)) ss) same h.1))

-- no node is left
pub claim_left : (w : ℕ → ℕ) (base : ℕ) (marks : List ℕ) (k p : ℕ) → k ≤ 0 → Claimable base marks (passed w k p)
claim_left w base marks k p h = let e : k ≡ 0 = omega arith in rw e (tt, tt)

-- what holds of every segment
all_any : (P : Segment → Type 0) → ((s : Segment) → P s) → (ss : List Segment) → Each P ss
all_any P f [] = tt
all_any P f (s ∷ ss) = (f s, all_any P f ss)

-- new marks, none of which is set: segments can claim them where they share no cell
module _ (base : ℕ) (marks : List ℕ) (new : marks ≡ replicate (length marks) 0) where
  new_unset : (i : ℕ) → i < length marks * 64 → mark_at marks i ≡ 0
  unfolding mark_at
  new_unset i h =
      ap (λ (l : List ℕ). mark_at l i) new ∙ rw (get_or-replicate {A = ℕ} (length marks) (i / 64) 0 0 (omega arith), zero-div) refl

  pub new_claimable : (ss : List Segment) → Pairwise (Free base (base + length marks * 64)) ss ↔ Claimable base marks ss
  new_claimable ss =
      (λ f. (all_any (Blank base marks) (λ s c l h k. new_unset (c - base) (omega arith)) ss, f), λ f. f.1)

-- windows: one in another, two of which the second follows the first, one with no cell
pub free_part : (lo hi from to : ℕ) (ss : List Segment) → lo ≤ from → to ≤ hi → Pairwise (Free lo hi) ss → Pairwise (Free from to) ss
free_part lo hi from to [] a b f = tt
free_part lo hi from to (s ∷ ss) a b f =
    (all_map (Free lo hi s) (Free from to s) (λ t g c l h. g c (omega arith) (omega arith)) ss f.0, free_part lo hi from to ss a b f.1)

pub free_join : (lo mid hi : ℕ) (ss : List Segment) → Pairwise (Free lo mid) ss → Pairwise (Free mid hi) ss → Pairwise (Free lo hi) ss
free_join lo mid hi [] f g = tt
free_join lo mid hi (s ∷ ss) f g =
    (all_both (Free lo mid s) (Free mid hi s) (Free lo hi s) join ss f.0 g.0, free_join lo mid hi ss f.1 g.1)
  where
    join : (t : Segment) → Free lo mid s t → Free mid hi s t → Free lo hi s t
    join t x y c l h = go (dec_le mid c)
      where
        go : Dec (mid ≤ c) → Touches s c → Touches t c → ⊥
        go (yes k) = y c k h
        go (no k) = x c l (omega arith)

pub free_none : (lo hi : ℕ) (ss : List Segment) → hi ≤ lo → Pairwise (Free lo hi) ss
free_none lo hi [] e = tt
free_none lo hi (s ∷ ss) e = (all_any (Free lo hi s) (λ t c l h j k. omega arith) ss, free_none lo hi ss e)

-- segments in range are apart exactly where they share no cell below their top
module _ (top hi : ℕ) (enough : top ≤ hi * 8) where
  apart_free : (s t : Segment) → InRange 0 top s → InRange 0 top t → Apart s t → Free 0 hi s t
  apart_free s t a b (inl h) c x y j k = omega arith
  apart_free s t a b (inr h) c x y j k = omega arith

  free_apart : (s t : Segment) → InRange 0 top s → InRange 0 top t → Free 0 hi s t → Apart s t
  free_apart s t a b f = go (dec_le (end_of s) t.offset) (dec_le (end_of t) s.offset) (dec_le s.offset t.offset)
    where
      go : Dec (end_of s ≤ t.offset) → Dec (end_of t ≤ s.offset) → Dec (s.offset ≤ t.offset) → Apart s t
      go (yes h) g e = inl h
      go (no h) (yes g) e = inr g
      go (no h) (no g) (yes e) = absurd (f (t.offset / 8) (omega arith) (omega arith) (omega arith, omega arith) (omega arith, omega arith))
      go (no h) (no g) (no e) = absurd (f (s.offset / 8) (omega arith) (omega arith) (omega arith, omega arith) (omega arith, omega arith))

  -- so the test by marks is the test pair by pair, where the marks reach the top
  pub marks_apart : (ss : List Segment) → Each (InRange 0 top) ss → (r : Bool) → Tells r (Pairwise (Free 0 hi) ss) → r ≡ apartb ss
  marks_apart ss a true f = sym (apart_tested ss (pairs_map (Free 0 hi) Apart (InRange 0 top) free_apart ss a f))
  marks_apart ss a false f =
      sym (fails (apartb ss) (λ e. f (pairs_map Apart (Free 0 hi) (InRange 0 top) apart_free ss a (tested_apart ss e))))
