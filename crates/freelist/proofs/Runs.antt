-- Laws of runs of nodes, over any reading `w` of words: they join and split, they are the nodes that a walk passes, and they look at their own words only.
-- Assumes nothing.
use mathlib.Core.Path.{◌≡◌, refl, sym, ap, ◌∙◌}
use Rattle.std.specs.List.{AllByRecursion as Each}
use mathlib.Core.List.{List, [], ◌∷◌, ◌++◌}
use Prim.Native.Nat.{ℕ, zero, suc, ◌+◌, ◌-◌, ◌<◌}
use native.Mathlib.Nat.{zero-add}
use native.Mathlib.Omega.{arith}
use lib.ListN.{length}
use Rattle.words.specs.Word.{end_mark}
use Rattle.records.specs.declared.Order.{Order}
use Rattle.records.specs.declared.Segment.{Segment}
use Rattle.freelist.specs.Segs.{Run, seg_at, next_at, leads, followed, passed}
use Rattle.freelist.specs.Place.{start_of, last_of}
use Rattle.freelist.specs.Check.{follows}

module _ (w : ℕ → ℕ) where
  pub run_append : (p m q : ℕ) (a b : List Segment) → Run w p a m → Run w m b q → Run w p (a ++ b) q
  run_append p m q [] b h k = rw h k
  run_append p m q (s ∷ a) b h k = (h.0, h.1, run_append (next_at w p) m q a b h.2 k)

  pub run_split : (p q : ℕ) (a b : List Segment) → Run w p (a ++ b) q → (m : ℕ) × Run w p a m × Run w m b q
  run_split p q [] b h = (p, refl, h)
  run_split p q (s ∷ a) b h =
      let r = run_split (next_at w p) q a b h.2 in
      (r.0, (h.0, h.1, r.1), r.2)

  -- a run is the nodes that a walk of as many steps passes, and ends where that walk stands
  pub run_followed : (p q : ℕ) (a : List Segment) → Run w p a q → (n : ℕ) → n ≡ length a → followed w n p ≡ q
  run_followed p q [] h n e = rw e h
  run_followed p q (s ∷ a) h n e = rw e (run_followed (next_at w p) q a h.2 (length a) refl)

  pub run_passed : (p q : ℕ) (a : List Segment) → Run w p a q → (n : ℕ) → n ≡ length a → passed w n p ≡ a
  run_passed p q [] h n e = rw e refl
  run_passed p q (s ∷ a) h n e = rw (e, h.1, run_passed (next_at w p) q a h.2 (length a) refl) refl

  -- a walk of one step more, at its end and at its start
  pub passed_snoc : (n p : ℕ) → passed w (suc n) p ≡ passed w n p ++ seg_at w (followed w n p) ∷ []
  passed_snoc zero p = refl
  passed_snoc (suc n) p = ap (λ (l : List Segment). seg_at w p ∷ l) (passed_snoc n (next_at w p))

  pub followed_suc : (n p : ℕ) → followed w (suc n) p ≡ next_at w (followed w n p)
  followed_suc zero p = refl
  followed_suc (suc n) p = followed_suc n (next_at w p)

  pub passed_pop : (n p : ℕ) → 0 < n → passed w n p ≡ seg_at w p ∷ passed w (n - 1) (next_at w p)
  passed_pop n p h = let e : n ≡ suc (n - 1) = omega arith in ap (λ (k : ℕ). passed w k p) e

  pub all_pop : (P : Segment → Type 0) (n p : ℕ) → 0 < n → Each P (passed w n p) → P (seg_at w p) × Each P (passed w (n - 1) (next_at w p))
  all_pop P n p h a = rw (passed_pop n p h) at a

  -- a walk in two parts, and the last of the nodes that were passed
  pub passed_split : (m n p : ℕ) → passed w (m + n) p ≡ passed w m p ++ passed w n (followed w m p)
  passed_split zero n p = rw zero-add refl
  passed_split (suc m) n p = let e : suc m + n ≡ suc (m + n) = omega arith in rw e (ap (λ (l : List Segment). seg_at w p ∷ l) (passed_split m n (next_at w p)))

  pub last_passed : (n p : ℕ) → last_of (passed w (suc n) p) ≡ followed w n p
  last_passed zero p = refl
  last_passed (suc n) p = last_passed n (next_at w p)

  pub length-passed : (n p : ℕ) → length (passed w n p) ≡ n
  length-passed zero p = refl
  length-passed (suc n) p = ap suc (length-passed n (next_at w p))

  last_follows : (o : Order) (n p : ℕ) (t : Segment) → follows o (passed w (suc n) p) t ≡ leads o (seg_at w (followed w n p)) t
  last_follows o zero p t = refl
  last_follows o (suc n) p t = last_follows o n (next_at w p) t

  pub passed-follows : (o : Order) (n p : ℕ) (t : Segment) → 0 < n → follows o (passed w n p) t ≡ leads o (seg_at w (followed w (n - 1) p)) t
  passed-follows o n p t h =
      let e : n ≡ suc (n - 1) = omega arith in
      ap (λ (k : ℕ). follows o (passed w k p) t) e ∙ last_follows o (n - 1) p t

-- a run looks only at its own words
pub run_agree : (w v : ℕ → ℕ) (p q : ℕ) (a : List Segment) → Each (λ s. v s.offset ≡ w s.offset) a → Run w p a q → Run v p a q
run_agree w v p q [] e h = h
run_agree w v p q (s ∷ a) e h =
    let o : s.offset ≡ p = ap (λ (t : Segment). t.offset) h.1 in
    let k : v p ≡ w p = rw o at e.0 in
    (h.0, rw k h.1, rw k (run_agree w v (next_at w p) q a e.1 h.2))

-- a run starts where its first node stands
pub run_start : (w : ℕ → ℕ) (p : ℕ) (ss : List Segment) → Run w p ss end_mark → p ≡ start_of ss
run_start w p [] h = h
run_start w p (s ∷ ss) h = sym (ap (λ (t : Segment). t.offset) h.1)
