-- The turns of `ranged_run` as laws over plain values: `kept` stops at its limit, at the end mark and at a node that fails, and goes on at any other.
-- Assumes nothing.
use mathlib.Core.Path.{◌≡◌, refl, sym, ap, ◌∙◌}
use mathlib.Core.Logic.{◌≢◌}
use mathlib.Core.Bool.{Bool, true, false, ◌&&◌, not}
use mathlib.Core.List.{List, [], ◌∷◌, ◌++◌, append_assoc, append-nil}
use Prim.Native.Nat.{ℕ, suc, ◌+◌, ◌-◌, ◌/◌, ◌≤◌, ◌<◌}
use native.Mathlib.Numerals.{add-one}
use native.Mathlib.Decide.{dec_le}
use native.Mathlib.Omega.{arith}
use borrow.Author.Tests.{eq-eqb, ne_eqb, eqb-true, eqb-false}
use lib.Dec.{eqb}
use lib.ListN.{length}
use Rattle.std.specs.Prelude.{Option, Some, None, option_map, unwrap_or}
use Rattle.std.specs.Bool.{then_some}
use Rattle.words.specs.Word.{word_at, end_mark}
use Rattle.words.specs.Pick.{pick}
use Rattle.records.specs.declared.Segment.{Segment}
use Rattle.freelist.specs.Segs.{seg_at, next_at, leads, followed, passed}
use Rattle.freelist.specs.Check.{kept, in_range, follows}
use Rattle.freelist.specs.Split.{may_come, ranged_run, Walked, Told}
use Rattle.records.specs.declared.Order.{Order}
use Rattle.freelist.proofs.Runs.{passed_snoc, followed_suc, length-passed, passed-follows}
use Rattle.freelist.proofs.Checks.{come_no_range, come_no_order, come_yes}

module _ (w : ℕ → ℕ) (ok : List Segment → Segment → Bool) (seen : List Segment) (p : ℕ) where
  kept_pop : (n : ℕ) → 0 < n → kept n w ok seen p ≡ pick (not (eqb p end_mark) && ok seen (seg_at w p)) (seg_at w p ∷ kept (n - 1) w ok (seen ++ seg_at w p ∷ []) (next_at w p)) []
  unfolding kept
  kept_pop n h =
      let e : n ≡ suc (n - 1) = omega arith in
      ap (λ (k : ℕ). kept k w ok seen p) e

  kept-limit : (n : ℕ) → n ≤ 0 → kept n w ok seen p ≡ []
  unfolding kept
  kept-limit n h = let e : n ≡ 0 = omega arith in rw e refl

  kept_end : (n : ℕ) → 0 < n → p ≡ end_mark → kept n w ok seen p ≡ []
  kept_end n h e = rw (kept_pop n h, eq-eqb p end_mark e) refl

  kept_fails : (n : ℕ) → 0 < n → p ≢ end_mark → ok seen (seg_at w p) ≡ false → kept n w ok seen p ≡ []
  kept_fails n h e f = rw (kept_pop n h, ne_eqb p end_mark e, f) refl

  kept_goes : (n : ℕ) → 0 < n → p ≢ end_mark → ok seen (seg_at w p) ≡ true → kept n w ok seen p ≡ seg_at w p ∷ kept (n - 1) w ok (seen ++ seg_at w p ∷ []) (next_at w p)
  kept_goes n h e f = rw (kept_pop n h, ne_eqb p end_mark e, f) refl

-- a walk that stands at p, by whether p is the end mark
pub walk_told : (l : List ℕ) (head count p : ℕ) (segs : List Segment) (r : Option ℕ) → Walked l head segs count p → r ≡ then_some (eqb p end_mark) count → Told l head segs r
walk_told l head count p segs r w e = rw e (go (eqb p end_mark) refl)
  where
    go : (b : Bool) → eqb p end_mark ≡ b → Told l head segs (then_some b count)
    go true h = rw (eqb-true p end_mark h) at w
    go false h = (count, p, w, eqb-false p end_mark h)

-- what holds after count nodes of the run, of which `last` is the last
pub record Walking (l : List ℕ) (head start top : ℕ) (o : Order) (limit count : ℕ) (last : Option Segment) (p : ℕ) : Type 0 where
  pub limited : limit ≡ length l / 16
  pub within : count ≤ limit
  pub stands : p ≡ followed (word_at l) count head
  pub none : count ≡ 0 → last ≡ None
  pub latest : 0 < count → last ≡ Some (seg_at (word_at l) (followed (word_at l) (count - 1) head))
  pub keeps : ranged_run l head start top o ≡ passed (word_at l) count head ++ kept (limit - count) (word_at l) (may_come start top o) (passed (word_at l) count head) p

module _ (l : List ℕ) (head start top : ℕ) (o : Order) where
  pub walk_begins : Walking l head start top o (length l / 16) 0 None head
  unfolding ranged_run
  walk_begins =
      let e : length l / 16 - 0 ≡ length l / 16 = omega arith in
      record { limited = refl; within = omega arith; stands = refl; none = λ h. refl; latest = λ h. absurd (omega arith); keeps = rw e refl }

  module _ (limit count : ℕ) (last : Option Segment) (p : ℕ) (k : Walking l head start top o limit count last p) where
    -- the run ends where nothing more is kept
    ended : kept (limit - count) (word_at l) (may_come start top o) (passed (word_at l) count head) p ≡ [] → Walked l head (ranged_run l head start top o) count p
    ended e = record { counted = sym (ap length k.keeps ∙ rw (e, append-nil) (length-passed (word_at l) count head)); stops = k.stands }

    pub walk_limit : limit ≤ count → Walked l head (ranged_run l head start top o) limit p
    walk_limit h =
        let e : limit ≡ count = omega (arith, k.within) in
        rw e (ended (kept-limit _ _ _ _ _ (omega arith)))

    pub walk_end : count < limit → p ≡ end_mark → Walked l head (ranged_run l head start top o) count p
    walk_end h e = ended (kept_end _ _ _ _ _ (omega arith) e)

    pub walk_no_range : count < limit → p ≢ end_mark → in_range start top (seg_at (word_at l) p) ≡ false → Walked l head (ranged_run l head start top o) count p
    walk_no_range h e f = ended (kept_fails _ _ _ _ _ (omega arith) e (come_no_range _ _ _ _ _ f))

    -- what the order says of a node at p, by the last node
    module _ (node : Segment) (is : node ≡ seg_at (word_at l) p) (r : Bool) (told : r ≡ unwrap_or (option_map (λ s. leads o s node) last) true) where
      order : follows o (passed (word_at l) count head) (seg_at (word_at l) p) ≡ r
      order = go (dec_le 1 count)
        where
          go : Dec (1 ≤ count) → follows o (passed (word_at l) count head) (seg_at (word_at l) p) ≡ r
          go (yes h) = passed-follows (word_at l) o count head (seg_at (word_at l) p) h ∙ sym (told ∙ rw (k.latest h, is) refl)
          go (no h) = let e : count ≡ 0 = omega arith in rw (told, k.none e, e) refl

      pub walk_no_order : count < limit → p ≢ end_mark → in_range start top (seg_at (word_at l) p) ≡ true → r ≡ false → Walked l head (ranged_run l head start top o) count p
      walk_no_order h e f g = ended (kept_fails _ _ _ _ _ (omega arith) e (come_no_order _ _ _ _ _ f (order ∙ g)))

      pub walk_goes : count < limit → p ≢ end_mark → in_range start top (seg_at (word_at l) p) ≡ true → r ≡ true
          → Walking l head start top o limit (count + 1) (Some node) (next_at (word_at l) p)
      walk_goes h e f g =
          let s : passed (word_at l) (count + 1) head ≡ passed (word_at l) count head ++ seg_at (word_at l) p ∷ [] = rw (add-one, passed_snoc, ← k.stands) refl in
          let a : followed (word_at l) (count + 1) head ≡ next_at (word_at l) p = rw (add-one, followed_suc, ← k.stands) refl in
          let m : count + 1 - 1 ≡ count = omega arith in
          let n : limit - (count + 1) ≡ limit - count - 1 = omega arith in
          let y : may_come start top o (passed (word_at l) count head) (seg_at (word_at l) p) ≡ true = come_yes _ _ _ _ _ f (order ∙ g) in
          record {
            limited = k.limited;
            within = omega arith;
            stands = sym a;
            none = λ z. absurd (omega arith);
            latest = λ h. rw (m, is, ← k.stands) refl;
            keeps = k.keeps ∙ rw (s, append_assoc, n, kept_goes (word_at l) (may_come start top o) (passed (word_at l) count head) p (limit - count) (omega arith) e y) refl;
          }
