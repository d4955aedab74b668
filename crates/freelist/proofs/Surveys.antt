-- The answers of `surveyed`, in the order of the code's tests, and what an answer says.
-- A walk in range and in order that stops at the end mark, past segments that are apart, is the walk along a sound list; a sound list is walked so.
-- Assumes nothing.
use mathlib.Core.Path.{◌≡◌, refl, ap, sym, subst, ◌∙◌}
use Rattle.std.specs.List.{AllByRecursion as Each}
use mathlib.Core.Logic.{◌≢◌}
use mathlib.Core.Bool.{Bool, true, false, false≢true}
use mathlib.Core.List.{List}
use Prim.Native.Nat.{ℕ, ◌≤◌}
use native.Mathlib.Omega.{arith}
use borrow.Author.Tests.{ne_eqb}
use lib.ListN.{length}
use Rattle.words.specs.Word.{word_at, size_half, end_mark}
use Rattle.words.specs.Pick.{pick}
use Rattle.records.specs.Setup.{limit}
use Rattle.records.proofs.Facts.{pick_either}
use Rattle.records.specs.Head.{head_sound}
use Rattle.records.specs.declared.Policy.{Policy}
use Rattle.records.specs.declared.Policy.TheVariants.{None, Ordered}
use Rattle.records.specs.declared.Shape.{Shape}
use Rattle.records.specs.declared.Header.{Header}
use Rattle.records.proofs.Facts.{head_facts}
use Rattle.records.specs.declared.Segment.{Segment}
use Rattle.freelist.specs.Segs.{Run, Pairwise, Apart, InRange, followed, passed}
use Rattle.freelist.specs.Sound.{first_of, sound, free, surveyed}
use Rattle.freelist.specs.Split.{ranged_run, walk_from, apartb, Walked}
use Rattle.std.specs.Prelude.{Option, Some, None as unsound, is_some}
use Rattle.freelist.proofs.Listing.{all_map}
use Rattle.freelist.proofs.Runs.{run_passed, length-passed}
use Rattle.freelist.proofs.Checks.{ranged_is_run, ranged_ranged, ranged_sorted, listed_ranged, listed_passed, listed_followed}
use Rattle.freelist.proofs.Aparts.{tested_apart, apart_tested}
use Rattle.freelist.proofs.Arenas.{Frees, make_frees, frees_sound, head_numbers, sound_frees, sound_apart}

-- a walk that stops at the end mark, past segments that are apart, passed the list
module _ (l : List ℕ) (head start top count stop : ℕ) where
  walked_passed : (ss : List Segment) → Run (word_at l) head ss (followed (word_at l) (length ss) head) → Walked l head ss count stop → passed (word_at l) count head ≡ ss
  walked_passed ss r w = run_passed (word_at l) head _ ss r count w.counted

  pub walked_ranged : (f : Policy) → Walked l head (walk_from f start top l head) count stop → Each (InRange 0 top) (passed (word_at l) count head)
  walked_ranged None w = rw w.counted tt
  walked_ranged (Ordered o) w =
      rw (walked_passed (ranged_run l head start top o) (ranged_is_run l head start top o) w)
      (all_map (InRange start top) (InRange 0 top) (λ t r. omega arith) (ranged_run l head start top o) (ranged_ranged l head start top o))

  walked_frees : (f : Policy) → length l ≤ limit → 1 ≤ start → start ≤ top → top ≤ length l → Walked l head (walk_from f start top l head) count stop → stop ≡ end_mark
      → Pairwise Apart (passed (word_at l) count head) → Frees f l head start top (passed (word_at l) count head)
  walked_frees None a b c d w e p = rw w.counted (rw w.counted at (sym w.stops ∙ e), refl)
  walked_frees (Ordered o) a b c d w e p =
      let k = walked_passed (ranged_run l head start top o) (ranged_is_run l head start top o) w in
      let q : followed (word_at l) (length (ranged_run l head start top o)) head ≡ end_mark = rw w.counted at (sym w.stops ∙ e) in
      rw k
      (make_frees l head start top (ranged_run l head start top o) (Ordered o) a b c d
      (subst (λ (x : ℕ). Run (word_at l) head (ranged_run l head start top o) x) q (ranged_is_run l head start top o))
      (ranged_ranged l head start top o) (rw k at p) (ranged_sorted l head start top o))

  -- and it passes each list so
  frees_walked : (f : Policy) (segs : List Segment) → Frees f l head start top segs → Walked l head (walk_from f start top l head) count stop
      → (stop ≡ end_mark) × (passed (word_at l) count head ≡ segs)
  frees_walked None segs k w = (rw w.counted at w.stops ∙ k.0, rw (w.counted, k.1) refl)
  frees_walked (Ordered o) segs k w =
      let e : count ≡ length segs = w.counted ∙ ap length (listed_ranged l head start top o segs k) in
      (w.stops ∙ listed_followed l head start top o segs k count e, listed_passed l head start top o segs k count e)

module _ (s : Shape) (h : Header) (l : List ℕ) where
  pub survey_head : head_sound s h (length l) ≡ false → surveyed s h l ≡ unsound
  unfolding surveyed sound
  survey_head e = rw e refl

  module _ (good : head_sound s h (length l) ≡ true) where
    pub survey_mark : size_half h.sentinel ≢ end_mark → surveyed s h l ≡ unsound
    unfolding surveyed sound
    survey_mark e = rw (good, ne_eqb (size_half h.sentinel) end_mark e) refl

    module _ (mark : size_half h.sentinel ≡ end_mark) (first : ℕ) (starts : first ≡ first_of h) (count stop : ℕ) (told : Walked l first (walk_from s.policy s.data_offset h.allocated l first) count stop) where
      w : Walked l (first_of h) (walk_from s.policy s.data_offset h.allocated l (first_of h)) count stop
      w = rw starts at told

      -- a sound arena has its list walked to the end mark, past segments that are apart
      found : sound s h l ≡ true → (stop ≡ end_mark) × Pairwise Apart (passed (word_at l) count (first_of h))
      found y =
          let r = frees_walked l (first_of h) s.data_offset h.allocated count stop s.policy (free s h l) (sound_frees s h l y) w in
          (r.0, rw r.1 (sound_apart s h l y))

      not_sound : (sound s h l ≡ true → ⊥) → surveyed s h l ≡ unsound
      unfolding surveyed
      not_sound never = go (sound s h l) refl
        where
          go : (b : Bool) → sound s h l ≡ b → pick b (Some (length (free s h l))) unsound ≡ unsound
          go true e = absurd (never e)
          go false e = refl

      pub survey_open : stop ≢ end_mark → surveyed s h l ≡ unsound
      survey_open e = not_sound (λ y. e (found y).0)

      pub survey_shared : apartb (passed (word_at l) count first) ≡ false → surveyed s h l ≡ unsound
      survey_shared e = not_sound (λ y. let z : true ≡ false = sym (apart_tested (passed (word_at l) count (first_of h)) (found y).1) ∙ rw starts at e in let t : ◌≡◌ {A = ℕ} 0 1 = cc in absurd (omega arith))

      pub survey_closed : stop ≡ end_mark → apartb (passed (word_at l) count first) ≡ true → surveyed s h l ≡ Some count
      unfolding surveyed
      survey_closed e p =
          let k = head_facts s h (length l) good in
          let n = head_numbers s h l k in
          let r = frees_sound s h l k mark (passed (word_at l) count (first_of h)) (walked_frees l (first_of h) s.data_offset h.allocated count stop s.policy n.0 n.1 n.2 n.3 w e (tested_apart (passed (word_at l) count (first_of h)) (rw starts at p))) in
          rw r.0 (ap Some (ap length r.1 ∙ length-passed (word_at l) count (first_of h)))

  -- what a caller learns from the answer
  pub found_sound : (n : ℕ) → surveyed s h l ≡ Some n → (sound s h l ≡ true) × (n ≡ length (free s h l))
  unfolding surveyed
  found_sound n =
      pick_either (λ (x : Option ℕ). x ≡ Some n → (sound s h l ≡ true) × (n ≡ length (free s h l))) (sound s h l) _ _ (λ p q. (p, cc))
      (λ p q. absurd (false≢true cc))

  pub found_unsound : surveyed s h l ≡ unsound → sound s h l ≡ false
  unfolding surveyed
  found_unsound =
      pick_either (λ (x : Option ℕ). x ≡ unsound → sound s h l ≡ false) (sound s h l) _ _ (λ p q. absurd (false≢true cc)) (λ p q. p)

  -- an answer is given of a sound arena
  pub answers_sound : is_some (surveyed s h l) ≡ sound s h l
  unfolding surveyed
  answers_sound = go (sound s h l)
    where
      go : (b : Bool) → is_some (pick b (Some (length (free s h l))) unsound) ≡ b
      go true = refl
      go false = refl
