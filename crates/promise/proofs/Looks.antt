-- What a search of the list finds, in either order: a segment with room that is a best one, or a miss where no segment has room.
-- The orders differ here alone, one law for each. So a request past the top has three ways to go. Assumes nothing.
use Prim.Native.Nat.{ℕ, ◌-◌, ◌≤◌, ◌<◌}
use Rattle.std.specs.List.{AllByRecursion as Each}
use mathlib.Core.Path.{◌≡◌, refl}
use mathlib.Core.Bool.{false}
use mathlib.Core.List.{List, [], ◌∷◌}
use native.Mathlib.Omega.{arith}
use borrow.Author.Tests.{leb-true, leb-false, ltb-true, ltb-false}
use lib.Dec.{leb, ltb}
use lib.ListN.{length, get_or}
use lib.Seq.{drop-cons}
use Rattle.records.proofs.Facts.{pick_either}
use Rattle.records.specs.Answer.{Outcome, refuses}
use Rattle.records.specs.declared.Order.{Order}
use Rattle.records.specs.declared.Order.TheVariants.{Optimistic, Pessimistic}
use Rattle.records.specs.declared.Policy.{Policy}
use Rattle.records.specs.declared.Policy.TheVariants.{None, Ordered}
use Rattle.records.specs.declared.Shape.{Shape}
use Rattle.records.specs.declared.Header.{Header}
use Rattle.records.specs.declared.Request.{Request}
use Rattle.records.specs.declared.Segment.{Segment}
use Rattle.requests.specs.Request.{need}
use Rattle.freelist.specs.Segs.{Leads, Good}
use Rattle.freelist.specs.Place.{place}
use Rattle.freelist.specs.Sound.{free}
use Rattle.freelist.proofs.Listing.{all_map}
use Rattle.freelist.proofs.Places.{place-passes, place_none}
use Rattle.freelist.proofs.Sounds.{head_largest, first_smallest}
use Rattle.arena.specs.Take.{Found, found, missed, head_fit, first_fit, look, nowhere, serve, from_list, past_top}
use Rattle.promise.specs.Runs.{Best}

-- what is known of a find
abbrev pub FindsBest : Order → ℕ → List Segment → Found → Type 0
FindsBest o n segs (found k) = (k < length segs) × (n ≤ (get_or segs k nowhere).size) × Best (Ordered o) n (get_or segs k nowhere) segs
FindsBest o n segs (missed room) = Each (λ g. g.size < n) segs

module _ (start top n room : ℕ) where
  -- the head of a falling list is a largest, and where it has no room none has
  head_finds : (segs : List Segment) → Good start top Optimistic segs → FindsBest Optimistic n segs (head_fit n room segs)
  unfolding head_fit
  head_finds [] g = tt
  head_finds (s ∷ ss) g =
      pick_either (FindsBest Optimistic n (s ∷ ss)) (leb n s.size) _ _
      (λ e. (omega arith, leb-true _ _ e, head_largest start top s ss g))
      (λ e. (leb-false _ _ e, all_map (Leads Optimistic s) (λ u. u.size < n) (λ u h. omega (arith, leb-true, leb-false)) ss g.sorted.0))

  -- the first with room in a rising list is a smallest with room
  first_finds : (segs : List Segment) → Good start top Pessimistic segs → FindsBest Pessimistic n segs (first_fit n room segs)
  unfolding first_fit
  first_finds segs g =
      let k = place (λ s. leb n s.size) segs in
      pick_either (FindsBest Pessimistic n segs) (ltb k (length segs)) _ _
      (λ e.
      let there = ltb-true _ _ e in
      (there, leb-true _ _ (place-passes _ segs nowhere there), first_smallest start top n segs (get_or segs k nowhere) _ g (drop-cons segs k nowhere there)))
      (λ e. all_map (λ s. leb n s.size ≡ false) (λ s. s.size < n) (λ s. leb-false n s.size) segs (place_none _ segs (ltb-false _ _ e)))

  pub finds_best : (o : Order) (segs : List Segment) → Good start top o segs → FindsBest o n segs (look o n room segs)
  unfolding look
  finds_best Optimistic segs g = head_finds segs g
  finds_best Pessimistic segs g = first_finds segs g

-- what holds of the refusal under None, of a refusal where no segment has room, and of a best segment that serves the request, holds of a request past the top
pub past_each : (s : Shape) (h : Header) (l : List ℕ) → ((o : Order) → s.policy ≡ Ordered o → Good s.data_offset h.allocated o (free s h l)) → (r : Request) (P : Outcome → Type 0)
    → ((carried : List ℕ) → s.policy ≡ None → P (refuses 9 carried h l))
    → ((carried : List ℕ) → Each (λ g. g.size < need r) (free s h l) → P (refuses 9 carried h l))
    → ((o : Order) → s.policy ≡ Ordered o → (i : ℕ) → FindsBest o (need r) (free s h l) (found i) → P (serve h l (free s h l) o r i))
    → P (past_top s.policy s h l r)
unfolding past_top from_list
past_each s h l good r P none small served = go s.policy refl
  where
    find : (o : Order) → s.policy ≡ Ordered o → (f : Found) → FindsBest o (need r) (free s h l) f → P (from_list h l (free s h l) o r f)
    find o e (missed room) x = small (need r ∷ room ∷ []) x
    find o e (found i) x = served o e i x

    go : (f : Policy) → s.policy ≡ f → P (past_top f s h l r)
    go None e = none _ e
    go (Ordered o) e =
        let room = s.cap - h.allocated in
        find o e (look o (need r) room (free s h l)) (finds_best s.data_offset h.allocated (need r) room o (free s h l) (good o e))
