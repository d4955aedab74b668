-- Laws of a place in a list and of its members, over any elements and any order: what a list keeps with one element more or fewer, that insertion before
-- the first that the new one leads keeps an order, and that the first to pass a test leads every other that passes.
-- Assumes nothing.
use mathlib.Core.Path.{◌≡◌, refl, sym}
use Rattle.std.specs.List.{AllByRecursion as Each, list_any as any}
use mathlib.Core.Bool.{Bool, true, false, false≢true}
use mathlib.Core.Logic.{◌⊎◌, inl, inr, ⊎_elim}
use mathlib.Core.List.Memᴰ
use mathlib.Core.List.{List, [], ◌∷◌, ◌++◌, Memᴰ}
use Prim.Native.Nat.{ℕ, zero, suc, ◌+◌, ◌-◌, ◌≤◌, ◌<◌}
use native.Mathlib.Nat.{zero-add}
use native.Mathlib.Omega.{arith}
use lib.ListN.{length, drop, get_or}
use Rattle.records.proofs.Facts.{neither, pick_either}
use Rattle.freelist.specs.Segs.{Pairwise}
use Rattle.freelist.specs.Place.{place, insert_at, remove_at}
use Rattle.freelist.proofs.Listing.{all_map}

module _ {A : Type 0} (P : A → Type 0) where
  pub all_insert : (k : ℕ) (q : A) (xs : List A) → P q → Each P xs → Each P (insert_at k q xs)
  all_insert zero q xs h a = (h, a)
  all_insert (suc k) q [] h a = (h, tt)
  all_insert (suc k) q (x ∷ xs) h a = (a.0, all_insert k q xs h a.1)

  pub all_remove : (k : ℕ) (xs : List A) → Each P xs → Each P (remove_at k xs)
  all_remove zero [] a = tt
  all_remove (suc k) [] a = tt
  all_remove zero (x ∷ xs) a = a.1
  all_remove (suc k) (x ∷ xs) a = (a.0, all_remove k xs a.1)

pub all_at : {A : Type 0} (P : A → Type 0) (k : ℕ) (xs : List A) (d : A) → k < length xs → Each P xs → P (get_or xs k d)
all_at P k [] d h a = absurd (omega arith)
all_at P zero (x ∷ xs) d h a = a.0
all_at P (suc k) (x ∷ xs) d h a = all_at P k xs d (omega arith) a.1

-- each pair of a list with one more element, where the relation is one way or the other
module _ {A : Type 0} (R : A → A → Type 0) where
  pub pairs_insert : (k : ℕ) (q : A) (xs : List A) → Each (λ x. R x q) xs → Each (R q) xs → Pairwise R xs → Pairwise R (insert_at k q xs)
  pairs_insert zero q xs f g h = (g, h)
  pairs_insert (suc k) q [] f g h = (tt, tt)
  pairs_insert (suc k) q (x ∷ xs) f g h = (all_insert (R x) k q xs f.0 h.0, pairs_insert k q xs f.1 g.1 h.1)

  pub pairs_remove : (k : ℕ) (xs : List A) → Pairwise R xs → Pairwise R (remove_at k xs)
  pairs_remove zero [] h = tt
  pairs_remove (suc k) [] h = tt
  pairs_remove zero (x ∷ xs) h = h.1
  pairs_remove (suc k) (x ∷ xs) h = (all_remove (R x) k xs h.0, pairs_remove k xs h.1)

-- a test as a relation
abbrev pub So : {A : Type 0} → (A → A → Bool) → A → A → Type 0
So le x y = le x y ≡ true

-- an order keeps: insert before the first that the new one may stand before
module _ {A : Type 0} (le : A → A → Bool) (trans : (x y z : A) → le x y ≡ true → le y z ≡ true → le x z ≡ true) where
  pub sorted_insert : (q : A) (xs : List A) → Each (λ x. le q x ≡ false → le x q ≡ true) xs → Pairwise (So le) xs → Pairwise (So le) (insert_at (place (le q) xs) q xs)
  sorted_insert q [] t h = (tt, tt)
  sorted_insert q (x ∷ xs) t h =
      pick_either (λ (k : ℕ). Pairwise (So le) (insert_at k q (x ∷ xs))) (le q x) _ _
      (λ e. ((e, all_map (So le x) (So le q) (λ y f. trans q x y e f) xs h.0), h))
      (λ e. (all_insert (So le x) (place (le q) xs) q xs (t.0 e) h.0, sorted_insert q xs t.1 h.1))

  -- the first that passes a test stands before every other that passes it
  pub first_leads : ((x : A) → le x x ≡ true) → (f : A → Bool) (xs : List A) (x : A) (ys : List A) → Pairwise (So le) xs → drop (place f xs) xs ≡ x ∷ ys → Each (λ y. f y ≡ true → le x y ≡ true) xs
  first_leads same f [] x ys h e = tt
  first_leads same f (z ∷ xs) x ys h e =
      pick_either (λ (k : ℕ). drop k (z ∷ xs) ≡ x ∷ ys → Each (λ y. f y ≡ true → le x y ≡ true) (z ∷ xs)) (f z) _ _
      (λ g k.
      let i : z ≡ x = cc in
      (λ j. rw i (same x), all_map (So le z) (λ y. f y ≡ true → le x y ≡ true) (λ y m j. rw i at m) xs h.0))
      (λ g k. (λ j. absurd (false≢true cc), first_leads same f xs x ys h.1 k)) e

module _ {A : Type 0} (f : A → Bool) where
  -- the element at the place passes
  pub place-passes : (xs : List A) (d : A) → place f xs < length xs → f (get_or xs (place f xs) d) ≡ true
  place-passes [] d h = absurd (omega arith)
  place-passes (x ∷ xs) d h =
      pick_either (λ (k : ℕ). k < length (x ∷ xs) → f (get_or (x ∷ xs) k d) ≡ true) (f x) _ _ (λ e k. e) (λ e k. place-passes xs d (omega arith)) h

  -- where the place is past the end, none passes
  pub place_none : (xs : List A) → length xs ≤ place f xs → Each (λ x. f x ≡ false) xs
  place_none [] h = tt
  place_none (x ∷ xs) h =
      pick_either (λ (k : ℕ). length (x ∷ xs) ≤ k → Each (λ y. f y ≡ false) (x ∷ xs)) (f x) _ _ (λ e k. absurd (omega arith)) (λ e k. (e, place_none xs (omega arith))) h

  -- the place in a list whose first part fails
  pub place_past : (xs ys : List A) → Each (λ x. f x ≡ false) xs → place f (xs ++ ys) ≡ length xs + place f ys
  place_past [] ys a = sym (zero-add _)
  place_past (x ∷ xs) ys a = rw (a.0, place_past xs ys a.1) (omega arith)

  -- none passes exactly where each fails
  pub any_none : (xs : List A) → any f xs ≡ false → Each (λ x. f x ≡ false) xs
  any_none [] e = tt
  any_none (x ∷ xs) e = let r = neither (f x) (any f xs) e in (r.0, any_none xs r.1)

  pub none_any : (xs : List A) → Each (λ x. f x ≡ false) xs → any f xs ≡ false
  none_any [] a = refl
  none_any (x ∷ xs) a = rw a.0 (none_any xs a.1)

-- what holds of all holds of each member, and what holds of each member holds of all
pub all_mem : {A : Type 0} (P : A → Type 0) (x : A) (xs : List A) → Memᴰ x xs → Each P xs → P x
all_mem P x [] m a = absurd (Memᴰ.not-nil m)
all_mem {A} P x (y ∷ xs) m a = ⊎_elim (λ e. rw e a.0) (λ n. all_mem P x xs n a.1) (Memᴰ.cases_cons m)

pub mem_all : {A : Type 0} (P : A → Type 0) (xs : List A) → ((x : A) → Memᴰ x xs → P x) → Each P xs
mem_all P [] f = tt
mem_all P (x ∷ xs) f = (f x (Memᴰ.head refl), mem_all P xs (λ y m. f y (Memᴰ.tail m)))

-- the i-th is a member
pub mem_at : {A : Type 0} (xs : List A) (i : ℕ) (d : A) → i < length xs → Memᴰ (get_or xs i d) xs
mem_at [] i d h = absurd (omega arith)
mem_at (x ∷ xs) zero d h = Memᴰ.head refl
mem_at (x ∷ xs) (suc i) d h = Memᴰ.tail (mem_at xs i d (omega arith))

-- each member is the one in hand or is related to it
pub pairs_with : {A : Type 0} (R : A → A → Type 0) → ((x y : A) → R x y → R y x) → (x : A) (xs : List A) → Memᴰ x xs → Pairwise R xs → Each (λ y. (y ≡ x) ⊎ R x y) xs
pairs_with R flip x [] m p = absurd (Memᴰ.not-nil m)
pairs_with R flip x (y ∷ ys) m p = ⊎_elim here (λ n. there n (pairs_with R flip x ys n p.1)) (Memᴰ.cases_cons m)
  where
    here : x ≡ y → Each (λ z. (z ≡ x) ⊎ R x z) (y ∷ ys)
    here e = (inl (sym e), all_map (R y) (λ z. (z ≡ x) ⊎ R x z) (λ z r. inr (rw e r)) ys p.0)

    there : Memᴰ x ys → Each (λ z. (z ≡ x) ⊎ R x z) ys → Each (λ z. (z ≡ x) ⊎ R x z) (y ∷ ys)
    there n r = (inr (flip y x (all_mem (R y) x ys n p.0)), r)

-- an element and those that are left without it
module _ {A : Type 0} (R : A → A → Type 0) (flip : (x y : A) → R x y → R y x) where
  pub pairs_without : (k : ℕ) (xs : List A) (d : A) → k < length xs → Pairwise R xs → Each (λ x. R x (get_or xs k d)) (remove_at k xs)
  pairs_without k [] d h p = absurd (omega arith)
  pairs_without zero (x ∷ xs) d h p = all_map (R x) (λ y. R y x) (λ y. flip x y) xs p.0
  pairs_without (suc k) (x ∷ xs) d h p = (all_at (R x) k xs d (omega arith) p.0, pairs_without k xs d (omega arith) p.1)

pub length_removed : {A : Type 0} (k : ℕ) (xs : List A) → k < length xs → length (remove_at k xs) ≡ length xs - 1
length_removed k [] h = absurd (omega arith)
length_removed zero (x ∷ xs) h = omega arith
length_removed (suc k) (x ∷ xs) h = omega (arith, length_removed k xs (omega arith))
