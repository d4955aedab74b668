-- Laws of `All` and `Pairwise`, over any elements and any relation: mapped, joined and split, so that every list is proved about by cutting it in two.
-- Assumes nothing.
use Prim.Native.Nat.{ℕ}
use Rattle.std.specs.List.{AllByRecursion as Each}
use mathlib.Core.List.{List, [], ◌∷◌, ◌++◌}
use lib.ListN.{take, drop, take-append-drop}
use Rattle.freelist.specs.Segs.{Pairwise}

module _ {A : Type 0} (P : A → Type 0) where
  pub all_map : (Q : A → Type 0) → ((x : A) → P x → Q x) → (xs : List A) → Each P xs → Each Q xs
  all_map Q f [] h = tt
  all_map Q f (x ∷ xs) h = (f x h.0, all_map Q f xs h.1)

  pub all_append : (xs ys : List A) → Each P xs → Each P ys → Each P (xs ++ ys)
  all_append [] ys h k = k
  all_append (x ∷ xs) ys h k = (h.0, all_append xs ys h.1 k)

  pub all_split : (xs ys : List A) → Each P (xs ++ ys) → Each P xs × Each P ys
  all_split [] ys h = (tt, h)
  all_split (x ∷ xs) ys h = let r = all_split xs ys h.1 in ((h.0, r.0), r.1)

  -- the elements before a place, and those from it on
  pub all_sides : (k : ℕ) (xs : List A) → Each P xs → Each P (take k xs) × Each P (drop k xs)
  all_sides k xs h = all_split (take k xs) (drop k xs) (rw (take-append-drop k xs) h)

module _ {A : Type 0} (P Q S : A → Type 0) where
  pub all_both : ((x : A) → P x → Q x → S x) → (xs : List A) → Each P xs → Each Q xs → Each S xs
  all_both f [] h k = tt
  all_both f (x ∷ xs) h k = (f x h.0 k.0, all_both f xs h.1 k.1)

module _ {A : Type 0} (R : A → A → Type 0) where
  pub pairs_map : (S : A → A → Type 0) (P : A → Type 0) → ((x y : A) → P x → P y → R x y → S x y) → (xs : List A) → Each P xs → Pairwise R xs → Pairwise S xs
  pairs_map S P f [] a h = tt
  pairs_map S P f (x ∷ xs) a h = (all_both P (R x) (S x) (λ y. f x y a.0) xs a.1 h.0, pairs_map S P f xs a.1 h.1)

  -- the pairs of xs ++ ys: those of xs, those of ys, and one of each
  pub pairs_append : (xs ys : List A) → Pairwise R xs → Pairwise R ys → Each (λ x. Each (R x) ys) xs → Pairwise R (xs ++ ys)
  pairs_append [] ys h k c = k
  pairs_append (x ∷ xs) ys h k c = (all_append (R x) xs ys h.0 c.0, pairs_append xs ys h.1 k c.1)

  pub pairs_split : (xs ys : List A) → Pairwise R (xs ++ ys) → Pairwise R xs × Pairwise R ys × Each (λ x. Each (R x) ys) xs
  pairs_split [] ys h = (tt, h, tt)
  pairs_split (x ∷ xs) ys h =
      let r = pairs_split xs ys h.1 in
      let a = all_split (R x) xs ys h.0 in
      ((a.0, r.0), r.1, (a.1, r.2))

  pub pairs_snoc : (xs : List A) (y : A) → Pairwise R xs → Each (λ x. R x y) xs → Pairwise R (xs ++ y ∷ [])
  pairs_snoc xs y h c =
      pairs_append xs (y ∷ []) h (tt, tt) (all_map (λ x. R x y) (λ x. Each (R x) (y ∷ [])) (λ x r. (r, tt)) xs c)

  -- of xs ++ y ∷ ys: each of xs with y
  pub pairs_at : (xs : List A) (y : A) (ys : List A) → Pairwise R (xs ++ y ∷ ys) → Each (λ x. R x y) xs
  pairs_at xs y ys h = all_map (λ x. Each (R x) (y ∷ ys)) (λ x. R x y) (λ x a. a.0) xs (pairs_split xs (y ∷ ys) h).2
