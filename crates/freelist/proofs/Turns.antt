-- What one turn of a walk says of the nodes left: any of them, their sizes, whether they are apart. docs/PORT.md names these laws; the search finds what they
-- say, so no proof cites them. Assumes nothing.
use mathlib.Core.Path.{◌≡◌, refl}
use Rattle.std.specs.List.{list_any as any}
use Rattle.std.proofs.lemmas.List.Sums.{sum_by-cons}
use mathlib.Core.Bool.{Bool, true, false}
use Prim.Native.Nat.{ℕ, zero, suc, ◌+◌, ◌-◌, ◌≤◌, ◌<◌}
use native.Mathlib.Omega.{arith}
use Rattle.records.specs.declared.Segment.{Segment}
use Rattle.freelist.specs.Segs.{seg_at, next_at, passed, sizes}
use Rattle.freelist.specs.Split.{apartb}

-- one step less
less : (n : ℕ) → suc n - 1 ≡ n
less n = omega arith

module _ (w : ℕ → ℕ) where
  -- the three ways of a turn that asks whether some node passes a test
  pub any_hit : (f : Segment → Bool) (n p : ℕ) → 0 < n → f (seg_at w p) ≡ true → any f (passed w n p) ≡ true
  any_hit f zero p h e = absurd (omega arith)
  any_hit f (suc n) p h e = rw e refl

  pub any_miss : (f : Segment → Bool) (n p : ℕ) → 0 < n → f (seg_at w p) ≡ false → any f (passed w n p) ≡ any f (passed w (n - 1) (next_at w p))
  any_miss f zero p h e = absurd (omega arith)
  any_miss f (suc n) p h e = rw (e, less n) refl

  pub any_left : (f : Segment → Bool) (n p : ℕ) → n ≤ 0 → any f (passed w n p) ≡ false
  any_left f zero p h = refl
  any_left f (suc n) p h = absurd (omega arith)

  -- the two ways of a turn that sums the sizes
  pub sizes_pop : (n p : ℕ) → 0 < n → sizes (passed w n p) ≡ (seg_at w p).size + sizes (passed w (n - 1) (next_at w p))
  sizes_pop zero p h = absurd (omega arith)
  sizes_pop (suc n) p h = rw (less n) (sum_by-cons (λ (s : Segment). s.size) (seg_at w p) (passed w n (next_at w p)))

  pub sizes_left : (n p : ℕ) → n ≤ 0 → sizes (passed w n p) ≡ 0
  sizes_left zero p h = refl
  sizes_left (suc n) p h = absurd (omega arith)

  -- a list of no node is apart
  pub apart_left : (n p : ℕ) → n ≤ 0 → apartb (passed w n p) ≡ true
  apart_left zero p h = refl
  apart_left (suc n) p h = absurd (omega arith)
