-- `freelist::marks::bits` meets its contract: the bits below `to` less those below `from`.
-- Assumes nothing.
use mathlib.Core.Path.{◌≡◌, ap, ◌∙◌}
use Prim.Native.Nat.{ℕ, ◌+◌, ◌-◌, ◌*◌, ◌/◌, ◌%◌, ◌^◌, ◌≤◌, ◌<◌}
use native.Mathlib.Omega.{arith}
use lib.Pow.{pow_pos, pow-lt, shl_exact, high, ones_split, ones_lt}
use Rattle.freelist.proofs.marks.bits.Goals as goal

one_shl : (k : ℕ) → k < 64 → 1 * 2 ^ k % 2 ^ 64 ≡ 2 ^ k
one_shl k h = omega (arith, shl_exact {a = 1} 1 k 64 (omega arith) (omega arith))

ones_shr : (k : ℕ) → k ≤ 64 → (2 ^ 64 - 1) / 2 ^ (64 - k) ≡ 2 ^ k - 1
ones_shr k h =
    let e : 64 ≡ k + (64 - k) = omega arith in
    ap (λ (n : ℕ). (2 ^ n - 1) / 2 ^ (64 - k)) e ∙ ap (λ (n : ℕ). n / 2 ^ (64 - k)) (ones_split k (64 - k)) ∙ high (2 ^ k - 1) (64 - k) (ones_lt (64 - k))

pub overflow_sub-result-2 : goal.overflow_sub-result-2
overflow_sub-result-2 c =
    omega (arith, one_shl c.args.from (omega arith), ones_shr c.args.to (omega arith), pow-lt {i = c.args.from} {j = c.args.to} (omega arith))

pub returns : goal.returns
returns c =
    omega (arith, one_shl c.args.from (omega arith), ones_shr c.args.to (omega arith), pow_pos c.args.from)
