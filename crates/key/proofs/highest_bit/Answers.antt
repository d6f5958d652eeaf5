-- `key::highest_bit` meets its contract. Assumes nothing.
use mathlib.Core.Path.{◌≡◌, refl}
use Prim.Native.Nat.{ℕ, zero, suc, ◌+◌, ◌-◌, ◌*◌, ◌^◌, ◌≤◌, ◌<◌}
use native.Mathlib.Omega.{arith}
use lib.Count.{count_leading_zeros, leading_unique}
use native.Mathlib.Nat.{pow-succ'}
use lib.Ieee.{size}
use lib.Ieee.Digits.{size-lt, size-le, size_reaches}
use Rattle.key.proofs.highest_bit.Goals as goal

-- 2 ^ j is twice 2 ^ (j - 1), which is at most n
reach : (n j : ℕ) → size n ≡ j → 2 ^ j ≤ 2 * n + 1
reach n zero e = omega arith
reach n (suc j) e = let h : 2 ^ j ≤ n = size_reaches n j (rw e (omega arith)) in rw (pow-succ' 2 j) (omega arith)

digits : (n : ℕ) → n < 2 ^ 64 → 64 - count_leading_zeros 64 n ≡ size n
digits n h =
    let l = size-le n 64 h in
    let u : 64 - size n ≡ count_leading_zeros 64 n = leading_unique 64 n (64 - size n) (size n) (omega arith) (size-lt n) (reach n (size n) refl) in
    omega arith

pub returns : goal.returns
returns c = digits c.args.index c.ranges.index.fits
