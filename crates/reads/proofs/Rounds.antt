-- How many rounds the loops of halving and doubling have left, by significant bits: a round takes one away. So neither has more than 64.
-- Assumes nothing.
use mathlib.Core.Path.{◌≡◌, refl}
use mathlib.Core.Bool.{cond}
use Prim.Native.Nat.{ℕ, zero, suc, ◌-◌, ◌*◌, ◌/◌, ◌^◌, ◌≤◌, ◌<◌}
use native.Mathlib.Nat.{not-suc-le-zero}
use native.Mathlib.Omega.{arith}
use lib.Dec.{ltb}
use lib.Ieee.{size}
use lib.Ieee.Digits.{size-lt, size-le, size_reaches}
use lib.Pow.{pow_mono}
use borrow.Author.Tests.{ltb-true, ltb-false, lt-ltb}
use Rattle.value.proofs.Cases.{caseb}
use Rattle.key.specs.Canonical.{largest}

-- ---- halving a difference
abbrev pub halvings : ℕ → ℕ
halvings d = size (d - 1)

pub halved-less : (d d' : ℕ) → 1 < d → d' ≤ d - d / 2 → halvings d' < halvings d
halved-less d d' h l = by (size (d - 1)) (size-lt (d - 1))
  where
    by : (k : ℕ) → d - 1 < 2 ^ k → size (d' - 1) < k
    by zero p = absurd (not-suc-le-zero {n = 0} (omega arith))
    by (suc j) p = let r = size-le (d' - 1) j (omega arith) in omega (arith, r)

-- ---- doubling a number, up to the largest integer
abbrev pub doublings : ℕ → ℕ
doublings m = cond (ltb m largest) (64 - size m) 0

twice : (m : ℕ) → 0 < m → size m < size (2 * m)
twice m h = by (size m) refl
  where
    by : (k : ℕ) → size m ≡ k → k < size (2 * m)
    by zero e = let p : m < 2 ^ 0 = rw e at (size-lt m) in absurd (not-suc-le-zero {n = 0} (omega arith))
    by (suc j) e =
        caseb (ltb (suc j) (size (2 * m))) (λ b. ltb-true (suc j) (size (2 * m)) b)
        (λ b. let p = size-lt (2 * m) in
        let q : 2 ^ size (2 * m) ≤ 2 ^ suc j = pow_mono (ltb-false (suc j) (size (2 * m)) b) in
        let r : 2 ^ j ≤ m = size_reaches m j (rw e (omega arith)) in absurd (not-suc-le-zero {n = 0} (omega arith)))

module _ (m : ℕ) (below : m < largest) where
  left : doublings m ≡ 64 - size m
  left = rw (lt-ltb m largest below)

  few : size m ≤ 63
  few = size-le m 63 (omega arith)

  pub last_less : doublings largest < doublings m
  last_less = rw left (omega (arith, few))

  pub doubled-less : 0 < m → 2 * m < largest → doublings (2 * m) < doublings m
  doubled-less h l = rw (left, lt-ltb (2 * m) largest l) (omega (arith, few, twice m h))
