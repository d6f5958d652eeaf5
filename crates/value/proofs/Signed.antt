-- Signed numbers by their sign: one from 0 up is its word, and -1 - z takes a negative one to a natural number and back. Assumes nothing.
use mathlib.Core.Path.{◌≡◌, refl, ap, ◌∙◌}
use mathlib.Core.Bool.{Bool, true, false, cond}
use Prim.Native.Nat.{ℕ, zero, suc, ◌-◌, ◌<◌, ◌^◌}
use native.Mathlib.Nat.{zero-add}
use native.Mathlib.Omega.{arith}
use borrow.Author.Tests.{le-ltb}
use lib.Dec.{T, leb-zero}
use lib.IntN.{ℤ, pos, negsuc, nat_abs, ◌-ℤ◌}
use lib.Signed.{le_z, non_neg}
use mir.Syntax.{w64}
use mir.Val.{Fits, SFits, of_z}
use Rattle.value.proofs.Cases.{clash}

pub down-from : (k : ℕ) → negsuc 0 -ℤ pos k ≡ negsuc k
down-from zero = refl
down-from (suc k) = ap (λ (n : ℕ). negsuc (suc n)) (zero-add k)

pub up_from : (k : ℕ) → negsuc 0 -ℤ negsuc k ≡ pos k
up_from k = ap (λ (b : Bool). cond b (negsuc (1 - suc (suc k))) (pos (suc k - 1))) (le-ltb (suc k) 1 (omega arith)) ∙ ap pos (omega arith)

-- a number from 0 up: its size is its word
pub from_zero : (z : ℤ) → SFits w64 z → le_z (pos 0) z ≡ true → T (non_neg z) × Fits w64 (nat_abs z) × (nat_abs z ≡ of_z w64 z)
from_zero (pos n) f t = (tt, record { fits = omega (arith, f.sfits) }, refl)
from_zero (negsuc n) f t = clash t refl

-- a number below 0: what -1 less it is
pub below-zero : (z : ℤ) → SFits w64 z → le_z (pos 0) z ≡ false → (k : ℕ) × (z ≡ negsuc k) × (k < 2 ^ 63) × (negsuc 0 -ℤ z ≡ pos k)
below-zero (pos n) f t = clash (leb-zero n) t
below-zero (negsuc n) f t = (n, refl, f.sfits, up_from n)
