-- A number is a power of two exactly when one of its digits is set. Assumes nothing.
use mathlib.Core.Path.{◌≡◌, refl, sym, ap, ◌∙◌}
use mathlib.Core.Logic.{inl, inr}
use Prim.Native.Nat.{ℕ, zero, suc, ◌+◌, ◌*◌, ◌/◌, ◌%◌, ◌^◌, ◌≤◌}
use native.Mathlib.Nat.{pow-succ', eq-or-lt_of_le}
use native.Mathlib.Omega.{arith}
use borrow.Author.Tests.{eqb-true, eq-eqb}
use lib.Count.{ones, ones_in, ones_step}
use Rattle.std.proofs.lemmas.Nat.{zero_from_ones}
use Rattle.std.specs.Int.{is_power_of_two}
use Rattle.lent.specs.Says.{Says}
use Rattle.model.specs.WellFormed.{Power}

ones-one : ones 1 ≡ 1
unfolding ones ones_in
ones-one = refl

ones-power : (i : ℕ) → ones (2 ^ i) ≡ 1
ones-power zero = ones-one
ones-power (suc i) =
    let half : 2 * 2 ^ i / 2 ≡ 2 ^ i = omega arith in
    let even : 2 * 2 ^ i % 2 ≡ 0 = omega arith in
    rw (pow-succ' 2 i) (ones_step (2 * 2 ^ i) ∙ rw (half, even) (omega (arith, ones-power i)))

ones-none : ones 0 ≡ 0
unfolding ones ones_in
ones-none = refl

ones-low : (n : ℕ) → n % 2 ≤ 1
ones-low n = omega arith

-- the lowest digit is the one that is set, or it is the last of a power of two
power-ones : (most n : ℕ) → n ≤ most → ones n ≡ 1 → Power n
power-ones zero n h e = let z : n ≡ 0 = omega arith in absurd (omega (arith, ap ones z ∙ ones-none, e))
power-ones (suc most) n h e =
    let step : n % 2 + ones (n / 2) ≡ 1 = sym (ones_step n) ∙ e in
    elim (eq-or-lt_of_le (ones-low n)) [
      | inl odd ↦ let z : n / 2 ≡ 0 = zero_from_ones (n / 2) (omega arith) in (0, omega arith)
      | inr even ↦ let p : Power (n / 2) = power-ones most (n / 2) (omega arith) (omega arith) in (suc p.0, rw (pow-succ' 2 p.0) (omega (arith, p.1)))
    ]

pub says-power : (n : ℕ) → Says (is_power_of_two n) (Power n)
says-power n = record { only = λ e. power-ones n n (omega arith) (eqb-true _ _ e); whenever = λ p. eq-eqb _ _ (ap ones p.1 ∙ ones-power p.0) }
