-- The manual's raw equality of keys (§2.1, §3.4.4): numbers are equal when they denote equal mathematical values, whichever
-- of the two subtypes they have; every other value by its kind and payload. Assumes nothing.
use Rattle.std.specs.Prelude.{◌≡◌, Bool, cond, ◌&&◌, ◌||◌, ℕ, ◌-◌, ◌^◌, ◌≤◌, eqb, leb, pos, Float}
use Rattle.std.specs.Float.{fin, binary64}
use Rattle.std.specs.Float.Ieee.{of_bits, eq}
use Rattle.std.specs.Float.Ieee.Exact.{HasValue}
use Rattle.value.specs.declared.Words.{Words}
use Rattle.value.specs.Same.{same}
use Rattle.key.specs.Canonical.{integer, number, largest, whole_key}

abbrev pub is_number : Words → Bool
is_number v = eqb v.kind 2 || eqb v.kind 3

-- the size of the integer that a two's complement word stands for
abbrev pub magnitude : ℕ → ℕ
magnitude p = cond (leb (2 ^ 63) p) (2 ^ 64 - p) p

-- the number that a value denotes, exactly: `Float` has no bound on its digits, and `eq` compares exact values
unfoldable pub exact : Words → Float
exact v = cond (eqb v.kind 2) (fin (leb (2 ^ 63) v.payload) (magnitude v.payload) (pos 0)) (of_bits binary64 v.payload)

unfoldable pub raw_equal : Words → Words → Bool
raw_equal u v = cond (is_number u && is_number v) (eq (exact u) (exact v)) (same u v)

-- the one Number whose key is an Integer that it is not equal to: 2 ^ 63
abbrev pub saturates : Words → Bool
saturates v = same v (number 0x43e0000000000000)

-- the only two values that are one key though they are not equal: that Number and the largest Integer
abbrev pub exception : Words → Words → Bool
exception u v = (saturates u && same v (integer largest)) || (saturates v && same u (integer largest))

-- the whole number ±size that the Number with the bits b is equal to, and whose key is k
pub record IsInteger (b : ℕ) (k : Words) : Type 0 where
  pub sign : Bool
  pub size : ℕ
  pub value : HasValue (of_bits binary64 b) sign size 1
  pub small : size ≤ 2 ^ 63
  pub key : k ≡ whole_key sign size
