-- The canonical key of a value and its array index (01, 'Values and keys'). Three decisions stand apart: which floats are whole
-- numbers (`whole_of`), what 2 ^ 63 becomes (`whole_key`), and that a NaN is no key (`number_key`). Assumes nothing.
use Rattle.std.specs.Prelude.{ℕ, ◌-◌, ◌*◌, ◌/◌, ◌%◌, ◌^◌, Bool, true, false, ◌&&◌, cond, leb, ltb, eqb, Float, Option, Some, None, Result, Ok, Err}
use Rattle.std.specs.Float.{nan, inf, fin, binary64}
use Rattle.std.specs.Float.Ieee.{up, down, of_bits, nan_bits}
use Rattle.value.specs.declared.Words.{Words}
use Rattle.value.specs.Encoding.{words}
use Rattle.value.specs.Refusals.{refusal_number}
use Rattle.value.specs.declared.refusal.Refusal.{Refusal}
use Rattle.value.specs.declared.refusal.Refusal.TheVariants.{KeyIsNil, KeyIsNan}

abbrev pub integer : ℕ → Words
integer n = words 2 n

abbrev pub number : ℕ → Words
number b = words 3 b

-- the largest integer
abbrev pub largest : ℕ
largest = 9223372036854775807

-- the whole number ±n
abbrev pub whole : Bool → ℕ → Option (Bool × ℕ)
whole s n = Some (s, n)

-- ±a / c, where that is a whole number of size at most 2 ^ 63
abbrev pub ratio : Bool → ℕ → ℕ → Option (Bool × ℕ)
ratio s a c = cond (eqb (a % c) 0 && leb (a / c) (2 ^ 63)) (whole s (a / c)) None

-- the whole number that a float is. A finite float is m * 2 ^ e, the fraction m * up e / down e
unfoldable pub whole_of : Float → Option (Bool × ℕ)
whole_of nan = None
whole_of (inf s) = None
whole_of (fin s m e) = ratio s (m * up e) (down e)

-- the key of a Number that is the whole number ±n: that Integer, in two's complement. 2 ^ 63 becomes the largest integer, as in the original
abbrev pub whole_key : Bool → ℕ → Words
whole_key true n = integer ((2 ^ 64 - n) % 2 ^ 64)
whole_key false n = cond (eqb n (2 ^ 63)) (integer largest) (integer n)

abbrev pub key_of : ℕ → Option (Bool × ℕ) → Words
key_of b (Some (s, n)) = whole_key s n
key_of b None = number b

unfoldable pub number_key : ℕ → Result Words Refusal
number_key b = cond (nan_bits binary64 b) (Err KeyIsNan) (Ok (key_of b (whole_of (of_bits binary64 b))))

unfoldable pub canonical_key : Words → Result Words Refusal
canonical_key w = cond (eqb w.kind 0) (Err KeyIsNil) (cond (eqb w.kind 3) (number_key w.payload) (Ok w))

-- a call that wants a key goes by its canonical form, or by the refusal
abbrev pub on_key {ℓ} : {X : Type ℓ} → Result Words Refusal → (ℕ → X) → (Words → X) → X
on_key (Ok k) refused found = found k
on_key (Err e) refused found = refused (refusal_number e)

-- an Integer k > 0 has array index k - 1
unfoldable pub array_index : Words → Option ℕ
array_index k = cond (eqb k.kind 2 && (ltb 0 k.payload && leb k.payload largest)) (Some (k.payload - 1)) None
