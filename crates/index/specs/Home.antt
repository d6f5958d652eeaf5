-- The home of a key (01, 'The store': the index rule), and the ring of an index's places. Assumes nothing.
use Rattle.std.specs.Prelude.{ℕ, ◌+◌, ◌*◌, ◌/◌, ◌%◌, ◌^◌, cond, ◌==◌, bit_xor, nat_le}
use Rattle.value.specs.declared.Words.{Words}

-- the constant taken kind times. A kind that no value has counts as none, so that no word costs more than another
unfoldable pub multiple : ℕ → ℕ
multiple k = cond (nat_le k 9) (k * 0x9e3779b97f4a7c15) 0

abbrev pub folded_by : ℕ → ℕ → ℕ
folded_by s x = bit_xor x (x / 2 ^ s)

-- the sum modulo 2 ^ 64, and the two folds
unfoldable pub mixed : Words → ℕ
mixed k = folded_by 16 (folded_by 32 ((k.payload + multiple k.kind) % 2 ^ 64))

-- in an index of n words
unfoldable pub home_of : ℕ → Words → ℕ
home_of n k = mixed k % n

-- the place after j, upward by one and wrapping
unfoldable pub next_place : ℕ → ℕ → ℕ
next_place n j = cond (j + 1 == n) 0 (j + 1)
