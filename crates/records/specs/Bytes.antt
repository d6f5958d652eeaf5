-- Numbers, values and records as bytes, the lowest byte first (01, 'Trace program'). Assumes nothing.
use Rattle.std.specs.Prelude.{List, [], ◌∷◌, ◌++◌, ℕ, zero, suc, ◌+◌, ◌*◌, ◌/◌, ◌%◌, ◌<◌, length, get_or, take, drop}
use Rattle.value.specs.declared.Words.{Words}
use Rattle.value.specs.Encoding.{words}

-- these are bytes, as those of a slice are by its type
abbrev pub AllBytes : List ℕ → Type 0
AllBytes bs = (i : ℕ) → get_or bs i 0 < 256

-- the number that bytes are
unfoldable pub number : List ℕ → ℕ
number [] = 0
number (b ∷ bs) = b + 256 * number bs

-- so many bytes of a number
unfoldable pub little_endian : ℕ → ℕ → List ℕ
little_endian zero n = []
little_endian (suc k) n = n % 256 ∷ little_endian k (n / 256)

-- kind byte, 8 payload bytes
abbrev pub value_bytes : Words → List ℕ
value_bytes w = little_endian 1 w.kind ++ little_endian 8 w.payload

abbrev pub value_in : ℕ → List ℕ → Words
value_in at bs = words (number (take 1 (drop at bs))) (number (take 8 (drop (at + 1) bs)))

-- a record: the length of the rest, the kind, the body
abbrev pub head_bytes : ℕ → ℕ → List ℕ
head_bytes n k = little_endian 2 (2 + n) ++ little_endian 2 k

abbrev pub framed : ℕ → List ℕ → List ℕ
framed k body = head_bytes (length body) k ++ body
