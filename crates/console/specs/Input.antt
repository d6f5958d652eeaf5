-- The input: its room, its little-endian words, and a record of a store in them. Assumes nothing.
use Rattle.std.specs.Prelude.{◌≡◌, List, ℕ, ◌+◌, ◌<◌, get_or, take, drop}
use Rattle.records.specs.Bytes.{number}
use Rattle.store.specs.declared.Record.{Record}

-- bytes of input, and words of a slice
abbrev pub byte_room : ℕ
byte_room = 524288

abbrev pub word_room : ℕ
word_room = 131080

-- eight bytes, the lowest first
abbrev pub word_at : List ℕ → ℕ → ℕ
word_at bs i = number (take 8 (drop i bs))

-- the first n words are these
abbrev pub Holds : (ℕ → ℕ) → ℕ → List ℕ → Type 0
Holds f n ws = (i : ℕ) → i < n → get_or ws i 0 ≡ f i

-- A, M and E in three words
abbrev pub sizes_at : List ℕ → ℕ → Record
sizes_at ws i = record { size = get_or ws i 0; allowance = get_or ws (i + 1) 0; count = get_or ws (i + 2) 0 }
