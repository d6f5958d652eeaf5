-- Values in lent words (01, 'The store'): two words a value, and the words past the last value 0. An entry is two values, its key and
-- then its value, so array words and entry words are read alike. Assumes nothing.
use Rattle.std.specs.Prelude.{◌≡◌, List, [], ◌∷◌, ◌++◌, ℕ, ◌+◌, ◌-◌, ◌*◌, ◌^◌, ◌≤◌, ◌<◌, length, get_or, set, replicate}
use Rattle.value.specs.declared.Words.{Words}
use Rattle.value.specs.Encoding.{words, Decodes}

-- value i of these words, and the key of entry i
abbrev pub value_at : List ℕ → ℕ → Words
value_at ws i = words (get_or ws (2 * i) 0) (get_or ws (2 * i + 1) 0)

abbrev pub key_at : List ℕ → ℕ → Words
key_at ws i = value_at ws (2 * i)

-- the words of these values, one value after the other
abbrev pub spread : List Words → List ℕ
spread [] = []
spread (v ∷ vs) = v.kind ∷ v.payload ∷ spread vs

-- n words: these values, then zeros
unfoldable pub lent_words : ℕ → List Words → List ℕ
lent_words n vs = spread vs ++ replicate (n - 2 * length vs) 0

-- these are 64-bit words, as those of a lent slice are by its type
abbrev pub WordSized : List ℕ → Type 0
WordSized ws = (i : ℕ) → get_or ws i 0 < 2 ^ 64

-- every value of these words decodes, the unused ones too
abbrev pub AllDecode : List ℕ → Type 0
AllDecode ws = (i : ℕ) → 2 * i + 2 ≤ length ws → Decodes (value_at ws i)

-- every word from place j on is 0
abbrev pub ZeroFrom : ℕ → List ℕ → Type 0
ZeroFrom j ws = (i : ℕ) → j ≤ i → i + 1 ≤ length ws → get_or ws i 0 ≡ 0

-- value i written over, and entry i: its key and then its value
unfoldable pub put_value : List ℕ → ℕ → Words → List ℕ
put_value ws i v = set (set ws (2 * i) v.kind) (2 * i + 1) v.payload

unfoldable pub put_entry : List ℕ → ℕ → Words → Words → List ℕ
put_entry ws i k v = put_value (put_value ws (2 * i) k) (2 * i + 1) v
