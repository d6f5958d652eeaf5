-- The table as a value: an array part, entries in order, and an allowance (01, 'The store' and 'Calls': get and next).
-- Room and limits are parameters. Assumes nothing.
use Rattle.std.specs.Prelude.{Bool, false, cond, List, [], ◌∷◌, ◌++◌, ℕ, suc, eqb, ltb, length, get_or, Option, Some, None}
use Rattle.value.specs.declared.Words.{Words}
use Rattle.value.specs.Same.{nil}
use Rattle.value.specs.Refusals.{key_is_nil}
use Rattle.key.specs.Canonical.{integer, canonical_key, on_key, array_index}
use Rattle.model.specs.Entries.{Entry, entry, find, NextValue, not_found, first, from}

-- lent room for a array values and e entries, and how many class counts growth keeps: c of them leave out indices from 2 ^ (c - 1) up
pub record Room : Type 0 where
  pub array_room : ℕ
  pub entry_room : ℕ
  pub classes : ℕ

pub record Table : Type 0 where
  pub array : List Words
  pub entries : List Entry
  pub allowance : ℕ

abbrev pub fresh : Table
fresh = record { array = []; entries = []; allowance = 0 }

abbrev pub below : ℕ → Option ℕ → Bool
below A (Some i) = ltb i A
below A None = false

abbrev pub offset : Option ℕ → ℕ
offset (Some i) = i
offset None = 0

-- whether a key has an array index below A, and that place
unfoldable pub within : ℕ → Words → Bool
within A k = below A (array_index k)

abbrev pub place_of : Words → ℕ
place_of k = offset (array_index k)

-- the array's pairs, n of them before
abbrev pub array_pairs : ℕ → List Words → List Entry
array_pairs n [] = []
array_pairs n (v ∷ vs) = entry (integer (suc n)) v ∷ array_pairs (suc n) vs

-- every pair in the order of a walk, Nil values among them: the array by rising index, then the entries by position
unfoldable pub pairs : Table → List Entry
pairs t = array_pairs 0 t.array ++ t.entries

-- the value of a canonical key
unfoldable pub lookup : Table → Words → Words
lookup t k = cond (within (length t.array) k) (get_or t.array (place_of k) nil) (find t.entries k)

unfoldable pub get_of : Table → Words → Words
get_of t key = on_key (canonical_key key) (λ n. nil) (lookup t)

unfoldable pub next_of : Table → Words → NextValue
next_of t key = on_key (canonical_key key) (λ n. cond (eqb n key_is_nil) (first (pairs t)) not_found) (from (pairs t))
