-- The rule that settles it: an entry once made keeps its place until a new key finds no place or room is reserved; only then are cleared
-- entries dropped. Assumes nothing.
use Rattle.std.specs.Prelude.{◌≡◌, true, false, ℕ, ◌-◌, ◌≤◌, ◌<◌, length, get_or, Ok}
use Rattle.value.specs.declared.Words.{Words}
use Rattle.value.specs.Same.{nil, is_nil}
use Rattle.key.specs.Canonical.{canonical_key}
use Rattle.model.specs.Entries.{keys_of, has, live, Each}
use Rattle.model.specs.Table.{Table, within}
use Rattle.model.specs.Calls.{Outcome, are_values}

-- the key of the entry at a position
abbrev pub key_at : Table → ℕ → Words
key_at t i = get_or (keys_of t.entries) i nil

-- every entry of t stands in u where it stood, under its key; and the array is as long as it was, so that no key went into it
pub record KeepsPlaces (t u : Table) : Type 0 where
  pub array : length u.array ≡ length t.array
  pub entries : length t.entries ≤ length u.entries
  pub keys : (i : ℕ) → i < length t.entries → key_at u i ≡ key_at t i

-- a new key finds no place: it has no array index below A and no entry, it is to have a value, and the allowance is used up
pub record FindsNoPlace (t : Table) (k v : Words) : Type 0 where
  pub not_array : within (length t.array) k ≡ false
  pub absent : has t.entries k ≡ false
  pub value : is_nil v ≡ false
  pub spent : t.allowance ≤ length t.entries

-- the two causes: a set whose key finds no place, and a reserve for which there is not room enough
abbrev pub SetGrows : Table → Words → Words → Type 0
SetGrows t key v = (are_values key v ≡ true) × ((k : Words) × (canonical_key key ≡ Ok k) × FindsNoPlace t k v)

abbrev pub ReserveGrows : Table → ℕ → Type 0
ReserveGrows t n = t.allowance - length t.entries < n

-- of a call on t with this outcome: without its cause, and where it is refused, every entry keeps its place; else no cleared entry is left
pub record Settles (t : Table) (Cause : Type 0) (o : Outcome) : Type 0 where
  pub stands : (Cause → ⊥) → KeepsPlaces t o.table
  pub refused : (o.refusal ≡ 0 → ⊥) → KeepsPlaces t o.table
  pub drops : Cause → o.refusal ≡ 0 → Each (λ s. live s ≡ true) o.table.entries
