-- A well-formed table of a room: 01's sound store without its words, clause by clause in the order of a fault finder. Assumes nothing.
use Rattle.std.specs.Prelude.{◌≡◌, false, ◌⊎◌, ℕ, ◌^◌, ◌≤◌, ◌<◌, length, Ok}
use Rattle.value.specs.Encoding.{Decodes}
use Rattle.key.specs.Canonical.{canonical_key}
use Rattle.model.specs.Entries.{Entry, keys_of, distinct, Each}
use Rattle.model.specs.Table.{Room, Table, within}

-- a room whose array has Integers for its keys, and whose class counts reach as far as its array
pub record Fair (room : Room) : Type 0 where
  pub integers : room.array_room ≤ 2 ^ 62
  pub counted : room.array_room < 2 ^ room.classes

abbrev pub Power : ℕ → Type 0
Power n = (i : ℕ) × (n ≡ 2 ^ i)

abbrev pub ZeroOrPower : ℕ → Type 0
ZeroOrPower n = (n ≡ 0) ⊎ Power n

-- of an entry: its words decode; its key is canonical; that has no array index below A
abbrev pub DecodesBoth : Entry → Type 0
DecodesBoth s = Decodes s.key × Decodes s.value

abbrev pub Canonical : Entry → Type 0
Canonical s = canonical_key s.key ≡ Ok s.key

abbrev pub Outside : ℕ → Entry → Type 0
Outside A s = within A s.key ≡ false

pub record WellFormed (room : Room) (t : Table) : Type 0 where
  pub fair : Fair room
  pub array_fits : length t.array ≤ room.array_room
  pub entries_fit : length t.entries ≤ t.allowance
  pub allowance_fits : t.allowance ≤ room.entry_room
  pub power : ZeroOrPower (length t.array)
  pub array_decodes : Each Decodes t.array
  pub entries_decode : Each DecodesBoth t.entries
  pub canonical : Each Canonical t.entries
  pub outside : Each (Outside (length t.array)) t.entries
  pub apart : distinct (keys_of t.entries)
