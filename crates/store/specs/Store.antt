-- A store: what three lent slices hold, and the record that goes with them (01, 'The store'). Assumes nothing.
use Rattle.std.specs.Prelude.{List, ℕ, ◌/◌, length}
use Rattle.model.specs.Table.{Room}
use Rattle.store.specs.declared.Record.{Record}
use Rattle.store.specs.declared.View.{View}
use Rattle.store.specs.Limits.{class_counts}

pub record Slices : Type 0 where
  pub array : List ℕ
  pub entries : List ℕ
  pub index : List ℕ

pub record Store : Type 0 where
  pub slices : Slices
  pub sizes : Record

abbrev pub slices : List ℕ → List ℕ → List ℕ → Slices
slices aw ew iw = record { array = aw; entries = ew; index = iw }

abbrev pub store : Slices → Record → Store
store l r = record { slices = l; sizes = r }

-- the store in these array words, entry words and index words
abbrev pub store_of : List ℕ → List ℕ → List ℕ → Record → Store
store_of aw ew iw r = store (slices aw ew iw) r

-- the store that a program looks at
abbrev pub seen : View → Store
seen v = store_of v.array.now v.entries.now v.index.now v.sizes

-- how many words each slice has
pub record Lengths : Type 0 where
  pub array : ℕ
  pub entries : ℕ
  pub index : ℕ

abbrev pub lengths : ℕ → ℕ → ℕ → Lengths
lengths a e n = record { array = a; entries = e; index = n }

abbrev pub lengths_of : Slices → Lengths
lengths_of l = lengths (length l.array) (length l.entries) (length l.index)

-- two words an array value, four an entry
abbrev pub room_of : Lengths → Room
room_of l = record { array_room = l.array / 2; entry_room = l.entries / 4; classes = class_counts }

abbrev pub room_for : Store → Room
room_for s = room_of (lengths_of s.slices)
