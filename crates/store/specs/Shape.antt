-- When lent slices and a record have the right shape (01, 'The store'). Assumes nothing.
use Rattle.std.specs.Prelude.{◌≡◌, ◌*◌, ◌≤◌}
use Rattle.model.specs.WellFormed.{Power}
use Rattle.store.specs.declared.Record.{Record}
use Rattle.store.specs.Limits.{array_limit, entry_limit, index_limit}
use Rattle.store.specs.Store.{Store, Lengths, lengths_of, room_of}

-- the lengths are right: whole values and entries, as many as the limits allow, and a power of two of index words, two an entry at least
pub record RightLengths (l : Lengths) : Type 0 where
  pub array_whole : l.array ≡ 2 * (room_of l).array_room
  pub entries_whole : l.entries ≡ 4 * (room_of l).entry_room
  pub array_most : (room_of l).array_room ≤ array_limit
  pub entries_most : (room_of l).entry_room ≤ entry_limit
  pub index_power : Power l.index
  pub index_least : 2 ≤ l.index
  pub index_most : l.index ≤ index_limit
  pub index_enough : 2 * (room_of l).entry_room ≤ l.index

-- the shape is right: A ≤ a and E ≤ M ≤ e too
pub record Shape (l : Lengths) (r : Record) : Type 0 where
  pub lengths : RightLengths l
  pub size_fits : r.size ≤ (room_of l).array_room
  pub count_fits : r.count ≤ r.allowance
  pub allowance_fits : r.allowance ≤ (room_of l).entry_room

abbrev pub Shaped : Store → Type 0
Shaped s = Shape (lengths_of s.slices) s.sizes
