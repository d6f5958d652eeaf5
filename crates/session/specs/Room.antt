-- The room of a trace (01, 'Trace program'), and the words that it takes, with the least index for so many entries. Assumes nothing.
use Rattle.std.specs.Prelude.{◌*◌}
use Rattle.model.specs.Table.{Room, fresh}
use Rattle.store.specs.Limits.{class_counts}
use Rattle.store.specs.Store.{Store, Lengths, lengths}
use Rattle.store.specs.Written.{written}

abbrev pub trace_room : Room
trace_room = record { array_room = 1024; entry_room = 512; classes = class_counts }

abbrev pub trace_lengths : Lengths
trace_lengths = lengths (2 * trace_room.array_room) (4 * trace_room.entry_room) (2 * trace_room.entry_room)

-- the store that a trace begins with
abbrev pub trace_store : Store
trace_store = written trace_lengths fresh
