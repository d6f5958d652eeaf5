-- The bytes of the trace program's rooms: the constants of src/main.rt, which says why so many. Assumes nothing.
use Rattle.std.specs.Prelude.{ℕ, ◌+◌, ◌*◌}
use Rattle.replies.specs.Replies.{longest}

abbrev pub input_room : ℕ
input_room = 131072

abbrev pub output_room : ℕ
output_room = 3 * input_room + longest
