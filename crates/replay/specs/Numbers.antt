-- The numbers of the constants of src/main.rt, which says where they come from: contracts cite them, and proofs/Numbers.antt holds the
-- constants to them. Assumes nothing.
use Rattle.std.specs.Prelude.{ℕ, ◌+◌, ◌*◌}
use Rattle.replies.specs.Replies.{longest}

abbrev pub file_room : ℕ
file_room = 393216

abbrev pub most_input : ℕ
most_input = 65536

abbrev pub output_room : ℕ
output_room = 3 * most_input + longest

abbrev pub modulus : ℕ
modulus = 36028797018963913
