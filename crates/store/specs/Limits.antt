-- The limits of lent room (01, 'The store'), and the number of class counts that goes with them. These, the constants in src/ of this
-- crate and of growth, and the width of an index word (index/specs/Index.antt) are all that names them, beside the rows of model. Assumes nothing.
use Rattle.std.specs.Prelude.{ℕ}

-- array values
abbrev pub array_limit : ℕ
array_limit = 65536

abbrev pub entry_limit : ℕ
entry_limit = 32768

-- index words
abbrev pub index_limit : ℕ
index_limit = 65536

abbrev pub class_counts : ℕ
class_counts = 17
