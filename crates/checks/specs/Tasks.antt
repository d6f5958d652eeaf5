-- What a task takes of the input. Assumes nothing.
use Rattle.std.specs.Prelude.{◌≡◌, List, ℕ, ◌++◌, length, get_or, drop}
use Rattle.console.specs.Input.{sizes_at}
use Rattle.checks.specs.declared.Stored.{Stored}
use Rattle.checks.specs.declared.Task.{Task}
use Rattle.checks.specs.declared.Task.TheVariants.{Check, Fresh, Unknown}

-- these words begin with the store's three lengths, its record and its three slices, and go on with the rest
abbrev pub ReadsStore : List ℕ → Stored → List ℕ → Type 0
ReadsStore ws s rest =
    (length s.array.now ≡ get_or ws 0 0) × (length s.entries.now ≡ get_or ws 1 0) × (length s.index.now ≡ get_or ws 2 0)
    × (s.sizes ≡ sizes_at ws 3) × (drop 6 ws ≡ s.array.now ++ s.entries.now ++ s.index.now ++ rest)

-- how many words of the input are an index's
abbrev pub index_words : Task → ℕ
index_words (Check s) = length s.index.now
index_words (Fresh a e i) = 0
index_words Unknown = 0
