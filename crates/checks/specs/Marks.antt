-- The words that a slice is given before `fresh`. Assumes nothing.
use Rattle.std.specs.Prelude.{◌≡◌, List, ℕ, ◌+◌, ◌%◌, ◌<◌, length, slice_index_or}

-- the word that place i is given before `fresh`
abbrev pub mark_of : ℕ → ℕ
mark_of i = 1 + i % 65535

-- each of the first n elements is what its place's word gives
abbrev pub MarkedBy : {T : Type 0} → (ℕ → T → Type 0) → ℕ → List T → Type 0
MarkedBy {T} gives n xs = (i : ℕ) (d : T) → i < n → gives (mark_of i) (slice_index_or xs i d)

abbrev pub Marked : List ℕ → Type 0
Marked ws = MarkedBy (λ n w. w ≡ n) (length ws) ws
