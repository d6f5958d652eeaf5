-- The index (01, 'The store'): 0 is empty, else an entry's position + 1; each entry stands in the first empty word at its home or after it.
-- Everything here is over lists of numbers and functions of position: the width of a word has one name, `word_bits`. Assumes nothing.
use Rattle.std.specs.Prelude.{◌≡◌, ℕ, zero, suc, ◌+◌, ◌<◌, Bool, true, false, cond, ◌||◌, List, [], ◌∷◌, length, replicate, nat_lt, slice_index, slice_set}
use Rattle.lent.specs.Lent.{key_at}
use Rattle.index.specs.Home.{home_of, next_place}

-- an index word has this many bits; `type Word` in src/ says where the number stands again
abbrev pub word_bits : ℕ
word_bits = 16

-- up from place j, f places at most, to the first word that the test stops at; where there is none, the place after those
unfoldable pub climb : (ℕ → Bool) → ℕ → List ℕ → ℕ → ℕ → ℕ
climb stop n l zero j = j
climb stop n l (suc f) j = let r = climb stop n l f (next_place n j) in cond (stop (slice_index l j)) j r

-- where a climb from home round the whole index stops
abbrev pub reached : (ℕ → Bool) → List ℕ → ℕ → ℕ
reached stop l h = climb stop (length l) l (length l) h

abbrev pub is_empty : ℕ → Bool
is_empty zero = true
is_empty (suc w) = false

-- entry i, whose home is h, is put in at the first empty word
unfoldable pub placed : List ℕ → ℕ → ℕ → List ℕ
placed l h i = slice_set l (reached is_empty l h) (i + 1)

-- n empty words, and then entries 0 to e - 1 put in, in turn; home i is the home of entry i
unfoldable pub index_of : ℕ → (ℕ → ℕ) → ℕ → List ℕ
index_of n home zero = replicate n 0
index_of n home (suc e) = placed (index_of n home e) (home e) e

-- the homes of entries in lent words, in an index of n words
abbrev pub homes : ℕ → List ℕ → ℕ → ℕ
homes n ws i = home_of n (key_at ws i)

-- the index of the first e of these entries, of n words
abbrev pub index_words : ℕ → List ℕ → ℕ → List ℕ
index_words n ws e = index_of n (homes n ws) e

-- l is the index of the first e of these entries
abbrev pub Indexes : List ℕ → ℕ → List ℕ → Type 0
Indexes ws e l = l ≡ index_words (length l) ws e

-- a word that is none of the first i entries': empty, or a later one's
abbrev pub not_before : ℕ → ℕ → Bool
not_before i w = is_empty w || nat_lt i w

-- where entry i, whose home is h, stands or would stand: the first place from h that no entry before it has
unfoldable pub seat_of : List ℕ → ℕ → ℕ → ℕ
seat_of l h i = reached (not_before i) l h

-- how many words are not empty
abbrev pub used : List ℕ → ℕ
used [] = 0
used (w ∷ l) = cond (is_empty w) (used l) (suc (used l))

-- no two of the first e entries have one key
abbrev pub Distinct : List ℕ → ℕ → Type 0
Distinct ws e = (i j : ℕ) → i < e → j < e → key_at ws i ≡ key_at ws j → i ≡ j

-- the index is right for the first e entries, and has an empty word
pub record Right (ws : List ℕ) (e : ℕ) (l : List ℕ) : Type 0 where
  pub room : e < length l
  pub distinct : Distinct ws e
  pub index : Indexes ws e l
