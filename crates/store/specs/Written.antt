-- A table written into lent words: one definition gives every array word, entry word and index word, and the record. A store is sound
-- exactly when it is the writing of a well-formed table of its room in 64-bit words (01, 'The store'). Assumes nothing.
use Rattle.std.specs.Prelude.{◌≡◌, List, [], ◌∷◌, ℕ, suc, ◌+◌, ◌*◌, length, get_or}
use Rattle.value.specs.declared.Words.{Words}
use Rattle.value.specs.Same.{nil}
use Rattle.key.specs.Canonical.{integer}
use Rattle.lent.specs.Lent.{value_at, lent_words, WordSized}
use Rattle.index.specs.Home.{home_of}
use Rattle.index.specs.Index.{index_of}
use Rattle.model.specs.Entries.{Entry, entry, keys_of}
use Rattle.model.specs.Table.{Table}
use Rattle.model.specs.Growth.{tabulate}
use Rattle.model.specs.WellFormed.{WellFormed}
use Rattle.store.specs.declared.Record.{Record}
use Rattle.store.specs.Store.{slices, Store, store, Lengths, lengths_of, room_for}
use Rattle.store.specs.Shape.{RightLengths}

-- an entry is two values: its key, and then its value
abbrev pub sides : List Entry → List Words
sides [] = []
sides (s ∷ ss) = s.key ∷ s.value ∷ sides ss

abbrev pub record_of : Table → Record
record_of t = record { size = length t.array; allowance = t.allowance; count = length t.entries }

-- the homes of these keys, in an index of n words
abbrev pub key_homes : ℕ → List Words → ℕ → ℕ
key_homes n ks i = home_of n (get_or ks i nil)

unfoldable pub written : Lengths → Table → Store
written l t =
    store
    (slices
    (lent_words l.array t.array)
    (lent_words l.entries (sides t.entries))
    (index_of l.index (key_homes l.index (keys_of t.entries)) (length t.entries)))
    (record_of t)

pub record Sound (s : Store) : Type 0 where
  pub lengths : RightLengths (lengths_of s.slices)
  pub table : Table
  pub formed : WellFormed (room_for s) table
  pub is : s ≡ written (lengths_of s.slices) table
  pub array_words : WordSized s.slices.array
  pub entry_words : WordSized s.slices.entries

-- place i of these array words as a pair, and entry i of these entry words
abbrev pub pair_at : List ℕ → ℕ → Entry
pair_at ws i = entry (integer (suc i)) (value_at ws i)

abbrev pub entry_at : List ℕ → ℕ → Entry
entry_at ws i = entry (value_at ws (2 * i)) (value_at ws (2 * i + 1))

-- the first e entries of these entry words
abbrev pub entries_in : List ℕ → ℕ → List Entry
entries_in ws e = tabulate e (entry_at ws) 0

-- the table that a store is read as
unfoldable pub table_of : Store → Table
table_of s =
    record {
      array = tabulate s.sizes.size (value_at s.slices.array) 0;
      entries = entries_in s.slices.entries s.sizes.count;
      allowance = s.sizes.allowance;
    }
