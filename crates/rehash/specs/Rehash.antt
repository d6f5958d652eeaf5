-- What dropping and moving entries leaves (01, 'Growth', step 3), of any words, and on a sound store as the table's `rehashed`. Assumes
-- nothing.
use Rattle.std.specs.Prelude.{◌≡◌, true, false, cond, ◌&&◌, List, [], ◌∷◌, ◌++◌, ℕ, ◌-◌, ◌*◌, ◌≤◌, ◌<◌, length, get_or, take, drop, replicate}
use Rattle.lent.specs.Lent.{put_value}
use Rattle.model.specs.Entries.{Entry, keep, live}
use Rattle.model.specs.Table.{within, place_of}
use Rattle.model.specs.Growth.{stays, rehashed}
use Rattle.store.specs.declared.Record.{Record}
use Rattle.store.specs.Store.{Store, lengths_of}
use Rattle.store.specs.Written.{written, Sound, entry_at, table_of, entries_in}
use Rattle.rehash.specs.declared.Staying.{Staying}

abbrev pub staying_in : List ℕ → ℕ → ℕ → List Entry
staying_in ws e S = keep (stays S) (entries_in ws e)

-- every entry before this one stays
abbrev pub StaysTo : List ℕ → ℕ → ℕ → Type 0
StaysTo ws first S = (i : ℕ) → i < first → stays S (entry_at ws i) ≡ true

-- how many of the first e entries stay, and the first that goes; e if none does
pub record Surveyed (ws : List ℕ) (e S : ℕ) (r : Staying) : Type 0 where
  pub number : r.number ≡ length (staying_in ws e S)
  pub inside : r.first ≤ e
  pub before : StaysTo ws r.first S
  pub stops : r.first < e → stays S (entry_at ws r.first) ≡ false

-- the array words after an entry has gone there, where it has a value and an index below S; and after these entries, in turn
unfoldable pub sent : ℕ → List ℕ → Entry → List ℕ
sent S ws s = cond (live s && within S s.key) (put_value ws (place_of s.key) s.value) ws

abbrev pub moved : ℕ → List ℕ → List Entry → List ℕ
moved S ws [] = ws
moved S ws (s ∷ ss) = moved S (sent S ws s) ss

-- array words aw and entry words ew after the first i entries were looked at, of which n stay; none before `first` was touched
pub record Compacted (aw ew : List ℕ) (first S i n : ℕ) (aw' ew' : List ℕ) : Type 0 where
  pub some : first ≤ n
  pub few : n ≤ i
  pub entries : entries_in ew' n ≡ staying_in ew i S
  pub array : aw' ≡ moved S aw (entries_in ew i)
  pub front : (j : ℕ) → j < 4 * first → get_or ew' j 0 ≡ get_or ew j 0
  pub rest : (j : ℕ) → 4 * i ≤ j → get_or ew' j 0 ≡ get_or ew j 0
  pub array_long : length aw' ≡ length aw
  pub entries_long : length ew' ≡ length ew

-- these words with 0 from one place to another
abbrev pub zeroed : List ℕ → ℕ → ℕ → List ℕ
zeroed ws from to = take from ws ++ (replicate (to - from) 0 ++ drop to ws)

-- `first` is the first entry that goes, the count where none does: then nothing is touched
pub record Rehashes (before : Store) (S first : ℕ) (r : Record) (after : Store) : Type 0 where
  pub size : r.size ≡ S
  pub allowance : r.allowance ≡ before.sizes.allowance
  pub count : r.count ≡ length (staying_in before.slices.entries before.sizes.count S)
  pub still : first ≡ before.sizes.count → after.slices ≡ before.slices
  pub sound : Sound before → after ≡ written (lengths_of before.slices) (rehashed (table_of before) S)
