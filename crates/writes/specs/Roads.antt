-- The roads of a set, beneath the public call: growth into the array and into the entries, a key that has no place, a canonical key.
-- Assumes nothing.
use Rattle.std.specs.Prelude.{◌≡◌, false, ℕ, length, Result, Ok, Err}
use Rattle.value.specs.declared.Words.{Words}
use Rattle.index.specs.Home.{home_of}
use Rattle.index.specs.Index.{reached, is_empty}
use Rattle.model.specs.Entries.{has}
use Rattle.model.specs.Table.{within}
use Rattle.model.specs.Growth.{rehashed, grown_allowance}
use Rattle.model.specs.Calls.{write_array, append, grow, set_key}
use Rattle.store.specs.declared.Record.{Record}
use Rattle.store.specs.Store.{Slices, Store, lengths_of, room_for}
use Rattle.store.specs.Written.{written, Sound, table_of}
use Rattle.writes.specs.Writes.{set_left, written_out, Does}
use Rattle.value.specs.declared.refusal.Refusal.{Refusal}
use Rattle.value.specs.declared.refusal.Refusal.TheVariants.{NoRoom}

-- beneath the public call, a set refuses for want of room only
abbrev pub RefusesRoom : Result (Words × Record) Refusal → Type 0
RefusesRoom (Ok (p, r)) = Unit {0}
RefusesRoom (Err e) = e ≡ NoRoom

-- growth to an array of size S, the new pair in the array, or among the entries
abbrev pub ArrayGrown : Store → ℕ → Words → Words → Store → Type 0
ArrayGrown before S k v after = Sound before → after ≡ written (lengths_of before.slices) (write_array (rehashed (table_of before) S) k v)

abbrev pub EntryGrown : Store → ℕ → Words → Words → Store → Type 0
EntryGrown before S k v after =
    let t = rehashed (table_of before) S in
    Sound before
    → after ≡ written (lengths_of before.slices) (append t k v (grown_allowance (room_for before).entry_room (length t.entries) t.allowance))

abbrev pub GrowDone : Store → Words → Words → Slices → Result (Words × Record) Refusal → Type 0
GrowDone before k v after r = RefusesRoom r × Does before (grow (room_for before) (table_of before) k v) (set_left before.sizes after r)

abbrev pub with_count : Record → ℕ → Record
with_count r n = record { size = r.size; allowance = r.allowance; count = n }

-- the key has no index below A and no entry, and this is the empty word where the search for it stops
pub record AbsentAt (s : Store) (place : ℕ) (k : Words) : Type 0 where
  pub outside : within s.sizes.size k ≡ false
  pub absent : has (table_of s).entries k ≡ false
  pub here : place ≡ reached is_empty s.slices.index (home_of (length s.slices.index) k)

pub record AbsentDoes (before : Store) (place : ℕ) (k v : Words) (after : Slices) (r : Result (Words × Record) Refusal) : Type 0 where
  pub number : RefusesRoom r
  pub refused : ((set_left before.sizes after r).refusal ≡ 0 → ⊥) → (set_left before.sizes after r).store ≡ before
  pub sound : Sound before → AbsentAt before place k
      → set_left before.sizes after r ≡ written_out (lengths_of before.slices) (set_key (room_for before) (table_of before) k v)

abbrev pub KeyDone : Store → Words → Words → Slices → Result (Words × Record) Refusal → Type 0
KeyDone before k v after r = RefusesRoom r × Does before (set_key (room_for before) (table_of before) k v) (set_left before.sizes after r)
