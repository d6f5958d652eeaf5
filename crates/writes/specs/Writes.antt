-- What a call that writes promises (01, 'Calls', 'Growth' and 'Refusal numbers'), in three clauses: the shape; any refusal on any words; and
-- on a sound store the table's outcome, written out. Assumes nothing.
use Rattle.std.specs.Prelude.{◌≡◌, cond, ◌⊎◌, ℕ, Result, Ok, Err}
use Rattle.value.specs.declared.Words.{Words}
use Rattle.value.specs.Same.{nil}
use Rattle.value.specs.Refusals.{no_room, wrong_shape, no_value, refusal_number}
use Rattle.key.specs.Canonical.{canonical_key, on_key}
use Rattle.model.specs.Calls.{Outcome, are_values, set_of, reserve_of}
use Rattle.store.specs.declared.Record.{Record}
use Rattle.store.specs.Store.{Slices, Store, store, Lengths, lengths_of, room_for}
use Rattle.store.specs.Shape.{Shaped}
use Rattle.store.specs.Written.{written, Sound, table_of}
use Rattle.value.specs.declared.refusal.Refusal.{Refusal}

-- what a call leaves, in the paper's words: the refusal number, the previous value, and the store
pub record Left : Type 0 where
  pub refusal : ℕ
  pub previous : Words
  pub store : Store

abbrev pub left : ℕ → Words → Store → Left
left n p s = record { refusal = n; previous = p; store = s }

-- for each case of an answer: a refusal answers its number only, and leaves the record that was passed
abbrev pub set_left : Record → Slices → Result (Words × Record) Refusal → Left
set_left before after (Ok (p, r)) = left 0 p (store after r)
set_left before after (Err e) = left (refusal_number e) nil (store after before)

abbrev pub reserve_left : Record → Slices → Result Record Refusal → Left
reserve_left before after (Ok r) = left 0 nil (store after r)
reserve_left before after (Err e) = left (refusal_number e) nil (store after before)

-- a table's outcome, written out in slices of these lengths
abbrev pub written_out : Lengths → Outcome → Left
written_out l o = left o.refusal o.previous (written l o.table)

-- a refusal, on any words, changes no word and no record; on a sound store the outcome is the table's, to the last word
pub record Does (before : Store) (o : Outcome) (l : Left) : Type 0 where
  pub refused : (l.refusal ≡ 0 → ⊥) → l.store ≡ before
  pub sound : Sound before → l ≡ written_out (lengths_of before.slices) o

-- what is refused on any words of right shape: want of room only, or, of a set, words that are no value's, and then what its key is refused for
abbrev pub RoomOnly : ℕ → Type 0
RoomOnly n = (n ≡ 0) ⊎ (n ≡ no_room)

abbrev pub SetNumbers : Words → Words → ℕ → Type 0
SetNumbers key v n = cond (are_values key v) (on_key (canonical_key key) (λ m. n ≡ m) (λ k. RoomOnly n)) (n ≡ no_value)

pub record Promised (before : Store) (o : Outcome) (Numbers : ℕ → Type 0) (l : Left) : Type 0 where
  pub wrong : (Shaped before → ⊥) → l.refusal ≡ wrong_shape
  pub right : Shaped before → Numbers l.refusal
  pub does : Does before o l
  pub kept : Sound before → Sound l.store

abbrev pub set_outcome : Store → Words → Words → Outcome
set_outcome s key v = set_of (room_for s) (table_of s) key v

abbrev pub reserve_outcome : Store → ℕ → Outcome
reserve_outcome s n = reserve_of (room_for s) (table_of s) n

abbrev pub SetDone : Store → Words → Words → Slices → Result (Words × Record) Refusal → Type 0
SetDone before key v after r = Promised before (set_outcome before key v) (SetNumbers key v) (set_left before.sizes after r)

abbrev pub ReserveDone : Store → ℕ → Slices → Result Record Refusal → Type 0
ReserveDone before n after r = Promised before (reserve_outcome before n) RoomOnly (reserve_left before.sizes after r)
