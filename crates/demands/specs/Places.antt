-- The rule that settles it, on stores: an entry once made keeps its place until a new key finds no place or room is reserved; only then are
-- cleared entries dropped. Assumes nothing.
use Rattle.std.specs.Prelude.{◌≡◌, false, ℕ, ◌+◌, ◌*◌, ◌≤◌, ◌<◌}
use Rattle.value.specs.declared.Words.{Words}
use Rattle.value.specs.Same.{is_nil}
use Rattle.lent.specs.Lent.{value_at}
use Rattle.model.specs.Settles.{SetGrows, ReserveGrows}
use Rattle.store.specs.Store.{Store}
use Rattle.store.specs.Written.{table_of}
use Rattle.writes.specs.Writes.{Left}

-- the words of every entry's key are those that were there, and the array has as many values in use
pub record StaysPut (before after : Store) : Type 0 where
  pub size : after.sizes.size ≡ before.sizes.size
  pub count : before.sizes.count ≤ after.sizes.count
  pub keys : (i : ℕ) → i < before.sizes.count → value_at after.slices.entries (2 * i) ≡ value_at before.slices.entries (2 * i)

-- of what a call left: without its cause, and where it is refused, every entry stays put; else every entry that is left has a value
pub record LeavesPlaces (before : Store) (Cause : Type 0) (l : Left) : Type 0 where
  pub stands : (Cause → ⊥) → StaysPut before l.store
  pub refused : (l.refusal ≡ 0 → ⊥) → StaysPut before l.store
  pub drops : Cause → l.refusal ≡ 0 → (i : ℕ) → i < l.store.sizes.count → is_nil (value_at l.store.slices.entries (2 * i + 1)) ≡ false

abbrev pub SetLeavesPlaces : Store → Words → Words → Left → Type 0
SetLeavesPlaces s key v = LeavesPlaces s (SetGrows (table_of s) key v)

abbrev pub ReserveLeavesPlaces : Store → ℕ → Left → Type 0
ReserveLeavesPlaces s n = LeavesPlaces s (ReserveGrows (table_of s) n)
