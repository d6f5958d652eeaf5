-- Why a set or a reserve is refused (01, 'Refusal numbers' and 'Growth', step 5). Assumes nothing.
use Rattle.std.specs.Prelude.{◌≡◌, true, false, ℕ, ◌+◌, ◌-◌, ◌≤◌, ◌<◌, length, Ok}
use Rattle.std.specs.Float.{binary64}
use Rattle.std.specs.Float.Ieee.{nan_bits}
use Rattle.value.specs.declared.Words.{Words}
use Rattle.value.specs.Refusals.{key_is_nil, key_is_nan, no_room, no_value}
use Rattle.key.specs.Canonical.{canonical_key}
use Rattle.model.specs.Entries.{keep, live}
use Rattle.model.specs.Table.{Room, Table, within}
use Rattle.model.specs.Growth.{optimal_size, rehashed}
use Rattle.model.specs.Calls.{are_values}
use Rattle.model.specs.Settles.{FindsNoPlace}

-- step 5, with what leads to growth
pub record Full (room : Room) (t : Table) (k v : Words) : Type 0 where
  pub grows : FindsNoPlace t k v
  pub beyond : within (length (rehashed t (optimal_size room t k)).array) k ≡ false
  pub no_place : room.entry_room ≤ length (rehashed t (optimal_size room t k)).entries

-- why a set is refused, and with what number
pub data Refused (room : Room) (t : Table) (key v : Words) : ℕ → Type 0 where
  not_values : are_values key v ≡ false → Refused room t key v no_value
  nil_key : are_values key v ≡ true → key.kind ≡ 0 → Refused room t key v key_is_nil
  nan_key : are_values key v ≡ true → key.kind ≡ 3 → nan_bits binary64 key.payload ≡ true → Refused room t key v key_is_nan
  full : are_values key v ≡ true → (k : Words) → canonical_key key ≡ Ok k → Full room t k v → Refused room t key v no_room

-- why a reserve of n entries is refused
pub record NoSpace (room : Room) (t : Table) (n : ℕ) : Type 0 where
  pub wanted : t.allowance - length t.entries < n
  pub over : room.entry_room < length (keep live t.entries) + n
