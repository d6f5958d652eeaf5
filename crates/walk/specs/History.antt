-- A walk by `next`, with what may come between its steps (demand 3): reads, refused calls, sets of Nil, and sets of anything to keys that
-- had a value when the walk began. The walk begins before its first step. Assumes nothing.
use Rattle.std.specs.Prelude.{◌≡◌, true, false, List, [], ◌∷◌}
use Rattle.value.specs.declared.Words.{Words}
use Rattle.value.specs.Same.{nil, is_nil}
use Rattle.key.specs.Canonical.{canonical_key, on_key}
use Rattle.model.specs.Entries.{Entry, entry, keys_of, member, keep, live, found}
use Rattle.model.specs.Table.{Room, Table, pairs, get_of, next_of}
use Rattle.model.specs.Calls.{set_of}

-- the keys with a value
unfoldable pub live_keys : Table → List Words
live_keys t = keys_of (keep live (pairs t))

-- a key whose canonical form is one of these
abbrev pub Among : List Words → Words → Type 0
Among ks key = on_key (canonical_key key) (λ n. ⊥) (λ k. member ks k ≡ true)

-- a set that may come between steps: of Nil, or of anything to one of these keys
abbrev pub May : List Words → Words → Words → Type 0
May allowed k v = is_nil v ≡ false → Among allowed k

-- `History room t₀ t allowed key handed`: a walk began on t₀ and the table is t now; `allowed` are the keys that may be set to anything,
-- `key` is the one last handed out, Nil before the first step, and `handed` is all that was handed out, the latest first
pub data History (room : Room) (t₀ : Table) : Table → List Words → Words → List Entry → Type 0 where
  begin : History room t₀ t₀ (live_keys t₀) nil []
  -- any call that leaves the table as it was: every read, and every refused call
  still : {t u : Table} {allowed : List Words} {key : Words} {handed : List Entry} → u ≡ t → History room t₀ t allowed key handed → History room t₀ u allowed key handed
  set : {t u : Table} {allowed : List Words} {key : Words} {handed : List Entry} (k v : Words) → May allowed k v → u ≡ (set_of room t k v).table
      → History room t₀ t allowed key handed → History room t₀ u allowed key handed
  step : {t : Table} {allowed : List Words} {key : Words} {handed : List Entry} (k v : Words) → next_of t key ≡ found k v → History room t₀ t allowed key handed → History room t₀ t allowed k (entry k v ∷ handed)

-- a key that has a value at every moment of the walk
abbrev pub Throughout : {room : Room} {t₀ t : Table} {allowed : List Words} {key : Words} {handed : List Entry} → History room t₀ t allowed key handed → Words → Type 0
Throughout {t₀ = t₀} begin j = is_nil (get_of t₀ j) ≡ false
Throughout (still e w) j = Throughout w j
Throughout (set {u = u} k v m e w) j = (is_nil (get_of u j) ≡ false) × Throughout w j
Throughout (step k v n w) j = Throughout w j
