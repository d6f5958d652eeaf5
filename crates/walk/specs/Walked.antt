-- What demand 3 says of a walk at any moment of it: the table is t, `key` was handed out last, `handed` is all that was. Assumes nothing.
use Rattle.std.specs.Prelude.{◌≡◌, true, false, List, ℕ, ◌≤◌, length, Ok}
use Rattle.value.specs.declared.Words.{Words}
use Rattle.value.specs.Same.{is_nil}
use Rattle.key.specs.Canonical.{canonical_key}
use Rattle.model.specs.Entries.{Entry, keys_of, member, distinct, found, last, not_found}
use Rattle.model.specs.Table.{Room, Table, get_of, next_of}
use Rattle.model.specs.WellFormed.{WellFormed}
use Rattle.walk.specs.History.{live_keys}

-- n, the keys with a value at the start
abbrev pub at_start : Table → ℕ
at_start t₀ = length (live_keys t₀)

pub record TableWalked (room : Room) (t₀ t : Table) (key : Words) (handed : List Entry) (Throughout : Words → Type 0) : Type 0 where
  -- the table stays well-formed
  pub well_formed : WellFormed room t
  -- no step answers NotFound
  pub there : next_of t key ≡ not_found → ⊥
  -- no key comes twice
  pub once : distinct (keys_of handed)
  -- the next pair shows the value held at that moment, never Nil, and its key is new
  pub shows : (k v : Words) → next_of t key ≡ found k v → (get_of t k ≡ v) × (is_nil v ≡ false) × (member (keys_of handed) k ≡ false)
  -- at most n pairs come, and after n of them Last
  pub few : length handed ≤ at_start t₀
  pub ends : length handed ≡ at_start t₀ → next_of t key ≡ last
  -- at Last, each key with a value throughout has come
  pub all : next_of t key ≡ last → (j k : Words) → canonical_key j ≡ Ok k → Throughout j → member (keys_of handed) k ≡ true
