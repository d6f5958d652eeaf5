-- A walk on a store by `next`, with what may come between its steps (demand 3), and what is promised of it at every moment. Assumes nothing.
use Rattle.std.specs.Prelude.{◌≡◌, true, false, List, [], ◌∷◌, ◌≤◌, length, Result, Ok, Err}
use Rattle.value.specs.declared.Words.{Words}
use Rattle.value.specs.Same.{nil, is_nil}
use Rattle.key.specs.Canonical.{canonical_key}
use Rattle.model.specs.Entries.{Entry, entry, keys_of, member, distinct}
use Rattle.walk.specs.History.{live_keys, May}
use Rattle.walk.specs.Walked.{at_start}
use Rattle.store.specs.declared.Record.{Record}
use Rattle.store.specs.Store.{Slices, Store}
use Rattle.store.specs.Written.{Sound, table_of}
use Rattle.reads.specs.Reads.{GetAnswers, NextAnswers}
use Rattle.writes.specs.Writes.{set_left, SetDone}
use Rattle.value.specs.declared.refusal.Refusal.{Refusal}
use Rattle.reads.specs.declared.Next.{Next}
use Rattle.reads.specs.declared.Next.TheVariants.{Found, Last, NotFound}

-- `Walking s₀ s allowed key handed`: a walk began on s₀ and the store is s now; `allowed` are the keys that may be set to anything, `key` is
-- the one last handed out, Nil before the first step, and `handed` is all that was handed out, the latest first
pub data Walking (s₀ : Store) : Store → List Words → Words → List Entry → Type 0 where
  begin : Walking s₀ s₀ (live_keys (table_of s₀)) nil []
  -- any call that changes no word and not the record: every read, and every refused call, one with a wrong shape too
  still : {s u : Store} {allowed : List Words} {key : Words} {handed : List Entry} → u ≡ s → Walking s₀ s allowed key handed → Walking s₀ u allowed key handed
  set : {s : Store} {allowed : List Words} {key : Words} {handed : List Entry} (k v : Words) (after : Slices) (r : Result (Words × Record) Refusal) → SetDone s k v after r
      → May allowed k v → Walking s₀ s allowed key handed → Walking s₀ (set_left s.sizes after r).store allowed key handed
  step : {s : Store} {allowed : List Words} {key : Words} {handed : List Entry} (k v : Words) → NextAnswers s key (Ok (Found k v)) → Walking s₀ s allowed key handed
      → Walking s₀ s allowed k (entry k v ∷ handed)

-- a get of this key answers a value that is not Nil
abbrev pub HasValue : Result Words Refusal → Type 0
HasValue (Ok v) = is_nil v ≡ false
HasValue (Err e) = ⊥

abbrev pub Has : Store → Words → Type 0
Has s j = (a : Result Words Refusal) → GetAnswers s j a → HasValue a

-- at every moment of the walk
abbrev pub Throughout : {s₀ s : Store} {allowed : List Words} {key : Words} {handed : List Entry} → Walking s₀ s allowed key handed → Words → Type 0
Throughout {s₀ = s₀} begin j = Has s₀ j
Throughout (still e w) j = Throughout w j
Throughout (set {s = s} k v after r p m w) j = Has (set_left s.sizes after r).store j × Throughout w j
Throughout (step k v n w) j = Throughout w j

-- what demand 3 says at any moment, of any answer that `next` may give then
pub record StoreWalked (s₀ s : Store) (key : Words) (handed : List Entry) (Through : Words → Type 0) : Type 0 where
  pub sound : Sound s
  -- no step answers NotFound, and none is refused
  pub there : NextAnswers s key (Ok NotFound) → ⊥
  pub answered : (e : Refusal) → NextAnswers s key (Err e) → ⊥
  -- no key comes twice
  pub once : distinct (keys_of handed)
  -- the next pair shows the value held at that moment, never Nil, and its key is new
  pub shows : (k v : Words) → NextAnswers s key (Ok (Found k v)) → ((a : Result Words Refusal) → GetAnswers s k a → a ≡ Ok v) × (is_nil v ≡ false) × (member (keys_of handed) k ≡ false)
  -- at most n pairs come, n being the keys with a value at the start, and after n of them Last
  pub few : length handed ≤ at_start (table_of s₀)
  pub ends : (a : Result (Next Words) Refusal) → length handed ≡ at_start (table_of s₀) → NextAnswers s key a → a ≡ Ok Last
  -- at Last, each key with a value throughout has come
  pub all : NextAnswers s key (Ok Last) → (j k : Words) → canonical_key j ≡ Ok k → Through j → member (keys_of handed) k ≡ true
