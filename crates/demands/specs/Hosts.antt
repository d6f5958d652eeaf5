-- The demands over the calls for C: what any row of them leaves, and demand 3 over `amzighrod_next`. Assumes nothing.
use Rattle.std.specs.Prelude.{◌≡◌, true, false, List, ◌⊎◌, ℕ, length, Ok}
use Rattle.value.specs.declared.Words.{Words}
use Rattle.value.specs.Same.{is_nil}
use Rattle.key.specs.Canonical.{canonical_key}
use Rattle.model.specs.Entries.{Entry, keys_of, member}
use Rattle.walk.specs.Walked.{at_start}
use Rattle.store.specs.Store.{Store}
use Rattle.store.specs.Written.{table_of}
use Rattle.reads.specs.Reads.{NextAnswers}
use Rattle.host.specs.Host.{FreshGives, GetGives, SetGives, NextGives, ReserveGives}
use Rattle.reads.specs.declared.Next.TheVariants.{Found}

-- calls of a host in C, one after the other, on the slices and the record that the one before left: whatever it passes, and whatever number
-- comes back. The calls that read are lent what they look at and may come anywhere
pub data FromC : Store → Store → Type 0 where
  none : {s : Store} → FromC s s
  fresh : {s t u : Store} (r : ℕ) → FreshGives s.slices t.slices s.sizes t.sizes r → FromC t u → FromC s u
  set : {s t u : Store} (key v before after : Words) (r : ℕ) → SetGives s key v before t after r → FromC t u → FromC s u
  reserve : {s t u : Store} (n r : ℕ) → ReserveGives s n t r → FromC t u → FromC s u

-- at a moment of a walk, of any call of `amzighrod_next` with the key last handed out: the host's key and value before it and after it, and the
-- number that it returns, 0 for a pair and 1 for Last
pub record HostWalked (s₀ s : Store) (key : Words) (handed : List Entry) (Through : Words → Type 0) : Type 0 where
  -- never 2, NotFound, and never a refusal
  pub numbers : (before after : Entry) (r : ℕ) → before.key ≡ key → NextGives s before after r → (r ≡ 0) ⊎ (r ≡ 1)
  -- a pair is the one that `next` hands out: the walk goes on from its key
  pub on : (before after : Entry) → before.key ≡ key → NextGives s before after 0 → NextAnswers s key (Ok (Found after.key after.value))
  -- it shows the value held at that moment, never Nil, and its key is new
  pub shows : (before after : Entry) → before.key ≡ key → NextGives s before after 0
      → ((x y : Words) (r : ℕ) → GetGives s after.key x y r → (r ≡ 0) × (y ≡ after.value)) × (is_nil after.value ≡ false) × (member (keys_of handed) after.key ≡ false)
  -- after n pairs Last, n being the keys with a value at the start
  pub ends : (before after : Entry) (r : ℕ) → before.key ≡ key → length handed ≡ at_start (table_of s₀) → NextGives s before after r → r ≡ 1
  -- at Last nothing is written, and each key with a value throughout has come
  pub all : (before after : Entry) → before.key ≡ key → NextGives s before after 1
      → (after ≡ before) × ((j k : Words) → canonical_key j ≡ Ok k → Through j → member (keys_of handed) k ≡ true)
