-- Demand 3 over the walker, through `next`: a walker that keeps the key of a walk, and what is promised of its step at any moment of the
-- walk. Assumes nothing.
use Rattle.std.specs.Prelude.{◌≡◌, true, false, List, length, Option, Some, None, Result, Ok, Err}
use Rattle.value.specs.declared.Words.{Words}
use Rattle.value.specs.declared.Value.{Value}
use Rattle.value.specs.declared.Value.TheVariants.{Nil}
use Rattle.value.specs.Encoding.{encoded}
use Rattle.key.specs.Canonical.{canonical_key}
use Rattle.model.specs.Entries.{Entry, keys_of, member}
use Rattle.walk.specs.Walked.{at_start}
use Rattle.store.specs.Store.{Store}
use Rattle.store.specs.Written.{table_of}
use Rattle.reads.specs.Reads.{NextAnswers}
use Rattle.table.specs.Values.{GetValue}
use Rattle.iter.specs.declared.Walker.{Walker}
use Rattle.iter.specs.Walker.{stepped, WalkerSteps}
use Rattle.value.specs.declared.refusal.Refusal.{Refusal}
use Rattle.reads.specs.declared.Next.TheVariants.{Found}

-- a walker that is not at its end, with this key
abbrev pub Keeps : Walker → Words → Type 0
Keeps w key = (encoded w.key ≡ key) × (w.done ≡ false)

-- at a moment of a walk, of any step that the walker may take then and the walker w' after it
pub record WalkerWalked (s₀ s : Store) (key : Words) (handed : List Entry) (Through : Words → Type 0) (w : Walker) : Type 0 where
  -- a pair is the one that `next` hands out, and the walker keeps its key: the walk goes on
  pub on : (w' : Walker) (k v : Value) → WalkerSteps s w (stepped w' (Ok (Some (k, v)))) → NextAnswers s key (Ok (Found (encoded k) (encoded v))) × Keeps w' (encoded k)
  -- it shows the value held at that moment, never Nil, and its key is new
  pub shows : (w' : Walker) (k v : Value) → WalkerSteps s w (stepped w' (Ok (Some (k, v))))
      → ((a : Result Value Refusal) → GetValue s k a → a ≡ Ok v) × (v ≡ Nil → ⊥) × (member (keys_of handed) (encoded k) ≡ false)
  pub not_refused : (w' : Walker) (e : Refusal) → WalkerSteps s w (stepped w' (Err e)) → ⊥
  -- after n pairs the end, n being the keys with a value at the start
  pub ends : (w' : Walker) (a : Result (Option (Value × Value)) Refusal) → length handed ≡ at_start (table_of s₀) → WalkerSteps s w (stepped w' a) → a ≡ Ok None
  -- at the end, each key with a value throughout has come, and the walker stays there
  pub all : (w' : Walker) → WalkerSteps s w (stepped w' (Ok None)) → (w'.done ≡ true) × ((j k : Words) → canonical_key j ≡ Ok k → Through j → member (keys_of handed) k ≡ true)
