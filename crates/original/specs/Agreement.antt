-- What agrees between our table and the original's after the same calls (demand 2). Assumes nothing.
use Rattle.std.specs.Prelude.{◌≡◌, true, List}
use Rattle.value.specs.declared.Words.{Words}
use Rattle.value.specs.Encoding.{Decodes}
use Rattle.value.specs.Same.{nil, is_nil}
use Rattle.key.specs.Canonical.{integer, largest}
use Rattle.model.specs.Entries.{Entry, keys_of, distinct, has, find}
use Rattle.model.specs.Table.{Table, get_of, next_of}
use Rattle.model.specs.Length.{length_of}
use Rattle.model.specs.Manual.{OneBorder, Lists}
use Rattle.original.specs.Original.{Addresses, Original, has_cell, find_cell, original_get, original_next, original_length}

-- two lists of pairs with the same pairs, each once
pub record SamePairs (l m : List Entry) : Type 0 where
  pub once_here : distinct (keys_of l)
  pub once_there : distinct (keys_of m)
  pub keys : (k : Words) → has l k ≡ has m k
  pub values : (k : Words) → find l k ≡ find m k

module _ (addresses : Addresses) where
  -- the original answers the largest integer, whose entry it still has, cleared
  abbrev pub ClearedLargest : Original → Type 0
  ClearedLargest r =
      (original_length addresses r ≡ largest) × (has_cell addresses r.map (integer largest) ≡ true) × (is_nil (find_cell addresses r.map (integer largest)) ≡ true)

  pub record Agree (t : Table) (r : Original) : Type 0 where
    pub gets : (key : Words) → Decodes key → get_of t key ≡ original_get addresses r key
    -- both walks end, and whatever they list are the same pairs
    pub end : (l : List Entry) × (m : List Entry) × Lists (next_of t) nil l × Lists (original_next addresses r) nil m
    pub walks : (l m : List Entry) → Lists (next_of t) nil l → Lists (original_next addresses r) nil m → SamePairs l m
    pub lengths : OneBorder t → (ClearedLargest r → ⊥) → length_of t ≡ original_length addresses r
