-- What the Lua 5.4 manual says of a table: a border (§3.4.7), and a traversal by `next` (§6.1). Assumes nothing.
use Rattle.std.specs.Prelude.{◌≡◌, true, false, not, List, [], ◌∷◌, ◌⊎◌, ℕ, suc, ◌≤◌}
use Rattle.value.specs.declared.Words.{Words}
use Rattle.value.specs.Same.{is_nil}
use Rattle.key.specs.Canonical.{integer, largest}
use Rattle.model.specs.Entries.{Entry, entry, keys_of, distinct, has, find, NextValue, found, last}
use Rattle.model.specs.Table.{Table, get_of}

-- (border == 0 or t[border] ~= nil) and (t[border + 1] == nil or border == math.maxinteger), of an integer that is not negative: words past
-- the largest integer's are the negative ones'
pub record Border (t : Table) (n : ℕ) : Type 0 where
  pub range : n ≤ largest
  pub lower : (n ≡ 0) ⊎ (is_nil (get_of t (integer n)) ≡ false)
  pub upper : (n ≡ largest) ⊎ (is_nil (get_of t (integer (suc n))) ≡ true)

unfoldable pub OneBorder : Table → Type 0
OneBorder t = (m n : ℕ) → Border t m → Border t n → m ≡ n

-- `next`, called from a key and then from each key handed out, lists these pairs, and then ends
pub data Lists (next : Words → NextValue) : Words → List Entry → Type 0 where
  end : {key : Words} → next key ≡ last → Lists next key []
  more : {key : Words} {ss : List Entry} (k v : Words) → next key ≡ found k v → Lists next k ss → Lists next key (entry k v ∷ ss)

-- the pairs of a map: each key with a value once, with that value, and no other key
pub record PairsOf (value : Words → Words) (l : List Entry) : Type 0 where
  pub once : distinct (keys_of l)
  pub keys : (k : Words) → has l k ≡ not (is_nil (value k))
  pub values : (k : Words) → find l k ≡ value k
