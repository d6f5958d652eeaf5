-- The original's RawTable (raw.rs) written down on values: an array, and a map of cells whose keys are live or dead. What hashbrown and Vec
-- decide is a free choice at each call: whether the map has room, how long the grown array is, and the order of the map (`Runs`). A panic is no
-- outcome, so what holds for every choice holds for the original while it does not panic. Where the host's objects stand is a parameter.
-- Assumes nothing.
use Rattle.std.specs.Prelude.{◌≡◌, Bool, true, false, cond, ◌&&◌, not, List, [], ◌∷◌, ◌++◌, ℕ, suc, pred, ◌+◌, ◌^◌, ◌≤◌, eqb, leb, ltb, length, get_or, set, drop, Option, None}
use Rattle.value.specs.declared.Words.{Words}
use Rattle.value.specs.Same.{same, nil, is_nil}
use Rattle.key.specs.Canonical.{integer, on_key}
use Rattle.key.specs.Original.{original_key, original_index}
use Rattle.model.specs.Entries.{Entry, keep, NextValue, found, last, not_found}
use Rattle.model.specs.Table.{below, offset, array_pairs}
use Rattle.model.specs.Growth.{tabulate}
use Rattle.model.specs.Length.{halve, double}

-- `Key`: a dead one keeps the object's address alone
pub data MapKey : Type 0 where
  alive : Words → MapKey
  dead : ℕ → MapKey

pub record Cell : Type 0 where
  pub key : MapKey
  pub value : Words

abbrev pub cell : MapKey → Words → Cell
cell k v = record { key = k; value = v }

pub record Original : Type 0 where
  pub array : List Words
  pub map : List Cell

abbrev pub new : Original
new = record { array = []; map = [] }

-- the kinds that the collector owns: String, Table, Closure, Callback, Thread, UserData
abbrev pub is_object : Words → Bool
is_object k = leb 4 k.kind

-- where the host's objects stand: those of another kind or another handle are at another address. So an address is not used again where its
-- object is gone; what the original does where the collector uses one again is in docs/DIFFERENCES.md
pub record Addresses : Type 0 where
  pub address : Words → ℕ
  pub apart : (j k : Words) → is_object j ≡ true → is_object k ≡ true → address j ≡ address k → j ≡ k

-- what `set_reserved_value` makes of a key that it finds dead
abbrev pub revived : Words → MapKey → MapKey
revived k (alive a) = alive a
revived k (dead a) = alive k

abbrev pub has_value : Cell → Bool
has_value c = not (is_nil c.value)

abbrev pub map_index : MapKey → Option ℕ
map_index (alive k) = original_index k
map_index (dead a) = None

pub record Choice : Type 0 where
  -- whether `map.len() < map.capacity()`, or for reserve whether nothing need be done
  pub room : Bool
  -- the array's length where it grows; a Vec has fewer than 2 ^ 59 values
  pub size : ℕ
  pub fits : size ≤ 2 ^ 62

pub record OriginalOutcome : Type 0 where
  pub refusal : ℕ
  pub previous : Words
  pub now : Original

abbrev pub original_outcome : ℕ → Words → Original → OriginalOutcome
original_outcome n p r = record { refusal = n; previous = p; now = r }

abbrev pub with_array : Original → List Words → Original
with_array r l = record { array = l; map = r.map }

abbrev pub with_map : Original → List Cell → Original
with_map r m = record { array = r.array; map = m }

-- ---- reserve_map
unfoldable pub original_reserve : Choice → Original → Original
original_reserve c r = cond c.room r (with_map r (keep has_value r.map))

-- ---- the first pair of a walk: through the array, then through the map in its order. A dead key with a value would panic; NotFound stands
-- for that
abbrev pub found_at : MapKey → Words → NextValue
found_at (alive k) v = found k v
found_at (dead a) v = not_found

abbrev pub first_cell : List Cell → NextValue
first_cell [] = last
first_cell (c ∷ cs) = cond (is_nil c.value) (first_cell cs) (found_at c.key c.value)

abbrev pub first_pair : List Entry → List Cell → NextValue
first_pair [] cs = first_cell cs
first_pair (s ∷ ss) cs = cond (is_nil s.value) (first_pair ss cs) (found s.key s.value)

module _ (addresses : Addresses) where
  -- `Key::eq`: a dead key is any object at its address. Searches go by hash first, which is left out: a key meets its own dead key always, and
  -- no other object is at that address
  unfoldable pub matches : MapKey → Words → Bool
  matches (alive a) k = same a k
  matches (dead a) k = is_object k && eqb a (addresses.address k)

  -- `Key::kill`
  abbrev pub killed : MapKey → MapKey
  killed (alive k) = cond (is_object k) (dead (addresses.address k)) (alive k)
  killed (dead a) = dead a

  -- ---- the map
  abbrev pub has_cell : List Cell → Words → Bool
  has_cell [] k = false
  has_cell (c ∷ cs) k = cond (matches c.key k) true (has_cell cs k)

  abbrev pub find_cell : List Cell → Words → Words
  find_cell [] k = nil
  find_cell (c ∷ cs) k = cond (matches c.key k) c.value (find_cell cs k)

  -- the cell of k, its key changed by f and its value replaced
  abbrev pub write_cell : List Cell → Words → (MapKey → MapKey) → Words → List Cell
  write_cell [] k f v = []
  write_cell (c ∷ cs) k f v = cond (matches c.key k) (cell (f c.key) v ∷ cs) (c ∷ write_cell cs k f v)

  -- ---- get
  unfoldable pub original_get : Original → Words → Words
  original_get r key =
      cond (below (length r.array) (original_index key))
      (get_or r.array (offset (original_index key)) nil)
      (on_key (original_key key) (λ n. nil) (find_cell r.map))

  -- ---- set
  -- `set_reserved_value`
  unfoldable pub set_reserved : Original → Words → Words → OriginalOutcome
  set_reserved r k v =
      cond (has_cell r.map k)
      (original_outcome 0 (find_cell r.map k) (with_map r (write_cell r.map k (revived k) v)))
      (original_outcome 0 nil (with_map r (r.map ++ (cell (alive k) v ∷ []))))

  -- growth of the array, if it grows: Nil to its new length, then each cell with a value and an index below that moved there; the others with a
  -- value stay
  abbrev pub grown_value_at : Original → ℕ → Words
  grown_value_at r i = cond (is_nil (find_cell r.map (integer (suc i)))) (get_or r.array i nil) (find_cell r.map (integer (suc i)))

  unfoldable pub resized : Original → ℕ → Original
  resized r size =
      record {
        array = tabulate size (grown_value_at r) 0;
        map = keep (λ c. has_value c && not (below size (map_index c.key))) r.map;
      }

  unfoldable pub grown : Choice → Original → Original
  grown c r = cond (ltb (length r.array) c.size) (resized r c.size) r

  unfoldable pub original_set : Choice → Original → Words → Words → OriginalOutcome
  original_set c r key v =
      cond (below (length r.array) (original_index key))
      (original_outcome 0 (get_or r.array (offset (original_index key)) nil) (with_array r (set r.array (offset (original_index key)) v)))
      (on_key (original_key key) (λ n. original_outcome n nil r)
      (λ k. cond (is_nil v)
      (cond (has_cell r.map k) (original_outcome 0 (find_cell r.map k) (with_map r (write_cell r.map k killed nil))) (original_outcome 0 nil r))
      (cond c.room
      (set_reserved r k v)
      (cond (below (length (grown c r).array) (original_index key))
      (original_outcome 0 (get_or (grown c r).array (offset (original_index key)) nil) (with_array (grown c r) (set (grown c r).array (offset (original_index key)) v)))
      (set_reserved (grown c r) k v)))))

  -- ---- next
  abbrev pub from_cell : List Cell → Words → NextValue
  from_cell [] k = not_found
  from_cell (c ∷ cs) k = cond (matches c.key k) (first_cell cs) (from_cell cs k)

  unfoldable pub original_next : Original → Words → NextValue
  original_next r key =
      cond (below (length r.array) (original_index key))
      (first_pair (drop (suc (offset (original_index key))) (array_pairs 0 r.array)) r.map)
      (cond (eqb key.kind 0)
      (first_pair (array_pairs 0 r.array) r.map)
      (on_key (original_key key) (λ n. not_found) (from_cell r.map)))

  -- ---- length: a key that the map still has at the largest integer ends the search there, cleared or not
  unfoldable pub original_length : Original → ℕ
  original_length r =
      let A = length r.array in
      cond (leb 1 A && is_nil (get_or r.array (pred A) nil))
      (halve (λ n. is_nil (get_or r.array (pred n) nil)) 64 0 A)
      (cond (eqb (length r.map) 0)
      A
      (let hi = double (λ n. has_cell r.map (integer n)) 64 (A + 1) in
      cond (has_cell r.map (integer hi)) hi (halve (λ n. is_nil (find_cell r.map (integer n))) 64 A hi)))
