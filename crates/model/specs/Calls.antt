-- The calls that write: set with its refusals in order, and reserve (01, 'Calls' and 'Growth', step 5). A refusal answers the table
-- as it was. Assumes nothing.
use Rattle.std.specs.Prelude.{Bool, cond, ◌&&◌, [], ◌∷◌, ◌++◌, ℕ, ◌+◌, ◌-◌, max, leb, ltb, length, get_or, set}
use Rattle.value.specs.declared.Words.{Words}
use Rattle.value.specs.Encoding.{decodes}
use Rattle.value.specs.Same.{nil, is_nil}
use Rattle.value.specs.Refusals.{no_room, no_value}
use Rattle.key.specs.Canonical.{canonical_key, on_key}
use Rattle.model.specs.Entries.{entry, has, find, put, keep, live}
use Rattle.model.specs.Table.{Room, Table, within, place_of}
use Rattle.model.specs.Growth.{optimal_size, rehashed, grown_allowance}

pub record Outcome : Type 0 where
  pub refusal : ℕ
  pub previous : Words
  pub table : Table

abbrev pub done : Words → Table → Outcome
done p t = record { refusal = 0; previous = p; table = t }

abbrev pub refuse : ℕ → Table → Outcome
refuse n t = record { refusal = n; previous = nil; table = t }

abbrev pub write_array : Table → Words → Words → Table
write_array t k v = record { array = set t.array (place_of k) v; entries = t.entries; allowance = t.allowance }

abbrev pub write_entry : Table → Words → Words → Table
write_entry t k v = record { array = t.array; entries = put t.entries k v; allowance = t.allowance }

abbrev pub append : Table → Words → Words → ℕ → Table
append t k v M = record { array = t.array; entries = t.entries ++ (entry k v ∷ []); allowance = M }

-- the pair goes into r, which growth made of t; there is no room exactly when it is not the array's and L = e
unfoldable pub place_in : ℕ → Table → Table → Words → Words → Outcome
place_in e t r k v =
    cond (within (length r.array) k)
    (done nil (write_array r k v))
    (cond (leb e (length r.entries))
    (refuse no_room t)
    (done nil (append r k v (grown_allowance e (length r.entries) r.allowance))))

unfoldable pub grow : Room → Table → Words → Words → Outcome
grow room t k v = place_in room.entry_room t (rehashed t (optimal_size room t k)) k v

unfoldable pub set_key : Room → Table → Words → Words → Outcome
set_key room t k v =
    cond (within (length t.array) k)
    (done (get_or t.array (place_of k) nil) (write_array t k v))
    (cond (has t.entries k)
    (done (find t.entries k) (write_entry t k v))
    (cond (is_nil v)
    (done nil t)
    (cond (ltb (length t.entries) t.allowance)
    (done nil (append t k v t.allowance))
    (grow room t k v))))

-- words that are no value's are refused before all else
abbrev pub are_values : Words → Words → Bool
are_values key v = decodes key && decodes v

unfoldable pub set_of : Room → Table → Words → Words → Outcome
set_of room t key v =
    cond (are_values key v)
    (on_key (canonical_key key) (λ n. refuse n t) (λ k. set_key room t k v))
    (refuse no_value t)

-- the entries that stay are L here too: cleared ones are dropped, none moves
unfoldable pub reserve_of : Room → Table → ℕ → Outcome
reserve_of room t n =
    let l = keep live t.entries in
    cond (leb n (t.allowance - length t.entries))
    (done nil t)
    (cond (ltb room.entry_room (length l + n))
    (refuse no_room t)
    (done nil (record { array = t.array; entries = l; allowance = max t.allowance (length l + n) })))
