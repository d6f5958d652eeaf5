-- Growth (01, 'Growth', steps 1 to 4): the candidates and their classes, the size S, what is dropped and moved, and the allowance M.
-- Assumes nothing.
use Rattle.std.specs.Prelude.{Bool, cond, ◌&&◌, not, List, [], ◌∷◌, ℕ, zero, suc, ◌+◌, ◌*◌, ◌/◌, ◌^◌, ◌≤◌, ◌<◌, min, max, eqb, leb, ltb, length, Option, Some, None}
use Rattle.std.specs.Float.Ieee.{size}
use Rattle.value.specs.declared.Words.{Words}
use Rattle.key.specs.Canonical.{integer, array_index}
use Rattle.model.specs.Entries.{Entry, keep, live}
use Rattle.model.specs.Table.{Room, Table, within, pairs, lookup}

-- step 1: the candidates are the array indices of the pairs with a value, and the new key's
abbrev pub with_index : Option ℕ → List ℕ → List ℕ
with_index (Some i) l = i ∷ l
with_index None l = l

abbrev pub indices : List Entry → List ℕ
indices [] = []
indices (s ∷ ss) = let rest = indices ss in cond (live s) (with_index (array_index s.key) rest) rest

unfoldable pub candidates : Table → Words → List ℕ
candidates t k = with_index (array_index k) (indices (pairs t))

-- how many of these numbers are below S
abbrev pub count_below : ℕ → List ℕ → ℕ
count_below S [] = 0
count_below S (i ∷ l) = cond (ltb i S) 1 0 + count_below S l

-- the class of an index is its count of significant bits: how many are of class c, and of the classes 0 to c together
abbrev pub tally : ℕ → List ℕ → ℕ
tally c [] = 0
tally c (i ∷ l) = cond (eqb (size i) c) 1 0 + tally c l

abbrev pub tally_to : ℕ → List ℕ → ℕ
tally_to zero l = tally zero l
tally_to (suc c) l = tally_to c l + tally (suc c) l

-- what S has to pass: it is at most a, and more than half of its places are counted
pub record Passes (count : ℕ → ℕ) (a S : ℕ) : Type 0 where
  pub fits : S ≤ a
  pub enough : S / 2 < count S

-- step 2: the largest power of two below 2 ^ n, at most a, with more than half of its places among the counted; 0 if none
unfoldable pub best : (ℕ → ℕ) → ℕ → ℕ → ℕ
best count a zero = 0
best count a (suc i) = cond (leb (2 ^ i) a && ltb (2 ^ i / 2) (count (2 ^ i))) (2 ^ i) (best count a i)

unfoldable pub optimal_size : Room → Table → Words → ℕ
optimal_size room t k = best (λ S. count_below S (candidates t k)) room.array_room room.classes

abbrev pub tabulate : {X : Type 0} → ℕ → (ℕ → X) → ℕ → List X
tabulate zero f i = []
tabulate (suc n) f i = f i ∷ tabulate n f (suc i)

-- step 3: an array of at least S values, each what the table had at its key; cleared entries and those that the array has taken are gone
unfoldable pub stays : ℕ → Entry → Bool
stays A s = live s && not (within A s.key)

unfoldable pub rehashed : Table → ℕ → Table
rehashed t S =
    let A = max (length t.array) S in
    record {
      array = tabulate A (λ i. lookup t (integer (suc i))) 0;
      entries = keep (stays A) t.entries;
      allowance = t.allowance;
    }

-- step 4: the allowance where L entries remain
abbrev pub grown_allowance : ℕ → ℕ → ℕ → ℕ
grown_allowance e L M = cond (leb M (2 * L)) (min e (max 4 (2 * M))) M
