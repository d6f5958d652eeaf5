-- Lists of entries, each a key with its value: what a search finds, what a write leaves, what is kept, and what a walk hands out.
-- Assumes nothing.
use Rattle.std.specs.Prelude.{◌≡◌, Bool, false, not, cond, ◌||◌, List, [], ◌∷◌, map}
use Rattle.value.specs.declared.Words.{Words}
use Rattle.value.specs.Same.{same, nil, is_nil}

pub record Entry : Type 0 where
  pub key : Words
  pub value : Words

abbrev pub entry : Words → Words → Entry
entry k v = record { key = k; value = v }

abbrev pub keys_of : List Entry → List Words
keys_of l = map (λ (s : Entry). s.key) l

abbrev pub member : List Words → Words → Bool
member [] k = false
member (x ∷ xs) k = same x k || member xs k

abbrev pub distinct : List Words → Type 0
distinct [] = Unit {0}
distinct (x ∷ xs) = (member xs x ≡ false) × distinct xs

abbrev pub has : List Entry → Words → Bool
has l k = member (keys_of l) k

-- a key's value, Nil where there is none
abbrev pub find : List Entry → Words → Words
find [] k = nil
find (s ∷ ss) k = cond (same s.key k) s.value (find ss k)

-- a write to a key that is there
abbrev pub put : List Entry → Words → Words → List Entry
put [] k v = []
put (s ∷ ss) k v = cond (same s.key k) (entry s.key v ∷ ss) (s ∷ put ss k v)

abbrev pub keep : {X : Type 0} → (X → Bool) → List X → List X
keep p [] = []
keep p (x ∷ xs) = let rest = keep p xs in cond (p x) (x ∷ rest) rest

-- an entry that is not cleared
abbrev pub live : Entry → Bool
live s = not (is_nil s.value)

abbrev pub Each : {X : Type 0} → (X → Type 0) → List X → Type 0
Each P [] = Unit {0}
Each P (x ∷ xs) = P x × Each P xs

-- the original's NextValue
pub data NextValue : Type 0 where
  found : Words → Words → NextValue
  last : NextValue
  not_found : NextValue

-- the first pair, Nil values passed over
abbrev pub first : List Entry → NextValue
first [] = last
first (s ∷ ss) = cond (is_nil s.value) (first ss) (found s.key s.value)

-- the first pair after a key, cleared or not
abbrev pub from : List Entry → Words → NextValue
from [] k = not_found
from (s ∷ ss) k = cond (same s.key k) (first ss) (from ss k)
