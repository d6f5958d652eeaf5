-- A sequence of calls on our table and on the original's, from fresh, and which calls are compared (demand 2). Assumes nothing.
use Rattle.std.specs.Prelude.{◌≡◌, List, [], ◌∷◌, ℕ}
use Rattle.value.specs.declared.Words.{Words}
use Rattle.value.specs.Encoding.{Decodes}
use Rattle.value.specs.Same.{nil}
use Rattle.value.specs.Refusals.{no_room}
use Rattle.model.specs.Table.{Room, Table, get_of}
use Rattle.model.specs.Calls.{Outcome, set_of, reserve_of}
use Rattle.original.specs.Original.{Cell, Original, Addresses, Choice, with_map, original_get, original_set, original_reserve}

-- `next` and `length` change nothing: what they answer after any of these is compared in `Agreement`
pub data Call : Type 0 where
  get : Words → Call
  set : Words → Words → Call
  reserve : ℕ → Call

-- what a script sees: a value, or a refusal number with the previous value
pub data Answer : Type 0 where
  value : Words → Answer
  was : ℕ → Words → Answer

-- ---- ours
pub record Run : Type 0 where
  pub said : List Answer
  pub finally : Table

abbrev pub says : Answer → Run → Run
says x r = record { said = x ∷ r.said; finally = r.finally }

abbrev pub told : Outcome → Answer
told o = was o.refusal o.previous

abbrev pub ours : Room → Table → List Call → Run
ours room t [] = record { said = []; finally = t }
ours room t (get key ∷ cs) = says (value (get_of t key)) (ours room t cs)
ours room t (set key v ∷ cs) = says (told (set_of room t key v)) (ours room (set_of room t key v).table cs)
ours room t (reserve n ∷ cs) = says (told (reserve_of room t n)) (ours room (reserve_of room t n).table cs)

-- no answer is a refusal for want of room
abbrev pub Roomy : List Answer → Type 0
Roomy [] = Unit {0}
Roomy (value v ∷ rs) = Roomy rs
Roomy (was n v ∷ rs) = (n ≡ no_room → ⊥) × Roomy rs

-- ---- the original's: any choice at each call, and any order of the map after it
pub data Shuffled {X : Type 0} : List X → List X → Type 0 where
  still : {l : List X} → Shuffled l l
  swapped : {l : List X} (a b : X) → Shuffled (a ∷ b ∷ l) (b ∷ a ∷ l)
  under : {l m : List X} (c : X) → Shuffled l m → Shuffled (c ∷ l) (c ∷ m)
  then : {l m n : List X} → Shuffled l m → Shuffled m n → Shuffled l n

pub data Runs (addresses : Addresses) : Original → List Call → List Answer → Original → Type 0 where
  stopped : {r : Original} → Runs addresses r [] [] r
  got : {r u : Original} {cs : List Call} {xs : List Answer} (key : Words) → Runs addresses r cs xs u
      → Runs addresses r (get key ∷ cs) (value (original_get addresses r key) ∷ xs) u
  written : {r u : Original} {cs : List Call} {xs : List Answer} (c : Choice) (key v : Words) {m : List Cell} → Shuffled (original_set addresses c r key v).now.map m
      → Runs addresses (with_map (original_set addresses c r key v).now m) cs xs u
      → Runs addresses r (set key v ∷ cs) (was (original_set addresses c r key v).refusal (original_set addresses c r key v).previous ∷ xs) u
  reserved : {r u : Original} {cs : List Call} {xs : List Answer} (c : Choice) (n : ℕ) {m : List Cell} → Shuffled (original_reserve c r).map m
      → Runs addresses (with_map (original_reserve c r) m) cs xs u → Runs addresses r (reserve n ∷ cs) (was 0 nil ∷ xs) u

-- ---- which calls are compared: those that are passed values, as the original always is
abbrev pub Comparable : Call → Type 0
Comparable (get key) = Decodes key
Comparable (set key v) = Decodes key × Decodes v
Comparable (reserve n) = Unit {0}
