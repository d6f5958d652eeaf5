-- What a search of the index answers: on any words as a function of them, and on a right index by the entries alone. Assumes nothing.
use Rattle.std.specs.Prelude.{◌≡◌, ℕ, zero, suc, ◌<◌, Bool, true, cond, ◌&&◌, List, length, ◌≢◌, nat_lt, slice_index}
use Rattle.value.specs.declared.Words.{Words}
use Rattle.value.specs.Same.{same}
use Rattle.lent.specs.Lent.{key_at}
use Rattle.index.specs.declared.Found.{Found}
use Rattle.index.specs.declared.Found.TheVariants.{At, Absent, Full}
use Rattle.index.specs.Home.{home_of}
use Rattle.index.specs.Index.{reached, is_empty}

-- entry i is among the first e and has the key
unfoldable pub hits : List ℕ → ℕ → Words → ℕ → Bool
hits ws e k i = nat_lt i e && same (key_at ws i) k

-- a search stops at an empty word and at the word of an entry that is hit
abbrev pub stops : (ℕ → Bool) → ℕ → Bool
stops hit zero = true
stops hit (suc i) = hit i

-- what is answered where it stopped, at place p with the word w
abbrev pub answer : (ℕ → Bool) → ℕ → ℕ → Found
answer hit p zero = Absent p
answer hit p (suc i) = cond (hit i) (At i) Full

abbrev pub answer_at : (ℕ → Bool) → List ℕ → ℕ → Found
answer_at hit l p = answer hit p (slice_index l p)

-- whatever the words are
unfoldable pub searched : List ℕ → ℕ → List ℕ → Words → Found
searched ws e l k = let hit = hits ws e k in answer_at hit l (reached (stops hit) l (home_of (length l) k))

-- what a caller may go by on any words: the entry is there, the place is in the index
abbrev pub Stands : ℕ → ℕ → Found → Type 0
Stands e n (At i) = i < e
Stands e n (Absent p) = p < n
Stands e n Full = Unit {0}

-- on a right index: the entry that has the key, or that none has it, with the word where its entry would be put in
abbrev pub Finds : List ℕ → ℕ → List ℕ → Words → Found → Type 0
Finds ws e l k (At i) = (i < e) × (key_at ws i ≡ k)
Finds ws e l k (Absent p) = ((i : ℕ) → i < e → key_at ws i ≢ k) × (p < length l) × (p ≡ reached is_empty l (home_of (length l) k))
Finds ws e l k Full = ⊥

-- a search for the key of entry i finds entry i, and so for each of the first e
abbrev pub FindsOwn : List ℕ → ℕ → List ℕ → ℕ → Type 0
FindsOwn ws e l i = searched ws e l (key_at ws i) ≡ At i

abbrev pub AllFound : List ℕ → ℕ → List ℕ → Type 0
AllFound ws e l = (i : ℕ) → i < e → FindsOwn ws e l i
