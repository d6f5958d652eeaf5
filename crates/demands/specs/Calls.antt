-- Calls on a store, one after the other, each with an answer and words that meet its promise (demands 1 and 2). Assumes nothing.
use Rattle.std.specs.Prelude.{◌≡◌, List, [], ◌∷◌, ℕ, Result, Ok, Err}
use Rattle.value.specs.declared.Words.{Words}
use Rattle.value.specs.Encoding.{Decodes}
use Rattle.value.specs.Same.{nil}
use Rattle.model.specs.Entries.{Entry, entry}
use Rattle.model.specs.Manual.{OneBorder, Lists}
use Rattle.original.specs.Original.{Addresses, Original, original_get, original_next, original_length}
use Rattle.original.specs.Runs.{Call, get, set, reserve, Answer, value, was}
use Rattle.original.specs.Agreement.{SamePairs, ClearedLargest}
use Rattle.store.specs.declared.Record.{Record}
use Rattle.store.specs.Store.{Slices, Store}
use Rattle.store.specs.Written.{Sound, table_of}
use Rattle.reads.specs.Reads.{GetAnswers, NextAnswers, LengthAnswers}
use Rattle.writes.specs.Writes.{Left, set_left, reserve_left, SetDone, ReserveDone}
use Rattle.value.specs.declared.refusal.Refusal.{Refusal}
use Rattle.reads.specs.declared.Next.TheVariants.{Found, Last}
use Rattle.value.specs.Refusals.{refusal_number}

-- what a script sees of an answer
abbrev pub got_answer : Result Words Refusal → Answer
got_answer (Ok v) = value v
got_answer (Err e) = was (refusal_number e) nil

abbrev pub left_answer : Left → Answer
left_answer l = was l.refusal l.previous

-- these calls, called on the first store, answer so and leave the last. `next` and `length` change nothing and may come anywhere
pub data Called : Store → List Call → List Answer → Store → Type 0 where
  none : {s : Store} → Called s [] [] s
  got : {s u : Store} {cs : List Call} {xs : List Answer} (key : Words) (r : Result Words Refusal) → GetAnswers s key r → Called s cs xs u
      → Called s (get key ∷ cs) (got_answer r ∷ xs) u
  wrote : {s u : Store} {cs : List Call} {xs : List Answer} (key v : Words) (after : Slices) (r : Result (Words × Record) Refusal) → SetDone s key v after r
      → Called (set_left s.sizes after r).store cs xs u → Called s (set key v ∷ cs) (left_answer (set_left s.sizes after r) ∷ xs) u
  reserved : {s u : Store} {cs : List Call} {xs : List Answer} (n : ℕ) (after : Slices) (r : Result Record Refusal) → ReserveDone s n after r
      → Called (reserve_left s.sizes after r).store cs xs u → Called s (reserve n ∷ cs) (left_answer (reserve_left s.sizes after r) ∷ xs) u

-- a walk by `next` from a key, with nothing between: these pairs, and then the end
pub data Listed (s : Store) : Words → List Entry → Type 0 where
  end : {key : Words} → NextAnswers s key (Ok Last) → Listed s key []
  more : {key : Words} {ss : List Entry} (k v : Words) → NextAnswers s key (Ok (Found k v)) → Listed s k ss → Listed s key (entry k v ∷ ss)

-- what agrees between a store and the original's table after the same calls
pub record Agrees (addresses : Addresses) (s : Store) (r : Original) : Type 0 where
  pub sound : Sound s
  pub gets : (key : Words) (a : Result Words Refusal) → Decodes key → GetAnswers s key a → a ≡ Ok (original_get addresses r key)
  pub walks : (l m : List Entry) → Listed s nil l → Lists (original_next addresses r) nil m → SamePairs l m
  -- both walks end
  pub ends : (l : List Entry) × (m : List Entry) × Listed s nil l × Lists (original_next addresses r) nil m
  pub lengths : (a : Result ℕ Refusal) → OneBorder (table_of s) → (ClearedLargest addresses r → ⊥) → LengthAnswers s a → a ≡ Ok (original_length addresses r)
