-- What is promised of requests that are answered on a store, the input coming in pieces: the output is the trace's. Assumes nothing.
use Rattle.std.specs.Prelude.{◌≡◌, ◌⊎◌, Bool, true, false, cond, List, [], ◌++◌, ℕ, suc, ◌+◌, ◌*◌, ◌<◌, ◌≤◌, length, drop}
use Rattle.store.specs.Store.{Slices, Store, store, room_for}
use Rattle.store.specs.Written.{Sound, table_of}
use Rattle.table.specs.Stays.{Stays}
use Rattle.records.specs.Requests.{is_whole}
use Rattle.replies.specs.Replies.{Appends, longest}
use Rattle.session.specs.declared.Progress.{Progress}
use Rattle.session.specs.Trace.{trace_of}

-- the further input that may follow, once the first record is decided
abbrev pub Decided : List ℕ → List ℕ → Type 0
Decided input more = (is_whole input ≡ true) ⊎ (more ≡ [])

-- once it is known whether the input has ended
abbrev pub Further : Bool → List ℕ → Type 0
Further last more = last ≡ true → more ≡ []

-- `out` is the trace's output for what was taken of the input, whatever follows that may: `May`
pub record Served (before after : Store) (May : List ℕ → Type 0) (input out : List ℕ) (taken : ℕ) (stopped : Bool) : Type 0 where
  pub takes : taken ≤ length input
  pub kept : Sound before → Stays before after
  pub trace : Sound before → (more : List ℕ) → May more
      → trace_of (room_for before) (table_of before) (input ++ more) ≡ out ++ cond stopped [] (trace_of (room_for before) (table_of after) (drop taken input ++ more))

-- the same with `out` written into a slice from a place on
abbrev pub ServedInto : Store → Slices → (List ℕ → Type 0) → List ℕ → List ℕ → ℕ → List ℕ → Progress → Type 0
ServedInto before after May input was at output r =
    (out : List ℕ) × Appends was at out output r.made × Served before (store after r.sizes) May input out r.taken r.stopped

-- a request takes bytes, and on a sound store its reply has at most three times as many
pub record Paced (before : Store) (at : ℕ) (r : Progress) : Type 0 where
  pub takes : r.stopped ≡ false → 0 < r.taken
  pub short : Sound before → r.stopped ≡ false → r.made ≤ at + 3 * r.taken

-- with room enough, nothing is left undone that could be done: what is left waits for more input
abbrev pub Waits : Store → List ℕ → Bool → List ℕ → Progress → Type 0
Waits before input last output r =
    Sound before → 3 * length input + longest ≤ length output → r.stopped ≡ false → (last ≡ false) × (is_whole (drop r.taken input) ≡ false)

-- ---- one piece after the other
-- so many turns on s, none of which ended the trace: all that was read and all that was written in them, and then the store and the bytes that
-- are held. Each turn reads a piece, and leaves only what waits for more
pub data Turns (s : Store) : ℕ → List ℕ → List ℕ → Store → List ℕ → Type 0 where
  begin : Turns s 0 [] [] s []
  turn : {n taken : ℕ} {read written held out : List ℕ} {m after : Store} → Turns s n read written m held → (piece : List ℕ) → 0 < length piece
      → Served m after (Further false) (held ++ piece) out taken false → is_whole (drop taken (held ++ piece)) ≡ false
      → Turns s (suc n) (read ++ piece) (written ++ out) after (drop taken (held ++ piece))
