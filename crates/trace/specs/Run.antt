-- What a run promises: turns, none of which ended the trace and all of whose bytes were written; and how it then ended. Assumes nothing.
use Rattle.std.specs.Prelude.{◌≡◌, Bool, true, List, ◌++◌, ℕ, ◌-◌, ◌^◌, ◌<◌, eqb, length, Option, Result, Ok, Err}
use Rattle.std.specs.Io.KnownBytes.{Appends, Consumes}
use Rattle.store.specs.Store.{Store}
use Rattle.session.specs.Served.{Further, Served, Turns}
use Rattle.trace.specs.declared.Ended.{Ended}
use Rattle.trace.specs.declared.Ended.TheVariants.{Stopped, Spent}

-- as many as a word counts
abbrev pub most_turns : ℕ
most_turns = 2 ^ 64 - 1

-- the last turn, on s with `held`: it read `piece`, and handed on `out` to be written
pub record Last (s : Store) (held : List ℕ) (stopped : Bool) : Type 0 where
  pub piece : List ℕ
  pub out : List ℕ
  pub after : Store
  pub taken : ℕ
  pub served : Served s after (Further (eqb (length piece) 0)) (held ++ piece) out taken stopped

-- after n turns that ended nothing: one that ended the trace, all of it written; one that was not written; or none, the turns being used up
abbrev pub EndedBy : {E : Type 0} → ℕ → Store → List ℕ → Result Ended E → Type 0
EndedBy n s held (Ok Stopped) = (n < most_turns) × Last s held true
EndedBy n s held (Err e) = (n < most_turns) × (stopped : Bool) × Last s held stopped
EndedBy n s held (Ok Spent) = n ≡ most_turns

-- all that was read, the last turn's too
abbrev pub read_by : {E : Type 0} (n : ℕ) (s : Store) (held read : List ℕ) (e : Result Ended E) → EndedBy n s held e → List ℕ
read_by n s held read (Ok Stopped) x = read ++ x.1.piece
read_by n s held read (Err e) x = read ++ x.2.piece
read_by n s held read (Ok Spent) x = read

-- all that was written, where no write failed: of one that did, no contract says what it wrote
abbrev pub WroteBy : {E : Type 0} (n : ℕ) (s : Store) (held : List ℕ) → (List ℕ → Type 0) → List ℕ → (e : Result Ended E) → EndedBy n s held e → Type 0
WroteBy n s held Went written (Ok Stopped) x = Went (written ++ x.1.out)
WroteBy n s held Went written (Err e) x = Unit {0}
WroteBy n s held Went written (Ok Spent) x = Went written

-- the bytes that a reader still has and those that a writer holds, where they are known
pub record Streams : Type 0 where
  pub input : Option (List ℕ)
  pub output : Option (List ℕ)

abbrev pub streams : Option (List ℕ) → Option (List ℕ) → Streams
streams i o = record { input = i; output = o }

pub record Run {E : Type 0} (before after : Streams) (s : Store) (e : Result Ended E) : Type 0 where
  pub count : ℕ
  pub read : List ℕ
  pub written : List ℕ
  pub now : Store
  pub held : List ℕ
  pub turns : Turns s count read written now held
  pub ends : EndedBy count now held e
  pub came : Consumes before.input after.input (read_by count now held read e ends)
  pub went : WroteBy count now held (Appends before.output after.output) written e ends
