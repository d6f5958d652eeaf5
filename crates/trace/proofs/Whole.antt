-- What a run has written, by why it ended: the trace's output on the fresh table of its room, or a beginning of it. Assumes nothing.
use mathlib.Core.Path.{◌≡◌, refl, sym, ap, ap₂, ◌∙◌}
use mathlib.Core.Bool.{Bool, cond}
use mathlib.Core.List.{List, [], ◌++◌, append-nil}
use Prim.Native.Nat.{ℕ}
use Rattle.std.specs.Prelude.{Result, Ok}
use lib.Dec.{eqb}
use lib.ListN.{length, drop}
use Rattle.model.specs.Table.{Room, Table, fresh}
use Rattle.store.specs.Store.{room_for}
use Rattle.store.specs.Written.{table_of}
use Rattle.session.specs.Trace.{trace_of}
use Rattle.session.specs.Served.{Further}
use Rattle.session.specs.Room.{trace_room, trace_store}
use Rattle.session.proofs.Room.{trace-sound, trace-table, trace-room}
use Rattle.session.proofs.Whole.{turns-stay, turns-trace, so-far-served}
use Rattle.trace.specs.declared.Ended.{Ended}
use Rattle.trace.specs.declared.Ended.TheVariants.{Stopped}
use Rattle.std.specs.Io.KnownBytes.{Appends, Consumes}
use Rattle.trace.specs.Run.{Last, Streams, Run}

-- the same on the table that a trace begins with
begins : (bs : List ℕ) → trace_of trace_room fresh bs ≡ trace_of (room_for trace_store) (table_of trace_store) bs
begins bs = ap₂ (λ (room : Room) (t : Table). trace_of room t bs) (sym trace-room) (sym trace-table)

module _ {E : Type 0} {before after : Streams} where
  -- however it ended: what was written in the turns before is a beginning of the output, whatever follows, and the trace goes on with what is held
  pub run-so-far : {e : Result Ended E} (p : Run before after trace_store e) (more : List ℕ)
      → trace_of trace_room fresh (p.read ++ more) ≡ p.written ++ trace_of trace_room (table_of p.now) (p.held ++ more)
  run-so-far p more =
      begins (p.read ++ more)
      ∙ turns-trace trace-sound p.turns more
      ∙ ap (λ (room : Room). p.written ++ trace_of room (table_of p.now) (p.held ++ more)) trace-room

  -- and the bytes that the last turn handed on to be written, all of them or some, are next
  pub run-last : {e : Result Ended E} (p : Run before after trace_store e) {stopped : Bool} (l : Last p.now p.held stopped) (more : List ℕ)
      → Further (eqb (length l.piece) 0) more
      → trace_of trace_room fresh ((p.read ++ l.piece) ++ more)
      ≡ (p.written ++ l.out) ++ cond stopped [] (trace_of trace_room (table_of l.after) (drop l.taken (p.held ++ l.piece) ++ more))
  run-last p {stopped} l more may =
      begins ((p.read ++ l.piece) ++ more)
      ∙ so-far-served p.read p.written p.held l.piece (turns-stay trace-sound p.turns) (turns-trace trace-sound p.turns) l.served more may
      ∙ ap (λ (room : Room). (p.written ++ l.out) ++ cond stopped [] (trace_of room (table_of l.after) (drop l.taken (p.held ++ l.piece) ++ more))) trace-room

  -- it stopped: all that was written is the output for all that was read; what would follow a fault changes nothing
  pub run-stopped : (p : Run {E = E} before after trace_store (Ok Stopped)) (more : List ℕ) → Further (eqb (length p.ends.1.piece) 0) more
      → trace_of trace_room fresh ((p.read ++ p.ends.1.piece) ++ more) ≡ p.written ++ p.ends.1.out
  run-stopped p more may = run-last p p.ends.1 more may ∙ append-nil (p.written ++ p.ends.1.out)

  -- so a reader whose bytes are known has just these less, and a writer whose contents are known just the trace's output for them more
  pub run-writes : Run {E = E} before after trace_store (Ok Stopped)
      → (bytes : List ℕ) × Consumes before.input after.input bytes × Appends before.output after.output (trace_of trace_room fresh bytes)
  run-writes p =
      let bytes : List ℕ = p.read ++ p.ends.1.piece in
      let all : p.written ++ p.ends.1.out ≡ trace_of trace_room fresh bytes =
      sym (run-stopped p [] (λ e. refl)) ∙ ap (trace_of trace_room fresh) (append-nil bytes) in
      (bytes, p.came, rw all at p.went)
