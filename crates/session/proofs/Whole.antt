-- Whatever pieces the input comes in, what is written is the trace's output. Assumes nothing.
use mathlib.Core.Path.{◌≡◌, refl, sym, ap, subst, ◌∙◌}
use mathlib.Core.Bool.{Bool, false, cond}
use mathlib.Core.List.{List, [], ◌++◌, append_assoc}
use Prim.Native.Nat.{ℕ}
use lib.ListN.{drop}
use Rattle.value.proofs.Cases.{clash}
use Rattle.model.specs.Table.{Room}
use Rattle.store.specs.Store.{Store, room_for}
use Rattle.store.specs.Written.{Sound, table_of}
use Rattle.table.specs.Stays.{Stays}
use Rattle.session.specs.Trace.{trace_of}
use Rattle.session.specs.Served.{Further, Served, Turns, begin, turn}
use Rattle.session.proofs.Serving.{stays_same, stays_then, room-stays}

-- more may always follow what is not the last
open-end : (more : List ℕ) → Further false more
open-end more e = clash e refl

-- on s the trace has come to `written`, with `held` still to be answered on m
abbrev pub SoFar : Store → List ℕ → List ℕ → Store → List ℕ → Type 0
SoFar s read written m held =
    (more : List ℕ) → trace_of (room_for s) (table_of s) (read ++ more) ≡ written ++ trace_of (room_for s) (table_of m) (held ++ more)

-- a piece more, as it is served
module _ {s m after : Store} {May : List ℕ → Type 0} {out : List ℕ} {taken : ℕ} {stopped : Bool} (read written held piece : List ℕ) where
  pub so-far-served : Stays s m → SoFar s read written m held → Served m after May (held ++ piece) out taken stopped → (more : List ℕ) → May more
      → trace_of (room_for s) (table_of s) ((read ++ piece) ++ more)
      ≡ (written ++ out) ++ cond stopped [] (trace_of (room_for s) (table_of after) (drop taken (held ++ piece) ++ more))
  so-far-served k t p more may =
      ap (trace_of (room_for s) (table_of s)) (append_assoc read piece more)
      ∙ t (piece ++ more)
      ∙ ap (λ (l : List ℕ). written ++ trace_of (room_for s) (table_of m) l) (sym (append_assoc held piece more))
      ∙ ap (λ (l : List ℕ). written ++ l)
      (subst
      (λ (room : Room). trace_of room (table_of m) ((held ++ piece) ++ more) ≡ out ++ cond stopped [] (trace_of room (table_of after) (drop taken (held ++ piece) ++ more)))
      (room-stays k)
      (p.trace k.sound more may))
      ∙ sym (append_assoc written out (cond stopped [] (trace_of (room_for s) (table_of after) (drop taken (held ++ piece) ++ more))))

pub turns-stay : {s m : Store} {n : ℕ} {read written held : List ℕ} → Sound s → Turns s n read written m held → Stays s m
turns-stay S begin = stays_same S
turns-stay S (turn t piece g p w) = let k = turns-stay S t in stays_then k (p.kept k.sound)

pub turns-trace : {s m : Store} {n : ℕ} {read written held : List ℕ} → Sound s → Turns s n read written m held → SoFar s read written m held
turns-trace S begin more = refl
turns-trace S (turn {read = read} {written = written} {held = held} t piece g p w) more =
    let k = turns-stay S t in so-far-served read written held piece k (λ l. turns-trace S t l) p more (open-end more)
