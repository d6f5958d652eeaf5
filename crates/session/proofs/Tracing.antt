-- The whole output of a trace, by the record at its start: fuel beyond the input's length changes nothing. Assumes nothing.
use mathlib.Core.Path.{◌≡◌, refl, sym, ap, ◌∙◌}
use mathlib.Core.List.{List, [], ◌++◌}
use Prim.Native.Nat.{ℕ, zero, suc, ◌≤◌}
use native.Mathlib.Omega.{arith}
use lib.ListN.{length, drop, length-drop}
use Rattle.std.specs.Prelude.{Option, None, Some, Result, Ok, Err}
use Rattle.model.specs.Table.{Room, Table}
use Rattle.records.specs.declared.Request.{Request}
use Rattle.records.specs.declared.Fault.{Fault}
use Rattle.records.specs.Requests.{fault_number, record_size, reading}
use Rattle.records.proofs.Ways.{reads_end}
use Rattle.records.proofs.Readings.{request-fits}
use Rattle.replies.specs.declared.Reply.TheVariants.{Fault as Faults}
use Rattle.replies.specs.Replies.{reply_bytes}
use Rattle.answers.specs.Answers.{reply_of, table_after}
use Rattle.session.specs.Trace.{on_reading, traced, trace_of}

-- what is left after a request is shorter
left-fits : (n : ℕ) (bs : List ℕ) (q : Request) → reading bs ≡ Ok (Some q) → length bs ≤ suc n → length (drop (record_size bs) bs) ≤ n
left-fits n bs q r h = omega (arith, length-drop (record_size bs) bs, request-fits bs q r)

-- two ways on that agree wherever a request is read
agree : (e : List ℕ) (f : Fault → List ℕ) (g k : Request → List ℕ) (r : Result (Option Request) Fault) → ((q : Request) → r ≡ Ok (Some q) → g q ≡ k q)
    → on_reading r e f g ≡ on_reading r e f k
agree e f g k (Ok None) same = refl
agree e f g k (Err x) same = refl
agree e f g k (Ok (Some q)) same = same q refl

pub fuel : (n m : ℕ) (room : Room) (t : Table) (bs : List ℕ) → length bs ≤ n → length bs ≤ m → traced n room t bs ≡ traced m room t bs
unfolding traced
fuel zero zero room t bs h g = refl
fuel zero (suc m) room t bs h g = rw (reads_end bs (omega arith))
fuel (suc n) zero room t bs h g = rw (reads_end bs (omega arith))
fuel (suc n) (suc m) room t bs h g =
    agree _ _ _ _ (reading bs) λ q r.
    ap (λ (l : List ℕ). reply_bytes (reply_of room t q) ++ l)
    (fuel n m room (table_after room t q) (drop (record_size bs) bs) (left-fits n bs q r h) (left-fits m bs q r g))

pub traced-is : (n : ℕ) (room : Room) (t : Table) (bs : List ℕ) → length bs ≤ n → traced n room t bs ≡ trace_of room t bs
traced-is n room t bs h = fuel n (length bs) room t bs h (omega arith)

-- ---- by the record at the start
module _ (room : Room) (t : Table) (bs : List ℕ) where
  -- one step, with fuel to spare
  step : trace_of room t bs ≡ traced (suc (length bs)) room t bs
  step = sym (traced-is (suc (length bs)) room t bs (omega arith))

  pub trace-end : reading bs ≡ Ok None → trace_of room t bs ≡ []
  unfolding traced
  trace-end r = step ∙ rw r

  pub trace-fault : (x : Fault) → reading bs ≡ Err x → trace_of room t bs ≡ reply_bytes (Faults (fault_number x))
  unfolding traced
  trace-fault x r = step ∙ rw r

  pub trace-request : (q : Request) → reading bs ≡ Ok (Some q)
      → trace_of room t bs ≡ reply_bytes (reply_of room t q) ++ trace_of room (table_after room t q) (drop (record_size bs) bs)
  unfolding traced
  trace-request q r =
      step
      ∙ rw r
      (ap (λ (l : List ℕ). reply_bytes (reply_of room t q) ++ l)
      (traced-is (length bs) room (table_after room t q) (drop (record_size bs) bs) (omega (arith, length-drop (record_size bs) bs))))
