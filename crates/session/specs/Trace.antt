-- The whole output of a trace on a table (01, 'Trace program'). Assumes nothing.
use Rattle.std.specs.Prelude.{List, [], ◌++◌, ℕ, zero, suc, length, drop, Option, None, Some, Result, Ok, Err}
use Rattle.model.specs.Table.{Room, Table}
use Rattle.records.specs.declared.Request.{Request}
use Rattle.records.specs.declared.Fault.{Fault}
use Rattle.records.specs.Requests.{fault_number, record_size, reading}
use Rattle.replies.specs.declared.Reply.TheVariants.{Fault as Faults}
use Rattle.replies.specs.Replies.{reply_bytes}
use Rattle.answers.specs.Answers.{reply_of, table_after}

abbrev pub on_reading : Result (Option Request) Fault → List ℕ → (Fault → List ℕ) → (Request → List ℕ) → List ℕ
on_reading (Ok None) e f g = e
on_reading (Err x) e f g = f x
on_reading (Ok (Some q)) e f g = g q

-- the replies in order, up to the end or to a fault. Each record takes bytes of the input, so that its length is fuel enough
unfoldable pub traced : ℕ → Room → Table → List ℕ → List ℕ
traced zero room t bs = []
traced (suc n) room t bs =
    on_reading (reading bs) [] (λ x. reply_bytes (Faults (fault_number x)))
    (λ q. reply_bytes (reply_of room t q) ++ traced n room (table_after room t q) (drop (record_size bs) bs))

abbrev pub trace_of : Room → Table → List ℕ → List ℕ
trace_of room t bs = traced (length bs) room t bs
