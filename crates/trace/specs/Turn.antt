-- What a turn promises by what stands in the slices, whatever the system's streams give or take. Assumes nothing.
use Rattle.std.specs.Prelude.{◌≡◌, false, List, ℕ, ◌+◌, ◌-◌, ◌<◌, ◌≤◌, eqb, length, take, drop}
use Rattle.store.specs.Store.{Store}
use Rattle.records.specs.Requests.{longest_record, is_whole}
use Rattle.session.specs.Served.{Further, Served}
use Rattle.trace.specs.declared.Turned.{Turned}

-- the input begins with the bytes that were held, of the input `was`, and those that came follow; a turn in which none came has met the end.
-- The output begins with the bytes that are to be written: they are the trace's. What is left waits for more
pub record Answered (before after : Store) (was : List ℕ) (held : ℕ) (input output : List ℕ) (r : Turned) : Type 0 where
  pub holds : take held input ≡ take held was
  pub came : held + r.got ≤ length input
  pub made : r.progress.made ≤ length output
  pub served : Served before after (Further (eqb r.got 0)) (take (held + r.got) input) (take r.progress.made output) r.progress.taken r.progress.stopped
  pub waits : r.progress.stopped ≡ false → (0 < r.got) × (is_whole (drop r.progress.taken (take (held + r.got) input)) ≡ false)
  pub short : r.progress.stopped ≡ false → held + r.got - r.progress.taken < longest_record
