-- What the calls with Values promise: the answer of the call on words, for the words of what was passed, read as a Value. Assumes nothing.
use Rattle.std.specs.Prelude.{◌≡◌, Result, Ok, Err}
use Rattle.value.specs.declared.Value.{Value}
use Rattle.value.specs.declared.Words.{Words}
use Rattle.value.specs.Encoding.{encoded, value_of}
use Rattle.store.specs.declared.Record.{Record}
use Rattle.store.specs.Store.{Slices, Store}
use Rattle.reads.specs.Reads.{GetAnswers, NextAnswers}
use Rattle.writes.specs.Writes.{SetDone}
use Rattle.value.specs.declared.refusal.Refusal.{Refusal}
use Rattle.reads.specs.declared.Next.{Next}
use Rattle.reads.specs.declared.Next.TheVariants.{Found, Last, NotFound}

-- each answer in words as the answer with Values
abbrev pub got_of : Result Words Refusal → Result Value Refusal
got_of (Ok v) = Ok (value_of v)
got_of (Err e) = Err e

abbrev pub stored_of : Result (Words × Record) Refusal → Result (Value × Record) Refusal
stored_of (Ok (p, r)) = Ok (value_of p, r)
stored_of (Err e) = Err e

abbrev pub next_value_of : Result (Next Words) Refusal → Result (Next Value) Refusal
next_value_of (Ok (Found k v)) = Ok (Found (value_of k) (value_of v))
next_value_of (Ok Last) = Ok Last
next_value_of (Ok NotFound) = Ok NotFound
next_value_of (Err e) = Err e

abbrev pub GetValue : Store → Value → Result Value Refusal → Type 0
GetValue s key r = (w : Result Words Refusal) × GetAnswers s (encoded key) w × (r ≡ got_of w)

abbrev pub SetValue : Store → Value → Value → Slices → Result (Value × Record) Refusal → Type 0
SetValue before key v after r = (w : Result (Words × Record) Refusal) × SetDone before (encoded key) (encoded v) after w × (r ≡ stored_of w)

abbrev pub NextOfValue : Store → Value → Result (Next Value) Refusal → Type 0
NextOfValue s key r = (w : Result (Next Words) Refusal) × NextAnswers s (encoded key) w × (r ≡ next_value_of w)
