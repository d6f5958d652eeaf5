-- What a call through the C interface gives, for each case of the answer of the call on words: the paper's number, and what is written through
-- the host's pointers. Assumes nothing.
use Rattle.std.specs.Prelude.{◌≡◌, ℕ, Result, Ok, Err}
use Rattle.value.specs.declared.Words.{Words}
use Rattle.model.specs.Entries.{Entry, entry}
use Rattle.store.specs.declared.Record.{Record}
use Rattle.store.specs.Store.{Slices, Store}
use Rattle.store.specs.Fresh.{FreshMade}
use Rattle.reads.specs.Reads.{GetAnswers, NextAnswers, LengthAnswers}
use Rattle.writes.specs.Writes.{SetDone, ReserveDone}
use Rattle.value.specs.declared.refusal.Refusal.{Refusal}
use Rattle.reads.specs.declared.Next.{Next}
use Rattle.reads.specs.declared.Next.TheVariants.{Found, Last, NotFound}
use Rattle.value.specs.Refusals.{refusal_number, answer_number}

abbrev pub sizes : ℕ → ℕ → ℕ → Record
sizes A M E = record { size = A; allowance = M; count = E }

-- what was answered, or what stood there
abbrev pub given : {X : Type 0} → Result X Refusal → X → X
given (Ok x) before = x
given (Err e) before = before

-- what comes out: the answer's number, and the host's variables with what was answered or, of a refusal, as they were
abbrev pub Out : {X : Type 0} → Result X Refusal → X → X → ℕ → Type 0
Out a before after r = (r ≡ answer_number a) × (after ≡ given a before)

abbrev pub FreshGives : Slices → Slices → Record → Record → ℕ → Type 0
FreshGives before after sizes_before sizes_after r = (a : Result Record Refusal) × FreshMade before after a × Out a sizes_before sizes_after r

abbrev pub GetGives : Store → Words → Words → Words → ℕ → Type 0
GetGives s key before after r = (a : Result Words Refusal) × GetAnswers s key a × Out a before after r

abbrev pub SetGives : Store → Words → Words → Words → Store → Words → ℕ → Type 0
SetGives before key v words_before after words_after r =
    (a : Result (Words × Record) Refusal) × SetDone before key v after.slices a × Out a (words_before, before.sizes) (words_after, after.sizes) r

abbrev pub NextOut : Result (Next Words) Refusal → Entry → Entry → ℕ → Type 0
NextOut (Ok (Found k v)) before after r = (r ≡ 0) × (after ≡ entry k v)
NextOut (Ok Last) before after r = (r ≡ 1) × (after ≡ before)
NextOut (Ok NotFound) before after r = (r ≡ 2) × (after ≡ before)
NextOut (Err e) before after r = (r ≡ refusal_number e) × (after ≡ before)

-- the host's key goes in, and the key of the pair comes out
abbrev pub NextGives : Store → Entry → Entry → ℕ → Type 0
NextGives s before after r = (a : Result (Next Words) Refusal) × NextAnswers s before.key a × NextOut a before after r

abbrev pub LengthGives : Store → ℕ → ℕ → ℕ → Type 0
LengthGives s before after r = (a : Result ℕ Refusal) × LengthAnswers s a × Out a before after r

abbrev pub ReserveGives : Store → ℕ → Store → ℕ → Type 0
ReserveGives before n after r = (a : Result Record Refusal) × ReserveDone before n after.slices a × Out a before.sizes after.sizes r
