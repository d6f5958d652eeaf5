-- What a call that reads promises, by its answer (01, 'Calls' and 'Border'): refusal 4 exactly where the shape is wrong, and else 15 exactly
-- where the words of its key are no value's; on a sound store what the table answers. A read is lent its slices to look at, so it changes no
-- word. Assumes nothing.
use Rattle.std.specs.Prelude.{◌≡◌, false, ◌⊎◌, ℕ, Result, Ok, Err}
use Rattle.value.specs.declared.Words.{Words}
use Rattle.value.specs.Encoding.{decodes, Decodes}
use Rattle.model.specs.Entries.{NextValue, found, last, not_found, from}
use Rattle.model.specs.Table.{pairs, get_of, next_of}
use Rattle.model.specs.Length.{length_of}
use Rattle.store.specs.Store.{Store}
use Rattle.store.specs.Shape.{Shaped}
use Rattle.store.specs.Written.{Sound, table_of}
use Rattle.value.specs.declared.refusal.Refusal.{Refusal}
use Rattle.reads.specs.declared.Next.{Next}
use Rattle.reads.specs.declared.Next.TheVariants.{Found, Last, NotFound}
use Rattle.value.specs.declared.refusal.Refusal.TheVariants.{WrongShape, NoValue}

-- refused for this: a call that takes no key, and one that takes one
abbrev pub Refuses : Store → Refusal → Type 0
Refuses s e = (Shaped s → ⊥) × (e ≡ WrongShape)

abbrev pub RefusesKey : Store → Words → Refusal → Type 0
RefusesKey s key e = Refuses s e ⊎ (Shaped s × (decodes key ≡ false) × (e ≡ NoValue))

-- answered: what is said of the answer holds on a sound store
abbrev pub Accepts : Store → Type 0 → Type 0
Accepts s X = Shaped s × (Sound s → X)

abbrev pub AcceptsKey : Store → Words → Type 0 → Type 0
AcceptsKey s key X = Shaped s × Decodes key × (Sound s → X)

abbrev pub GetAnswers : Store → Words → Result Words Refusal → Type 0
GetAnswers s key (Ok v) = AcceptsKey s key (v ≡ get_of (table_of s) key)
GetAnswers s key (Err e) = RefusesKey s key e

-- a step in words
abbrev pub in_words : NextValue → Next Words
in_words (found k v) = Found k v
in_words last = Last
in_words not_found = NotFound

-- of a canonical key: on any words a step, and on a sound store the table's
abbrev pub NextKey : Store → Words → Next Words → Type 0
NextKey s k r = (n : NextValue) × (r ≡ in_words n) × (Sound s → from (pairs (table_of s)) k ≡ n)

abbrev pub NextAnswers : Store → Words → Result (Next Words) Refusal → Type 0
NextAnswers s key (Ok (Found k v)) = AcceptsKey s key (next_of (table_of s) key ≡ found k v)
NextAnswers s key (Ok Last) = AcceptsKey s key (next_of (table_of s) key ≡ last)
NextAnswers s key (Ok NotFound) = AcceptsKey s key (next_of (table_of s) key ≡ not_found)
NextAnswers s key (Err e) = RefusesKey s key e

abbrev pub LengthAnswers : Store → Result ℕ Refusal → Type 0
LengthAnswers s (Ok n) = Accepts s (n ≡ length_of (table_of s))
LengthAnswers s (Err e) = Refuses s e
