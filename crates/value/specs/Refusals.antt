-- The paper's refusal numbers (01, 'Refusal numbers'), and one of ours. A call that was done answers 0. Assumes nothing.
use Rattle.std.specs.Prelude.{ℕ, Result, Ok, Err}
use Rattle.value.specs.declared.refusal.Refusal.{Refusal}
use Rattle.value.specs.declared.refusal.Refusal.TheVariants.{KeyIsNil, KeyIsNan, NoRoom, WrongShape, NoValue}

abbrev pub key_is_nil : ℕ
key_is_nil = 1

abbrev pub key_is_nan : ℕ
key_is_nan = 2

abbrev pub no_room : ℕ
no_room = 3

abbrev pub wrong_shape : ℕ
wrong_shape = 4

-- a key or a value is passed as words that are no value's. The paper and the requests after it use 1 to 14
abbrev pub no_value : ℕ
no_value = 15

abbrev pub refusal_number : Refusal → ℕ
refusal_number KeyIsNil = key_is_nil
refusal_number KeyIsNan = key_is_nan
refusal_number NoRoom = no_room
refusal_number WrongShape = wrong_shape
refusal_number NoValue = no_value

-- the number of an answer
abbrev pub answer_number : {X : Type 0} → Result X Refusal → ℕ
answer_number (Ok x) = 0
answer_number (Err e) = refusal_number e
