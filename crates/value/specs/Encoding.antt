-- The two words of a value, kind and payload, and the value that two words stand for (01, 'Values and keys').
-- Assumes nothing.
use Rattle.std.specs.Prelude.{◌≡◌, ℕ, Bool, true, false, cond, T, eqb, Result, Ok, Err, is_ok}
use Rattle.std.specs.Float.{binary64}
use Rattle.std.specs.Float.Ieee.{fits, to_bits, of_bits, nan_bits}
use Rattle.std.specs.Int.{w64}
use mir.Val.{SFits, of_z, to_z, bool_byte}
use Rattle.value.specs.declared.Function.{Function}
use Rattle.value.specs.declared.Function.TheVariants.{Closure, Callback}
use Rattle.value.specs.declared.Value.{Value}
use Rattle.value.specs.declared.Value.TheVariants.{Nil, Boolean, Integer, Number, NaN, String, Table, Function as FunctionValue, Thread, UserData}
use Rattle.value.specs.declared.Words.{Words}
use Rattle.value.specs.declared.refusal.Refusal.{Refusal}
use Rattle.value.specs.declared.refusal.Refusal.TheVariants.{NoValue}

abbrev pub words : ℕ → ℕ → Words
words k p = record { kind = k; payload = p }

abbrev pub function_kind : Function → ℕ
function_kind (Closure h) = 6
function_kind (Callback h) = 7

abbrev pub function_handle : Function → ℕ
function_handle (Closure h) = h
function_handle (Callback h) = h

-- the ten kinds: 0 Nil, 1 Boolean, 2 Integer, 3 Number, 4 String, 5 Table, 6 Closure, 7 Callback, 8 Thread, 9 UserData
abbrev pub kind_of : Value → ℕ
kind_of Nil = 0
kind_of (Boolean b) = 1
kind_of (Integer n) = 2
kind_of (Number x) = 3
kind_of (NaN b) = 3
kind_of (String h) = 4
kind_of (Table h) = 5
kind_of (FunctionValue f) = function_kind f
kind_of (Thread h) = 8
kind_of (UserData h) = 9

-- Nil 0; Boolean 0 or 1; Integer two's complement; Number its bits; a NaN its own; a handle
abbrev pub payload_of : Value → ℕ
payload_of Nil = 0
payload_of (Boolean b) = bool_byte b
payload_of (Integer n) = of_z w64 n
payload_of (Number x) = to_bits binary64 x
payload_of (NaN b) = b
payload_of (String h) = h
payload_of (Table h) = h
payload_of (FunctionValue f) = function_handle f
payload_of (Thread h) = h
payload_of (UserData h) = h

abbrev pub encoded : Value → Words
encoded v = words (kind_of v) (payload_of v)

-- the value that a Number's bits stand for
abbrev pub number_of : ℕ → Value
number_of b = cond (nan_bits binary64 b) (NaN b) (Number (of_bits binary64 b))

-- undecodable: a kind above 9, Nil with a payload, a Boolean above 1
abbrev pub decoded_as : ℕ → ℕ → Result Value Refusal
decoded_as k p =
    cond (eqb k 0) (cond (eqb p 0) (Ok Nil) (Err NoValue))
    (cond (eqb k 1) (cond (eqb p 0) (Ok (Boolean false)) (cond (eqb p 1) (Ok (Boolean true)) (Err NoValue)))
    (cond (eqb k 2) (Ok (Integer (to_z w64 p)))
    (cond (eqb k 3) (Ok (number_of p))
    (cond (eqb k 4) (Ok (String p))
    (cond (eqb k 5) (Ok (Table p))
    (cond (eqb k 6) (Ok (FunctionValue (Closure p)))
    (cond (eqb k 7) (Ok (FunctionValue (Callback p)))
    (cond (eqb k 8) (Ok (Thread p))
    (cond (eqb k 9) (Ok (UserData p)) (Err NoValue))))))))))

abbrev pub decoded : Words → Result Value Refusal
decoded w = decoded_as w.kind w.payload

-- the value that is read: Nil where the words are no value's
abbrev pub or_nil : Result Value Refusal → Value
or_nil (Ok v) = v
or_nil (Err e) = Nil

abbrev pub value_of : Words → Value
value_of w = or_nil (decoded w)

-- whether two words are a value's
unfoldable pub decodes : Words → Bool
decodes w = is_ok (decoded w)

abbrev pub Decodes : Words → Type 0
Decodes w = decodes w ≡ true

-- what the program's types say of a value: an Integer is an i64 and a Number an f64
abbrev pub Typed : Value → Type 0
Typed Nil = Unit {0}
Typed (Boolean b) = Unit {0}
Typed (Integer n) = SFits w64 n
Typed (Number x) = T (fits binary64 x)
Typed (NaN b) = Unit {0}
Typed (String h) = Unit {0}
Typed (Table h) = Unit {0}
Typed (FunctionValue f) = Unit {0}
Typed (Thread h) = Unit {0}
Typed (UserData h) = Unit {0}

-- what comes back of a value that was stored: itself, but that a Number made of a NaN comes back as a NaN's bits,
-- and a NaN made of bits that are none as the Number with those bits
abbrev pub settled : Value → Value
settled Nil = Nil
settled (Boolean b) = Boolean b
settled (Integer n) = Integer n
settled (Number x) = number_of (to_bits binary64 x)
settled (NaN b) = number_of b
settled (String h) = String h
settled (Table h) = Table h
settled (FunctionValue f) = FunctionValue f
settled (Thread h) = Thread h
settled (UserData h) = UserData h
