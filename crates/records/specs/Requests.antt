-- What the bytes at the start of a trace's input are read as (01, 'Trace program'): the end, a request, or a fault, tested in the paper's
-- order. Assumes nothing.
use Rattle.std.specs.Prelude.{Bool, if◌then◌else◌, ◌&&◌, ◌||◌, ◌==◌, nat_lt, nat_le, List, [], ◌++◌, ℕ, ◌+◌, ◌-◌, ◌<◌, ◌^◌, length, take, drop, Option, None, Some, Result, Ok, Err}
use Rattle.std.specs.Result.{result_map_both}
use Rattle.value.specs.declared.Words.{Words}
use Rattle.value.specs.Encoding.{decodes, Decodes}
use Rattle.records.specs.declared.Request.{Request}
use Rattle.records.specs.declared.Request.TheVariants.{Get, Set, Length, Next, Reserve}
use Rattle.records.specs.declared.Fault.{Fault}
use Rattle.records.specs.declared.Fault.TheVariants.{Cut, UnknownKind, WrongLength, Undecodable}
use Rattle.records.specs.declared.Kind.{Kind}
use Rattle.records.specs.declared.Kind.TheVariants as kind
use Rattle.records.specs.Bytes.{number, little_endian, value_bytes, value_in, framed}

-- a fault's number in a reply
abbrev pub fault_number : Fault → ℕ
fault_number Cut = 1
fault_number UnknownKind = 2
fault_number WrongLength = 3
fault_number Undecodable = 4

-- the record at the start: the length's two bytes and as many as it says
abbrev pub record_size : List ℕ → ℕ
record_size bs = 2 + number (take 2 bs)

-- the most that it can be, since a length has two bytes
abbrev pub longest_record : ℕ
longest_record = 65537

-- its kind and body
abbrev pub kind_in : List ℕ → ℕ
kind_in bs = number (take 2 (drop 2 bs))

abbrev pub body_in : List ℕ → List ℕ
body_in bs = take (record_size bs - 4) (drop 4 bs)

-- the kind that has a number
abbrev pub kind_of : ℕ → Result Kind Fault
kind_of n =
    if n == 1 then Ok kind.Get
    else if n == 2 then Ok kind.Set
    else if n == 3 then Ok kind.Length
    else if n == 4 then Ok kind.Next
    else if n == 5 then Ok kind.Reserve
    else Err UnknownKind

-- what follows the kind, by the kind
abbrev pub body_length : Kind → ℕ
body_length kind.Get = 9
body_length kind.Set = 18
body_length kind.Length = 0
body_length kind.Next = 9
body_length kind.Reserve = 4

abbrev pub or_undecodable : {X : Type 0} → Bool → X → Result X Fault
or_undecodable b x = if b then Ok x else Err Undecodable

-- a body of right length
abbrev pub request_in : Kind → List ℕ → Result Request Fault
request_in kind.Get bs = or_undecodable (decodes (value_in 0 bs)) (Get (value_in 0 bs))
request_in kind.Set bs = or_undecodable (decodes (value_in 0 bs) && decodes (value_in 9 bs)) (Set (value_in 0 bs) (value_in 9 bs))
request_in kind.Length bs = Ok Length
request_in kind.Next bs = or_undecodable (decodes (value_in 0 bs)) (Next (value_in 0 bs))
request_in kind.Reserve bs = Ok (Reserve (number bs))

-- a whole body: kind unknown; wrong length for the kind; undecodable value
abbrev pub body_of_kind : Result Kind Fault → List ℕ → Result Request Fault
body_of_kind (Err f) bs = Err f
body_of_kind (Ok k) bs = if length bs == body_length k then request_in k bs else Err WrongLength

abbrev pub body_reading : ℕ → List ℕ → Result Request Fault
body_reading n bs = body_of_kind (kind_of n) bs

-- two bytes at least: length below 2; body cut; then by the body
abbrev pub record_reading : List ℕ → Result (Option Request) Fault
record_reading bs =
    if nat_lt (record_size bs) 4 then Err WrongLength
    else if nat_lt (length bs) (record_size bs) then Err Cut
    else result_map_both Some (λ f. f) (body_reading (kind_in bs) (body_in bs))

-- input that ends between two records ends the run; exactly 1 byte left is cut
unfoldable pub reading : List ℕ → Result (Option Request) Fault
reading bs = if length bs == 0 then Ok None else if length bs == 1 then Err Cut else record_reading bs

-- whether the input so far decides what is read at its start, whatever follows
unfoldable pub is_whole : List ℕ → Bool
is_whole bs = nat_le 2 (length bs) && (nat_lt (record_size bs) 4 || nat_le (record_size bs) (length bs))

-- ---- a request as bytes
abbrev pub request_bytes : Request → List ℕ
request_bytes (Get k) = framed 1 (value_bytes k)
request_bytes (Set k v) = framed 2 (value_bytes k ++ value_bytes v)
request_bytes Length = framed 3 []
request_bytes (Next k) = framed 4 (value_bytes k)
request_bytes (Reserve n) = framed 5 (little_endian 4 n)

-- the words that are passed are values'
abbrev pub ValuesPassed : Request → Type 0
ValuesPassed (Get k) = Decodes k
ValuesPassed (Set k v) = Decodes k × Decodes v
ValuesPassed Length = Unit {0}
ValuesPassed (Next k) = Decodes k
ValuesPassed (Reserve n) = Unit {0}

-- what a trace can hold: a value's words, and a number of 32 bits
abbrev pub Sendable : Words → Type 0
Sendable w = Decodes w × (w.payload < 2 ^ 64)

abbrev pub InTrace : Request → Type 0
InTrace (Get k) = Sendable k
InTrace (Set k v) = Sendable k × Sendable v
InTrace Length = Unit {0}
InTrace (Next k) = Sendable k
InTrace (Reserve n) = n < 2 ^ 32
