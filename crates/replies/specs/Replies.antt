-- The bytes of a reply (01, 'Trace program'), where 256 is added to the kind of the request; and what writing does to a slice.
-- Assumes nothing.
use Rattle.std.specs.Prelude.{◌≡◌, List, ◌++◌, ℕ, ◌+◌, ◌^◌, ◌<◌, length, take}
use Rattle.value.specs.declared.Words.{Words}
use Rattle.replies.specs.declared.Reply.{Reply}
use Rattle.replies.specs.declared.Reply.TheVariants.{Got, Set, Length, Found, Last, NotFound, Reserved, Fault}
use Rattle.records.specs.Bytes.{little_endian, value_bytes, framed}

-- no reply has more bytes
abbrev pub longest : ℕ
longest = 23

abbrev pub reply_bytes : Reply → List ℕ
reply_bytes (Got v) = framed 257 (value_bytes v)
reply_bytes (Set n v) = framed 258 (little_endian 1 n ++ value_bytes v)
reply_bytes (Length n) = framed 259 (little_endian 8 n)
reply_bytes (Found k v) = framed 260 (little_endian 1 0 ++ (value_bytes k ++ value_bytes v))
reply_bytes Last = framed 260 (little_endian 1 1)
reply_bytes NotFound = framed 260 (little_endian 1 2)
reply_bytes (Reserved n) = framed 261 (little_endian 1 n)
reply_bytes (Fault n) = framed 511 (little_endian 1 n)

-- the numbers of a reply fit the bytes that they are written in
abbrev pub FitWords : Words → Type 0
FitWords w = (w.kind < 256) × (w.payload < 2 ^ 64)

abbrev pub Fits : Reply → Type 0
Fits (Got v) = FitWords v
Fits (Set n v) = (n < 256) × FitWords v
Fits (Length n) = n < 2 ^ 64
Fits (Found k v) = FitWords k × FitWords v
Fits Last = Unit {0}
Fits NotFound = Unit {0}
Fits (Reserved n) = n < 256
Fits (Fault n) = n < 256

-- these bytes follow the first `at` of a slice, up to `end`
pub record Appends (before : List ℕ) (at : ℕ) (bytes : List ℕ) (after : List ℕ) (end : ℕ) : Type 0 where
  pub ends : end ≡ at + length bytes
  pub holds : take end after ≡ take at before ++ bytes
