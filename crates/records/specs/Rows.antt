-- Bytes and what they are read as: a row for each fault, most with a fault of a later test in the same bytes, so that the rows show 01's
-- order; for each request; and for 01's whole example. Assumes nothing.
use Rattle.std.specs.Prelude.{List, [], ◌∷◌, ◌++◌, ℕ, replicate, Option, None, Some, Result, Ok, Err}
use Rattle.value.specs.Encoding.{words}
use Rattle.records.specs.declared.Request.{Request}
use Rattle.records.specs.declared.Request.TheVariants.{Get, Set, Length, Next, Reserve}

-- a fault by its number
pub record Row : Type 0 where
  pub bytes : List ℕ
  pub wants : Result (Option Request) ℕ

infixr 20 ◌reads◌
abbrev pub ◌reads◌ : List ℕ → Result (Option Request) ℕ → Row
◌reads◌ bs r = record { bytes = bs; wants = r }

-- a value of a small payload
abbrev value : ℕ → ℕ → List ℕ
value k p = k ∷ p ∷ replicate 7 0

-- a request's first bytes: the length of the rest, below 256, and the kind
abbrev head : ℕ → ℕ → List ℕ
head n k = n ∷ 0 ∷ k ∷ 0 ∷ []

-- exactly 1 byte left (1), also where it begins a length below 2
abbrev left : List Row
left = ([] reads Ok None) ∷ ((0 ∷ []) reads Err 1) ∷ ((2 ∷ []) reads Err 1) ∷ []

-- length below 2 (3), also where the byte that it names is not there, or the kind would be unknown
abbrev short : List Row
short =
    ((0 ∷ 0 ∷ []) reads Err 3)
    ∷ ((1 ∷ 0 ∷ []) reads Err 3)
    ∷ ((0 ∷ 0 ∷ 9 ∷ 0 ∷ []) reads Err 3)
    ∷ ((1 ∷ 0 ∷ 9 ∷ 0 ∷ []) reads Err 3)
    ∷ []

-- body cut (1), also in the kind, and where the kind is unknown; a length has two bytes
abbrev cuts : List Row
cuts =
    ((2 ∷ 0 ∷ []) reads Err 1)
    ∷ ((2 ∷ 0 ∷ 9 ∷ []) reads Err 1)
    ∷ (head 3 9 reads Err 1)
    ∷ (head 3 3 reads Err 1)
    ∷ ((head 11 1 ++ (10 ∷ replicate 7 0)) reads Err 1)
    ∷ ((0 ∷ 1 ∷ 3 ∷ 0 ∷ []) reads Err 1)
    ∷ []

-- kind unknown (2), also where its length would be wrong; a kind has two bytes
abbrev unknown : List Row
unknown =
    (head 2 0 reads Err 2)
    ∷ (head 2 6 reads Err 2)
    ∷ ((head 3 6 ++ (0 ∷ [])) reads Err 2)
    ∷ ((2 ∷ 0 ∷ 3 ∷ 1 ∷ []) reads Err 2)
    ∷ []

-- wrong length for the kind (3), also where a value in it would not decode
abbrev wrong : List Row
wrong =
    ((head 10 1 ++ (10 ∷ replicate 7 0)) reads Err 3)
    ∷ ((head 12 1 ++ value 10 0 ++ (0 ∷ [])) reads Err 3)
    ∷ ((head 11 2 ++ value 10 0) reads Err 3)
    ∷ ((head 3 3 ++ (0 ∷ [])) reads Err 3)
    ∷ ((head 20 4 ++ value 10 0 ++ value 10 0) reads Err 3)
    ∷ ((head 5 5 ++ replicate 3 0) reads Err 3)
    ∷ []

-- undecodable value (4): a kind above 9, Nil with a payload, a Boolean above 1, in either place of a set
abbrev bad : List Row
bad =
    ((head 11 1 ++ value 10 0) reads Err 4)
    ∷ ((head 11 4 ++ value 0 1) reads Err 4)
    ∷ ((head 20 2 ++ value 1 2 ++ value 1 1) reads Err 4)
    ∷ ((head 20 2 ++ value 1 1 ++ value 1 2) reads Err 4)
    ∷ []

-- requests, and bytes after one, which are not looked at
abbrev good : List Row
good =
    ((head 11 1 ++ value 4 7) reads Ok (Some (Get (words 4 7))))
    ∷ ((head 20 2 ++ value 4 7 ++ value 0 0) reads Ok (Some (Set (words 4 7) (words 0 0))))
    ∷ (head 2 3 reads Ok (Some Length))
    ∷ ((head 2 3 ++ (9 ∷ [])) reads Ok (Some Length))
    ∷ ((head 11 4 ++ value 0 0) reads Ok (Some (Next (words 0 0))))
    ∷ ((head 6 5 ++ (1 ∷ 2 ∷ 3 ∷ 4 ∷ [])) reads Ok (Some (Reserve 0x04030201)))
    ∷ []

-- 01's whole example: 2.0 is set to true, then 2 is got
abbrev set_bytes : List ℕ
set_bytes = 0x14 ∷ 0x00 ∷ 0x02 ∷ 0x00 ∷ 0x03 ∷ replicate 7 0 ++ (0x40 ∷ 0x01 ∷ 0x01 ∷ replicate 7 0)

abbrev get_bytes : List ℕ
get_bytes = 0x0B ∷ 0x00 ∷ 0x01 ∷ 0x00 ∷ 0x02 ∷ 0x02 ∷ replicate 7 0

abbrev whole : List Row
whole = ((set_bytes ++ get_bytes) reads Ok (Some (Set (words 3 0x4000000000000000) (words 1 1)))) ∷ (get_bytes reads Ok (Some (Get (words 2 2)))) ∷ []

abbrev pub rows : List Row
rows = left ++ short ++ cuts ++ unknown ++ wrong ++ bad ++ good ++ whole
